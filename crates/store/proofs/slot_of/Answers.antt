use Rattle.store.proofs.Slots.{part_index, part_seek}
use Rattle.store.proofs.slot_of.Goals as goal

pub find-requires : goal.find-requires
find-requires c =
    (part_index _ _ _ c.requires.0, c.requires.1)

pub returns : goal.returns
returns c =
    part_seek _ _ _ c.requires.0 _ _ c.find.ensures
