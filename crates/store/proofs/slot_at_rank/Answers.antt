use Rattle.store.proofs.Slots.{part_index, part_rank, part_seek}
use Rattle.store.proofs.slot_at_rank.Goals as goal

pub place_at-requires : goal.place_at-requires
place_at-requires c =
    (part_index _ _ _ c.requires.0, c.requires.2, part_rank _ _ _ c.requires.0 _ _ c.requires.1)

pub returns : goal.returns
returns c =
    part_seek _ _ _ c.requires.0 _ _ c.place_at.ensures
