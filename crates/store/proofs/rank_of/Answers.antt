use Rattle.index.proofs.Orders.{index_rises}
use Rattle.store.proofs.Slots.{part_index, part_fits, rank_part}
use Rattle.store.proofs.rank_of.Goals as goal

pub rank-requires : goal.rank-requires
rank-requires c =
    (part_fits _ _ _ c.requires, index_rises _ _ _ (part_index _ _ _ c.requires))

pub returns : goal.returns
returns c = rank_part _ _ _ c.requires _ _ c.rank.ensures
