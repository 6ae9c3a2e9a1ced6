use Rattle.index.proofs.Orders.{index_fits, index_rises}
use Rattle.index.proofs.find.Goals as goal

pub rank-at-requires : goal.rank-at-requires
rank-at-requires c = (index_fits _ _ _ c.requires.0, index_rises _ _ _ c.requires.0)
