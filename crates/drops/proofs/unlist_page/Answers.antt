use Rattle.drops.proofs.Drops.{pages_n}
use Rattle.drops.proofs.Drops.{rank_few}
use Rattle.drops.proofs.Drops.{part_pages, part_ranks, rank_lt, unlisted}
use Rattle.index.proofs.Orders.{index_rises}
use native.Mathlib.Omega.{arith}
use Rattle.drops.proofs.unlist_page.Goals as goal

pub rank_below-r-requires : goal.rank_below-r-requires
rank_below-r-requires c =
    (part_ranks _ _ _ _ _ c.requires, index_rises _ _ _ (part_pages _ _ _ _ _ c.requires))

pub overflow_add-r : goal.overflow_add-r
overflow_add-r c =
    let h = rank_few _ _ _ _ _ c.requires _ c.rank_below-r.ensures in omega arith

pub remove-requires : goal.remove-requires
remove-requires c =
    let h = rank_lt _ _ _ _ _ c.requires _ c.rank_below-r.ensures in (part_pages _ _ _ _ _ c.requires, omega arith, omega arith)

pub overflow_sub-words : goal.overflow_sub-words
overflow_sub-words c =
    let h = rank_lt _ _ _ _ _ c.requires _ c.rank_below-r.ensures in omega arith

pub returns : goal.returns
returns c =
    (unlisted _ _ _ _ _ c.requires _ c.rank_below-r.ensures _ _ c.remove.ensures, pages_n _ _ _ _ _ c.requires _ c.rank_below-r.ensures _ _ c.remove.ensures)
