use native.Mathlib.Omega.{arith}
use Rattle.index.proofs.Orders.{index_fits}
use Rattle.index.proofs.Removes.{ranks_in, removed}
use Rattle.index.proofs.remove.Goals as goal

pub clear-requires : goal.clear-requires
clear-requires c =
    let f = index_fits _ _ _ c.requires.0 in (c.requires.1, omega arith, ranks_in _ _ _ _ _ c.requires.0 c.requires.2)

pub move_down-requires : goal.move_down-requires
move_down-requires c =
    let f = index_fits _ _ _ c.requires.0 in (c.requires.1, c.requires.2, f)

pub returns : goal.returns
returns c =
    removed _ _ _ _ _ _ _ c.requires.0 c.requires.1 c.requires.2 c.clear.ensures c.move_down.ensures
