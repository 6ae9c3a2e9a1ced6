use Rattle.pool.proofs.Gives.{wipe_none, run_in, wipe_more, wipe_end}
use borrow.Author.Rules.{rules}
use native.Mathlib.Omega.{arith}
use Rattle.pool.proofs.wipe.Goals as goal

pub overflow_cast-order : goal.overflow_cast-order
overflow_cast-order c =
    omega (arith, c.type_inv.order c.loop-i.i)

pub overflow_mul-order : goal.overflow_mul-order
overflow_mul-order c =
    let l = run_in _ _ _ _ _ _ _ c.requires.2 c.loop-i.invariant.0 c.loop-i.invariant.2 c.run_end-end.ensures in omega arith

pub overflow_mul-end : goal.overflow_mul-end
overflow_mul-end c =
    let l = run_in _ _ _ _ _ _ _ c.requires.2 c.loop-i.invariant.0 c.loop-i.invariant.2 c.run_end-end.ensures in omega arith

pub clear-requires : goal.clear-requires
clear-requires c =
    let l = run_in _ _ _ _ _ _ _ c.requires.2 c.loop-i.invariant.0 c.loop-i.invariant.2 c.run_end-end.ensures in omega arith

pub loop-i-preserved : goal.loop-i-preserved
loop-i-preserved c =
    let u = c.run_end-end.ensures in
    (omega (arith, u.some, c.loop-i.invariant.0), u.end, wipe_more _ _ _ _ _ _ _ _ c.loop-i.invariant.0 c.loop-i.invariant.2 u c.clear.ensures)

pub returns : goal.returns
returns c =
    wipe_end _ _ _ _ _ _ c.loop-i.invariant.2 c.loop-i.invariant.1 c.loop-i-test.false

pub loop-i-init : goal.loop-i-init
loop-i-init c = (search rules, search rules, wipe_none _ _ _ _ (omega arith))
