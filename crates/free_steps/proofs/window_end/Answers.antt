use Rattle.free_steps.proofs.Windows.{touched_few, end_past, end_within}
use Prim.Native.Nat.{ℕ, ◌+◌, ◌/◌}
use mathlib.Core.Path.{ap}
use mathlib.Core.Path.{◌∙◌}
use native.Mathlib.Omega.{arith}
use Rattle.free_steps.proofs.window_end.Goals as goal

pub overflow_add-end : goal.overflow_add-end
overflow_add-end c =
    let e = c.touched.ensures in let t = touched_few c.args.start.0 c.args.length in omega (arith, c.well_formed.0, c.ranges.length)

pub returns-then-end : goal.returns-then-end
returns-then-end c =
    let e = c.touched.ensures in let l = c.if-end.true in end_past c.args.start.0 c.args.length (omega arith)

pub returns : goal.returns
returns c =
    let e = c.touched.ensures in let l = c.if-end.false in ap (λ (x : ℕ). c.args.start.0 / 256 + x) e ∙ end_within c.args.start.0 c.args.length (omega arith)

pub overflow_cast-result : goal.overflow_cast-result
overflow_cast-result c = let l = c.if-end.false in omega arith
