use mathlib.Core.Path.{◌≡◌, refl, sym, ◌∙◌}
use native.Mathlib.Nat.{not-suc-le-zero}
use native.Mathlib.Omega.{arith}
use borrow.Author.Rules.{rules}
use lib.ListN.{length, length-set}
use Rattle.abi.proofs.Outputs.{copied_more, copied_all}
use Rattle.abi.proofs.answers.copy.Goals as goal

pub loop-i-init : goal.loop-i-init
loop-i-init c = (refl, λ i l. absurd (not-suc-le-zero l))

pub loop-i-preserved : goal.loop-i-preserved
loop-i-preserved c =
    (simp length-set c.loop-i.invariant.0, copied_more c.args.from.now c.loop-i.output c.loop-i.i (search rules) c.loop-i.invariant.1)

pub returns : goal.returns
returns c =
    let e : c.loop-i.i ≡ length c.loop-i.output = omega (arith, c.loop-i.auto.i-end, c.loop-i.invariant.0, c.loop-i-test.false) in
    copied_all c.args.from.now c.loop-i.output (c.requires ∙ sym c.loop-i.invariant.0) (rw e at c.loop-i.invariant.1)
