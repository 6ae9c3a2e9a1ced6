use Rattle.std.proofs.Common.{leb, ap, sym, ◌∙◌, arith}
use lib.Count.{ones, ones-ones}
use borrow.Author.Tests.{le-leb}
use Rattle.bits.proofs.Words.{ones_pos}
use Rattle.bits.proofs.Loops.{rest_start, rest_more, rest_end}
use Rattle.bits.proofs.has_ones.Goals as goal
use Rattle.bits.proofs.has_ones.Goals.{then-w-ne0+else-n-found, else-w-ne0}

pub loop-w-init : goal.loop-w-init
loop-w-init c = let h = rest_start c.args.ws.now c.args.skip c.requires.2 in (omega arith, omega arith)

pub returns-then-n-found : goal.returns-then-n-found
returns-then-n-found c =
    let h = rest_more c.args.ws.now c.args.skip c.loop-w.w-index c.loop-w-test.true c.type_inv.ws in
    let one = ones_pos _ c.if-w-ne0.true in
    sym (le-leb _ _ (omega arith))

pub loop-w-preserved : goal.loop-w-preserved
loop-w-preserved c =
    let h = rest_more c.args.ws.now c.args.skip c.loop-w.w-index c.loop-w-test.true c.type_inv.ws in
    elim c.if-w-ne0.branch [
      | then-w-ne0+else-n-found w ↦ (omega arith, omega arith)
      | else-w-ne0 w ↦ let z = ap ones w.if-w-ne0.false ∙ ones-ones 0 in (omega arith, omega arith)
    ]

pub returns : goal.returns
returns c = ap (leb c.args.n) (omega (arith, rest_end c.args.ws.now c.args.skip c.loop-w.w-index c.loop-w-test.false))
