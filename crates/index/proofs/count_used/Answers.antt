use Rattle.std.proofs.Common.{arith}
use Rattle.std.proofs.lemmas.List.{at_drop_all}
use Rattle.index.specs.Index.{used_count}
use Rattle.index.proofs.Counts.{count_zero, count_held}
use Rattle.index.proofs.count_used.Goals as goal
use Rattle.index.proofs.count_used.Goals.{then-k-ne0, else-k-ne0}

pub loop-k-preserved : goal.loop-k-preserved
loop-k-preserved c =
    let ks = c.args.keys.now in
    let i = c.loop-k.k-index in
    elim c.if-k-ne0.branch [
      | then-k-ne0 w ↦ let h = count_held ks i c.loop-k-test.true w.if-k-ne0.true in (omega arith, omega arith)
      | else-k-ne0 w ↦ let h = count_zero ks i c.loop-k-test.true w.if-k-ne0.false in (omega arith, omega arith)
    ]

pub returns : goal.returns
unfolding used_count
returns c = omega (arith, at_drop_all used_count c.args.keys.now c.loop-k.k-index c.loop-k-test.false)
