use Rattle.std.proofs.Common.{arith}
use Rattle.std.proofs.lemmas.Bool.Decides.{nat_tests}
use Rattle.index.specs.Index.{indexed}
use Rattle.index.proofs.index_ok.Goals as goal
use Rattle.index.proofs.index_ok.Goals.{then-n-order, else-n-order}

pub returns-then-count_used-n : goal.returns-then-count_used-n
unfolding indexed
returns-then-count_used-n c = grind (arith, nat_tests)

pub returns-else-count_used-n : goal.returns-else-count_used-n
unfolding indexed
returns-else-count_used-n c =
    elim c.if-n-order.branch [ then-n-order w ↦ grind (arith, nat_tests) | else-n-order w ↦ grind (arith, nat_tests) ]
