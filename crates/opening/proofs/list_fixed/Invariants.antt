use Rattle.opening.specs.Opening.{FirstPages}
use Rattle.opening.proofs.list_fixed.Given as goal

abbrev pub invariant-loop-i : goal.invariant-loop-i
invariant-loop-i l = FirstPages l.words l.entries l.order l.i
