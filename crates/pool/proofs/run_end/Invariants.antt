use Rattle.pool.specs.Give.{SlotRun}
use Rattle.pool.proofs.run_end.Given as goal

abbrev pub invariant-loop-i : goal.invariant-loop-i
invariant-loop-i l = SlotRun l.order l.from l.to l.i
