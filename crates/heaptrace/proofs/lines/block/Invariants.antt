use Rattle.std.proofs.Common.{length, ◌≤◌}
use Rattle.heaptrace.proofs.lines.block.Given as goal

abbrev pub invariant-loop-end : goal.invariant-loop-end
invariant-loop-end l = length l.rest ≤ length l.input

abbrev pub decreases-loop-end : goal.decreases-loop-end
decreases-loop-end l = length l.rest
