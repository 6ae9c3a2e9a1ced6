use Rattle.std.proofs.Common.{◌≤◌}
use Rattle.card.proofs.main.Given as goal

-- No more paths are right than were walked.
abbrev pub invariant-loop-path : goal.invariant-loop-path
invariant-loop-path l = l.right ≤ l.path-index
