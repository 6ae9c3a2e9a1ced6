use Rattle.std.proofs.Common.{◌≤◌}
use Rattle.edges.proofs.walk.numbers_of.Given as goal

-- The next number has a place.
abbrev pub invariant-loop-byte : goal.invariant-loop-byte
invariant-loop-byte l = l.place ≤ 12
