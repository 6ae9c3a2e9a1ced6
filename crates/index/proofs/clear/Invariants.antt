use Rattle.std.proofs.Common.{◌+◌}
use Rattle.index.specs.Index.{Cleared}
use Rattle.index.proofs.clear.Given as goal

abbrev pub invariant-loop-s : goal.invariant-loop-s
invariant-loop-s l = Cleared l.initial.keys l.order l.from (l.from + l.s-index) l.keys
