use Rattle.std.proofs.Common.{◌≡◌, ◌+◌, ◌≤◌, drop}
use Rattle.index.specs.Index.{used_count}
use Rattle.index.proofs.count_used.Given as goal

abbrev pub invariant-loop-k : goal.invariant-loop-k
invariant-loop-k l = (l.n ≤ l.k-index) × (l.n + used_count (drop l.k-index l.keys) ≡ used_count l.keys)
