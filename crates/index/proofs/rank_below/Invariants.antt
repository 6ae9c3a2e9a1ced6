use Prim.Native.Nat.{ℕ, ◌+◌, ◌≤◌, ◌<◌}
use Rattle.index.specs.Index.{key_at}
use Rattle.index.proofs.rank_below.Given as goal

abbrev pub invariant-loop-len : goal.invariant-loop-len
invariant-loop-len l = (l.base + l.len ≤ l.n) × ((i : ℕ) → i < l.base → key_at l.keys l.order i < l.k) × ((i : ℕ) → l.base + l.len ≤ i → i < l.n → l.k ≤ key_at l.keys l.order i)

abbrev pub decreases-loop-len : goal.decreases-loop-len
decreases-loop-len l = l.len
