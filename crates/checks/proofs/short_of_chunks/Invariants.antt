use mathlib.Core.Path.{◌≡◌}
use Prim.Native.Nat.{◌+◌, ◌≤◌}
use Rattle.store.specs.Keys.{key_of}
use Rattle.store.specs.Indexed.{Ranked}
use Rattle.view.specs.Steps as spec
use Rattle.checks.proofs.Tables.{holds_at}
use Rattle.checks.proofs.short_of_chunks.Given as goal

abbrev pub invariant-loop-i : goal.invariant-loop-i
invariant-loop-i l =
    (l.i ≤ l.count) × (l.missing ≤ l.pool) × (l.missing ≡ spec.missing (holds_at l.keys l.words l.e) l.first l.i) × Ranked l.keys l.order l.words (key_of l.e (l.first + l.i)) l.at
