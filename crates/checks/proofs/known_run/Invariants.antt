use Prim.Native.Nat.{ℕ, ◌+◌, ◌≤◌, ◌<◌}
use Rattle.store.specs.Mem.{slot_count}
use Rattle.store.specs.Find.{slot_for}
use Rattle.checks.proofs.known_run.Given as goal

abbrev pub invariant-loop-i : goal.invariant-loop-i
invariant-loop-i l =
    (x : ℕ) → l.first ≤ x → x < l.first + l.i → slot_for l.keys l.words l.page.0 x < slot_count l.words
