use mathlib.Core.Path.{◌≡◌}
use mathlib.Core.Bool.{true}
use Prim.Native.Nat.{ℕ, ◌-◌, ◌<◌}
use Rattle.store.specs.Mem.{mem}
use Rattle.formed.specs.WellFormed.{slot_byte}
use Rattle.compare.proofs.Meaning.{beside}
use Rattle.compare.proofs.Walk.{Ranks, Seen}
use Rattle.compare.proofs.on_formed.covered.Given as goal

abbrev pub invariant-loop-j : goal.invariant-loop-j
invariant-loop-j l =
    (l.equal ≡ true) × ((r : ℕ) → r < l.j → slot_byte (mem l.left_bytes l.left_keys l.left_order l.left_words) l.s r ≡ beside (mem l.left_bytes l.left_keys l.left_order l.left_words) (mem l.right_bytes l.right_keys l.right_order l.right_words) l.s r)

abbrev pub invariant-chunks : goal.invariant-chunks
invariant-chunks l =
    (l.equal ≡ true) × Ranks (mem l.left_bytes l.left_keys l.left_order l.left_words) (mem l.right_bytes l.right_keys l.right_order l.right_words) l.e l.i

abbrev pub decreases-chunks : goal.decreases-chunks
decreases-chunks l = l.held - l.i

abbrev pub invariant-pages : goal.invariant-pages
invariant-pages l =
    (l.equal ≡ true) × Seen (mem l.left_bytes l.left_keys l.left_order l.left_words) (mem l.right_bytes l.right_keys l.right_order l.right_words) l.e l.i
