-- A word in one piece: where its bytes lie, and which slots its chunks have.
-- Assumes nothing.
use mathlib.Core.Path.{◌≡◌, ap, ◌∙◌}
use mathlib.Core.List.{List}
use mathlib.Core.Logic.{⊎_elim}
use Prim.Native.Nat.{ℕ, ◌+◌, ◌*◌, ◌/◌, ◌%◌, ◌≤◌, ◌<◌}
use native.Mathlib.Omega.{arith}
use Rattle.index.proofs.Logic.{lt_or_ge}
use Rattle.store.specs.Mem.{slot_count}
use Rattle.store.specs.Find.{slot_for, Findable, Follows}
use Rattle.store.proofs.Finds.{next_slot}
use Rattle.bodies.specs.Words.{place_in}
use Rattle.bodies.proofs.Copies.{place_low, place_high}
use Rattle.hints.specs.Hints.{last_slot, InOnePiece}

module _ (keys order words : List ℕ) (p a s : ℕ) (first : s ≡ slot_for keys words p (a / 256)) (in_slots : s < slot_count words) where
  -- a word in one chunk
  pub one_piece : a % 256 ≤ 224 → InOnePiece keys words p a s
  one_piece l =
      let e : last_slot s a ≡ s = omega arith in
      let k : a / 256 ≡ (a + 31) / 256 = omega arith in
      record { first = first; last = e ∙ first ∙ ap (slot_for keys words p) k; last_in = omega arith }

  -- a word over two chunks whose slots follow each other
  pub two_piece : Findable keys order words → a ≤ 4294967295 → 224 < a % 256 → (r : ℕ) → r < slot_count words → Follows keys s r → InOnePiece keys words p a s
  two_piece f small l r lr t =
      let n = t.next in
      let e : last_slot s a ≡ r = omega arith in
      let k : a / 256 + 1 ≡ (a + 31) / 256 = omega arith in
      record { first = first; last = e ∙ next_slot keys order words p (a / 256) s r f (omega arith) first in_slots lr t ∙ ap (slot_for keys words p) k; last_in = omega arith }

-- its bytes follow each other
pub piece_place : (s a i : ℕ) → i < 32 → place_in s (last_slot s a) (a % 256) i ≡ 256 * s + a % 256 + i
piece_place s a i l =
    ⊎_elim
    (λ (h : a % 256 + i < 256). place_low s (last_slot s a) (a % 256) i h ∙ (let q : 256 * s + (a % 256 + i) ≡ 256 * s + a % 256 + i = omega arith in q))
    (λ (h : 256 ≤ a % 256 + i). place_high s (last_slot s a) (a % 256) i h ∙ omega arith)
    (lt_or_ge (a % 256 + i) 256)

-- and lie in the slots
pub piece_inside : (s a c : ℕ) → last_slot s a < c → 256 * s + a % 256 + 32 ≤ 256 * c
piece_inside s a c l = omega arith
