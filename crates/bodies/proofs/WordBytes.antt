-- A word as the slots of its chunks have it.
-- Assumes nothing.
use mathlib.Core.Path.{◌≡◌, sym, ap, ◌∙◌}
use mathlib.Core.Logic.{⊎_elim}
use Prim.Native.Nat.{ℕ, ◌+◌, ◌*◌, ◌-◌, ◌/◌, ◌%◌, ◌≤◌, ◌<◌}
use native.Mathlib.Omega.{arith}
use lib.ListN.{get_or}
use lib.Seq.{get_or-take}
use Rattle.index.proofs.Logic.{lt_or_ge}
use Rattle.store.specs.Mem.{Mem, slot_count, chunk_bytes}
use Rattle.formed.specs.Parts.{slot_of_chunk, byte_at}
use Rattle.formed.specs.WellFormed.{WellFormed}
use Rattle.bodies.specs.Words.{place_in, InSlots}
use Rattle.bodies.proofs.Copies.{place_low, place_high}

-- the slots s and t hold the first and the last chunk of the 32 bytes at address a of page p
module _ (m : Mem) (p a s t : ℕ) (ls : s < slot_count m.words) (lt : t < slot_count m.words) where
  pub word_in_slots : WellFormed m → InSlots m.bytes s t (a % 256)
  word_in_slots f =
      let b = f.lengths.in_bytes in
      let c = f.lengths.chunks_hi in
      record { offset = omega arith; first_few = omega arith; last_few = omega arith; first = omega arith; last = omega arith }

  in_chunks : (x : ℕ) → x < 256 * slot_count m.words → get_or (chunk_bytes m) x 0 ≡ get_or m.bytes x 0
  in_chunks x l = get_or-take (256 * slot_count m.words) m.bytes x 0 l

  -- the bytes in the slots are those of the page
  pub word_byte : slot_of_chunk m p (a / 256) ≡ s → slot_of_chunk m p ((a + 31) / 256) ≡ t → (i : ℕ) → i < 32 → get_or m.bytes (place_in s t (a % 256) i) 0 ≡ byte_at m p (a + i)
  unfolding byte_at
  word_byte first last i l =
      ⊎_elim
      (λ (lo : a % 256 + i < 256).
      let q : (a + i) / 256 ≡ a / 256 = omega arith in
      let e : slot_of_chunk m p ((a + i) / 256) ≡ s = ap (slot_of_chunk m p) q ∙ first in
      let x : 256 * s + (a % 256 + i) ≡ 256 * slot_of_chunk m p ((a + i) / 256) + (a + i) % 256 = omega arith in
      ap (λ (y : ℕ). get_or m.bytes y 0) (place_low s t (a % 256) i lo) ∙ sym (in_chunks (256 * s + (a % 256 + i)) (omega arith)) ∙ ap (λ (y : ℕ). get_or (chunk_bytes m) y 0) x)
      (λ (hi : 256 ≤ a % 256 + i).
      let q : (a + i) / 256 ≡ (a + 31) / 256 = omega arith in
      let e : slot_of_chunk m p ((a + i) / 256) ≡ t = ap (slot_of_chunk m p) q ∙ last in
      let x : 256 * t + (a % 256 + i - 256) ≡ 256 * slot_of_chunk m p ((a + i) / 256) + (a + i) % 256 = omega arith in
      ap (λ (y : ℕ). get_or m.bytes y 0) (place_high s t (a % 256) i hi) ∙ sym (in_chunks (256 * t + (a % 256 + i - 256)) (omega arith)) ∙ ap (λ (y : ℕ). get_or (chunk_bytes m) y 0) x)
      (lt_or_ge (a % 256 + i) 256)
