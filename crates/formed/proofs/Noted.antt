-- The tests of the journals.
-- Assumes nothing.
use mathlib.Core.Path.{◌≡◌, sym, ap, ◌∙◌}
use mathlib.Core.Bool.{Bool, true, ◌&&◌}
use mathlib.Core.List.{List, []}
use Prim.Native.Nat.{ℕ, ◌+◌, ◌*◌, ◌/◌, ◌<◌}
use native.Mathlib.Nat.{mul_assoc}
use Rattle.std.proofs.Common.{add-zero}
use native.Mathlib.Omega.{arith}
use lib.Dec.{leb, eqb}
use lib.ListN.{get_or, take, drop}
use lib.Seq.{get_or-take, get_or-drop}
use borrow.Author.Tests.{le-leb, eq-eqb, leb-true, eqb-true}
use Rattle.std.specs.Simd.{first_chunks}
use Rattle.store.specs.Keys.{key_of}
use Rattle.index.proofs.Logic.{and_left, and_right, and_both}
use Rattle.store.specs.Mem.{Mem, journal_words, holders}
use Rattle.formed.proofs.Each.{get_or-first_chunks}
use Rattle.formed.specs.Pages.{journal_place}
use Rattle.formed.specs.Parts.{note_place, note_address, note_first, note_last}
use Rattle.formed.specs.Formed.{noted}
use Rattle.formed.specs.WellFormed.{holder, NotedRight}

-- the numbers of a journal's words
note_at : (w : List ℕ) (n j i c : ℕ) → i < n → c < 3 → (x y : ℕ) → x ≡ 3 * i + c → y ≡ 16 + 3 * (n * j + i) + c → get_or (take (3 * n) (drop (16 + 3 * n * j) w)) x 0 ≡ get_or w y 0
note_at w n j i c l h x y ex ey =
    let q : 3 * n * j ≡ 3 * (n * j) = mul_assoc 3 n j in
    let e : 16 + 3 * n * j + x ≡ y = omega arith in
    get_or-take (3 * n) (drop (16 + 3 * n * j) w) x 0 (omega arith) ∙ get_or-drop (16 + 3 * n * j) w x 0 ∙ ap (λ (z : ℕ). get_or w z 0) e

-- the numbers cut into three a word
module _ (hs ns : List ℕ) (k m i : ℕ) (l : i < m) where
  number_cut : (j : ℕ) → j < 3 → get_or (get_or (first_chunks 3 m ns) i []) j 0 ≡ get_or ns (3 * i + j) 0
  number_cut j h = ap (λ (x : List ℕ). get_or x j 0) (get_or-first_chunks 3 m i ns [] l) ∙ get_or-take 3 (drop (3 * i) ns) j 0 h ∙ get_or-drop (3 * i) ns j 0

  pub noted_cut : noted hs (get_or (first_chunks 3 m ns) i []) k 0 ≡ noted hs ns k i
  noted_cut = rw (number_cut 0 (omega arith), number_cut 1 (omega arith), number_cut 2 (omega arith), add-zero)

module _ (m : Mem) (j i : ℕ) (l : i < journal_words m.words) where
  abbrev ns : List ℕ
  ns = take (3 * journal_words m.words) (drop (16 + 3 * journal_words m.words * j) m.words)

  note_0 : get_or ns (3 * i) 0 ≡ note_address m j i
  note_0 = note_at m.words (journal_words m.words) j i 0 l (omega arith) (3 * i) (note_place m.words j i) (omega arith) (omega arith)

  note_1 : get_or ns (3 * i + 1) 0 ≡ note_first m j i
  note_1 = note_at m.words (journal_words m.words) j i 1 l (omega arith) (3 * i + 1) (note_place m.words j i + 1) (omega arith) (omega arith)

  note_2 : get_or ns (3 * i + 2) 0 ≡ note_last m j i
  note_2 = note_at m.words (journal_words m.words) j i 2 l (omega arith) (3 * i + 2) (note_place m.words j i + 2) (omega arith) (omega arith)

  abbrev note_test : ℕ → ℕ → ℕ → Bool
  note_test a s t = leb a 4294967295 && (eqb (holder m s) (key_of (journal_place j) 0 + a / 256) && eqb (holder m t) (key_of (journal_place j) 0 + (a + 31) / 256))

  noted_is : noted (holders m) ns (key_of (journal_place j) 0) i ≡ note_test (note_address m j i) (note_first m j i) (note_last m j i)
  noted_is = rw (note_0, note_1, note_2)

  abbrev a₀ : ℕ
  a₀ = note_address m j i

  abbrev H₁ : Bool
  H₁ = eqb (holder m (note_first m j i)) (key_of (journal_place j) 0 + a₀ / 256)

  abbrev H₂ : Bool
  H₂ = eqb (holder m (note_last m j i)) (key_of (journal_place j) 0 + (a₀ + 31) / 256)

  pub noted_means : noted (holders m) ns (key_of (journal_place j) 0) i ≡ true → NotedRight m j i
  noted_means h =
      let t : note_test a₀ (note_first m j i) (note_last m j i) ≡ true = sym noted_is ∙ h in
      let t₂ = and_right (leb a₀ 4294967295) (H₁ && H₂) t in
      let k₁ = eqb-true (holder m (note_first m j i)) (key_of (journal_place j) 0 + a₀ / 256) (and_left H₁ H₂ t₂) in
      let k₂ = eqb-true (holder m (note_last m j i)) (key_of (journal_place j) 0 + (a₀ + 31) / 256) (and_right H₁ H₂ t₂) in
      record { address = leb-true a₀ 4294967295 (and_left (leb a₀ 4294967295) (H₁ && H₂) t); first = omega arith; last = omega arith }

  pub noted_test : NotedRight m j i → noted (holders m) ns (key_of (journal_place j) 0) i ≡ true
  noted_test r =
      let k₁ = r.first in
      let k₂ = r.last in
      noted_is ∙ and_both (leb a₀ 4294967295) (H₁ && H₂) (le-leb a₀ 4294967295 r.address)
      (and_both H₁ H₂ (eq-eqb (holder m (note_first m j i)) (key_of (journal_place j) 0 + a₀ / 256) (omega arith)) (eq-eqb (holder m (note_last m j i)) (key_of (journal_place j) 0 + (a₀ + 31) / 256) (omega arith)))
