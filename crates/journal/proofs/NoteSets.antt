-- The numbers of a note, after it was written.
-- Assumes nothing.
use mathlib.Core.Path.{◌≡◌, sym, ap, ◌∙◌}
use mathlib.Core.List.{List}
use Prim.Native.Nat.{ℕ, ◌+◌, ◌*◌, ◌%◌, ◌<◌}
use native.Mathlib.Omega.{arith}
use lib.ListN.{length, get_or, set, length-set}
use lib.Seq.{get_or-set_same, get_or-set_other}
use Rattle.formed.proofs.Same.{tab_at}
use Rattle.store.specs.Mem.{slot_count, journal_length}
use Rattle.formed.specs.Parts.{tab, word_number, old_place}
use Rattle.bodies.specs.Words.{place_in, Spread}
use Rattle.journal.specs.Words.{note_set, NotedAt}
use Rattle.bodies.proofs.Copies.{spread_same}

module _ (w : List ℕ) (l n a s t : ℕ) (small : l < 16) (inside : 16 + 3 * n + 2 < length w) where
  abbrev w₁ : List ℕ
  w₁ = set w (16 + 3 * n) a

  abbrev w₂ : List ℕ
  w₂ = set w₁ (16 + 3 * n + 1) s

  abbrev w₃ : List ℕ
  w₃ = set w₂ (16 + 3 * n + 2) t

  long₁ : length w₁ ≡ length w
  long₁ = length-set w (16 + 3 * n) a

  long₂ : length w₂ ≡ length w
  long₂ = length-set w₁ (16 + 3 * n + 1) s ∙ long₁

  long₃ : length w₃ ≡ length w
  long₃ = length-set w₂ (16 + 3 * n + 2) t ∙ long₂

  pub set_long : length (note_set w l n a s t) ≡ length w
  unfolding note_set
  set_long = length-set w₃ l (get_or w l 0 + 1) ∙ long₃

  pub set_other : (x : ℕ) → (x ≡ 16 + 3 * n → ⊥) → (x ≡ 16 + 3 * n + 1 → ⊥) → (x ≡ 16 + 3 * n + 2 → ⊥) → (x ≡ l → ⊥) → get_or (note_set w l n a s t) x 0 ≡ get_or w x 0
  unfolding note_set
  set_other x n₀ n₁ n₂ nl =
      get_or-set_other w₃ l x (get_or w l 0 + 1) 0 nl ∙ get_or-set_other w₂ (16 + 3 * n + 2) x t 0 n₂ ∙ get_or-set_other w₁ (16 + 3 * n + 1) x s 0 n₁ ∙ get_or-set_other w (16 + 3 * n) x a 0 n₀

  pub set_length : get_or (note_set w l n a s t) l 0 ≡ get_or w l 0 + 1
  unfolding note_set
  set_length = get_or-set_same w₃ l (get_or w l 0 + 1) 0 (let h = long₃ in omega arith)

  pub set_address : get_or (note_set w l n a s t) (16 + 3 * n) 0 ≡ a
  unfolding note_set
  set_address =
      get_or-set_other w₃ l (16 + 3 * n) (get_or w l 0 + 1) 0 (λ e. omega arith) ∙ get_or-set_other w₂ (16 + 3 * n + 2) (16 + 3 * n) t 0 (λ e. omega arith)
      ∙ get_or-set_other w₁ (16 + 3 * n + 1) (16 + 3 * n) s 0 (λ e. omega arith) ∙ get_or-set_same w (16 + 3 * n) a 0 (omega arith)

  pub set_first : get_or (note_set w l n a s t) (16 + 3 * n + 1) 0 ≡ s
  unfolding note_set
  set_first =
      get_or-set_other w₃ l (16 + 3 * n + 1) (get_or w l 0 + 1) 0 (λ e. omega arith) ∙ get_or-set_other w₂ (16 + 3 * n + 2) (16 + 3 * n + 1) t 0 (λ e. omega arith)
      ∙ get_or-set_same w₁ (16 + 3 * n + 1) s 0 (let h = long₁ in omega arith)

  pub set_last : get_or (note_set w l n a s t) (16 + 3 * n + 2) 0 ≡ t
  unfolding note_set
  set_last = get_or-set_other w₃ l (16 + 3 * n + 2) (get_or w l 0 + 1) 0 (λ e. omega arith) ∙ get_or-set_same w₂ (16 + 3 * n + 2) t 0 (let h = long₂ in omega arith)

-- what `note_at` leaves; n is the number that it computed
pub noted_at : (bytes words : List ℕ) (j a s t n : ℕ) (old bytes' : List ℕ) → n ≡ word_number words j (journal_length words j)
    → old ≡ tab 32 (λ i. get_or bytes (place_in s t (a % 256) i) 0)
    → Spread (λ i. 256 * slot_count words + 32 * n + i) (λ i. get_or old (0 + i) 0) 32 bytes bytes'
    → NotedAt bytes words j a s t bytes' (set (set (set (set words (16 + 3 * n) a) (16 + 3 * n + 1) s) (16 + 3 * n + 2) t) (12 + j) (journal_length words j + 1))
unfolding note_set
noted_at bytes words j a s t n old bytes' e q w = record {
  words_are = ap (λ (x : ℕ). set (set (set (set words (16 + 3 * x) a) (16 + 3 * x + 1) s) (16 + 3 * x + 2) t) (12 + j) (journal_length words j + 1)) e;
  old =
      spread_same (λ i. 256 * slot_count words + 32 * n + i) (λ i. get_or old (0 + i) 0) (λ i. old_place words j (journal_length words j) + i) (λ i. get_or bytes (place_in s t (a % 256) i) 0) 32 bytes bytes'
      (λ i l. (
        ap (λ (x : ℕ). 256 * slot_count words + 32 * x + i) (sym e),
        sym (ap (λ (x : List ℕ). get_or x (0 + i) 0) q ∙ ap (λ (x : ℕ). get_or (tab 32 (λ k. get_or bytes (place_in s t (a % 256) k) 0)) x 0) (let z : 0 + i ≡ i = omega arith in z) ∙ tab_at 32 (λ k. get_or bytes (place_in s t (a % 256) k) 0) i l),
      ))
      w;
}
