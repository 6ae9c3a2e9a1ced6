-- What a call that is not refused has passed.
-- Assumes nothing.
use mathlib.Core.Path.{◌≡◌, refl, sym, ap, ◌∙◌}
use mathlib.Core.Bool.{Bool, true, false, not, ◌&&◌, ◌||◌, false≢true}
use mathlib.Core.List.{[], ◌∷◌}
use mathlib.Core.Logic.{⊎_elim}
use Prim.Native.Nat.{ℕ, zero, suc, ◌+◌, ◌/◌, ◌^◌, ◌<◌, ◌≤◌}
use native.Mathlib.Omega.{arith}
use lib.Dec.{ltb, eqb}
use lib.ListN.{length}
use borrow.Author.Tests.{lt-ltb, lt-leb, le-leb, ltb-false, eq-eqb}
use Rattle.view.proofs.Refused.{none_first, Refusals, end, next}
use Rattle.outcome.specs.Outcome.{refused}
use Rattle.index.proofs.Logic.{lt_or_ge}
use Rattle.page_ids.specs.Decode.{Page, none, page, decoded, is_none, is_dynamic, is_fixed}
use Rattle.formed.specs.Pages.{fixed, dynamic, journal_count, journal_page}
use Rattle.view.specs.View.{View, Setting}
use Rattle.view.specs.Steps.{missing, touched_count, aligned_count}
use Rattle.view.specs.Checks.{undecodable, overfull, capacity_checks, capacity_checks_at, word_write_checks, byte_write_checks, allocate_checks}
use Rattle.view.specs.Calls.{first_refusal}

-- ---- the tests of a write
decodable_by : (d : Page) → is_none d ≡ false → (is_fixed d || is_dynamic d) ≡ true
decodable_by none e = absurd (false≢true (sym e))
decodable_by (page k g) e =
    ⊎_elim (λ (l : k < 3). rw (lt-leb 3 k l, lt-ltb k 3 l) refl) (λ (l : 3 ≤ k). rw (le-leb 3 k l) refl) (lt_or_ge k 3)

pub decodable : (s : Setting) (p : ℕ) → undecodable s p ≡ false → (fixed s.layout p || dynamic s.layout p) ≡ true
unfolding undecodable fixed dynamic
decodable s p e = decodable_by (decoded s.layout p) e

entry_by : (a : Bool) (n : ℕ) → (not a && eqb n 0) ≡ false → a ≡ false → 0 < n
entry_by true n e z = absurd (false≢true (sym z))
entry_by false zero e z = absurd (false≢true (sym e))
entry_by false (suc n) e z = omega arith

or_first : (a b : Bool) → (a || b) ≡ false → a ≡ false
or_first true b e = e
or_first false b e = refl

or_rest : (a b : Bool) → (a || b) ≡ false → b ≡ false
or_rest true b e = absurd (false≢true (sym e))
or_rest false b e = e

less_by : (own : Bool) (most n : ℕ) → (own && ltb most n) ≡ false → own ≡ true → n ≤ most
less_by own most n e t = ltb-false most n (sym (ap (λ (b : Bool). b && ltb most n) t) ∙ e)

words_by : (s : Setting) (v : View) (p w : ℕ) → overfull s v p w journal_count ≡ false → (j : ℕ) → j < journal_count → p ≡ journal_page s.layout j → length (v.journal j) + w ≤ s.journal_words
unfolding overfull
words_by s v p w e zero l q =
    less_by (eqb p (journal_page s.layout 0)) s.journal_words _ (or_first _ false (or_rest (eqb p (journal_page s.layout 1) && ltb s.journal_words (length (v.journal 1) + w)) _ e)) (eq-eqb p (journal_page s.layout 0) q)
words_by s v p w e (suc zero) l q =
    less_by (eqb p (journal_page s.layout 1)) s.journal_words _ (or_first (eqb p (journal_page s.layout 1) && ltb s.journal_words (length (v.journal 1) + w)) _ e) (eq-eqb p (journal_page s.layout 1) q)
words_by s v p w e (suc (suc j)) l q = absurd (omega arith)

-- 9, 10 and 11 of n chunks from number k on
pub record Room (s : Setting) (v : View) (p k n w : ℕ) : Type 0 where
  pub entry : v.allocated p ≡ false → 0 < v.entries_left
  pub chunks : missing (v.held p) k n ≤ v.pool
  pub words : (j : ℕ) → j < journal_count → p ≡ journal_page s.layout j → length (v.journal j) + w ≤ s.journal_words

pub room_passed : (s : Setting) (v : View) (p k n w : ℕ) → first_refusal (capacity_checks s v p k n w) ≡ 0 → Room s v p k n w
room_passed s v p k n w e =
    let a₉ = none_first (not (v.allocated p) && eqb v.entries_left 0) 8 ((ltb v.pool (missing (v.held p) k n), refused 10) ∷ (overfull s v p w journal_count, refused 11) ∷ []) e in
    let a₁₀ = none_first (ltb v.pool (missing (v.held p) k n)) 9 ((overfull s v p w journal_count, refused 11) ∷ []) a₉.1 in
    let a₁₁ = none_first (overfull s v p w journal_count) 10 [] a₁₀.1 in
    record { entry = entry_by (v.allocated p) v.entries_left a₉.0; chunks = ltb-false v.pool (missing (v.held p) k n) a₁₀.0; words = words_by s v p w a₁₁.0 }

-- of n bytes at address a
module _ (s : Setting) (v : View) (p a n w : ℕ) where
  pub room_refusals : Refusals (capacity_checks_at s v p a n w)
  room_refusals = next (next (next end))

  abbrev pub RoomAt : Type 0
  RoomAt = Room s v p (a / 256) (touched_count a n) w

  pub room_at : first_refusal (capacity_checks_at s v p a n w) ≡ 0 → RoomAt
  room_at e = room_passed s v p (a / 256) (touched_count a n) w e

-- a word write, a byte write, an allocation
module _ (s : Setting) (v : View) (p a : ℕ) where
  pub word_passed : first_refusal (word_write_checks s v p a) ≡ 0 → (undecodable s p ≡ false) × RoomAt s v p a 32 1
  word_passed e = let h = none_first (undecodable s p) 3 (capacity_checks_at s v p a 32 1) e in (h.0, room_at s v p a 32 1 h.1)

  pub bytes_passed : (n : ℕ) → first_refusal (byte_write_checks s v p a n) ≡ 0 → (undecodable s p ≡ false) × (a + n ≤ 2 ^ 32) × RoomAt s v p a n (aligned_count a n)
  bytes_passed n e =
      let h = none_first (undecodable s p) 3 ((ltb (2 ^ 32) (a + n), refused 8) ∷ capacity_checks_at s v p a n (aligned_count a n)) e in
      let k = none_first (ltb (2 ^ 32) (a + n)) 7 (capacity_checks_at s v p a n (aligned_count a n)) h.1 in
      (h.0, ltb-false (2 ^ 32) (a + n) k.0, room_at s v p a n (aligned_count a n) k.1)

  pub allocate_passed : (n : ℕ) → first_refusal (allocate_checks s v p n) ≡ 0 → (undecodable s p ≡ false) × (fixed s.layout p ≡ false) × (v.allocated p ≡ false) × RoomAt s v p 0 n 0
  allocate_passed n e =
      let h = none_first (undecodable s p) 3 ((fixed s.layout p, refused 5) ∷ (v.allocated p, refused 6) ∷ capacity_checks_at s v p 0 n 0) e in
      let k = none_first (fixed s.layout p) 4 ((v.allocated p, refused 6) ∷ capacity_checks_at s v p 0 n 0) h.1 in
      let l = none_first (v.allocated p) 5 (capacity_checks_at s v p 0 n 0) k.1 in
      (h.0, k.0, l.0, room_at s v p 0 n 0 l.1)
