-- Laws of words put back: the notes of a write undo it, a rollback goes page by page, and journals may be cut in two steps.
-- Assumes nothing.
use mathlib.Core.Path.{◌≡◌, refl, sym, ap, ◌∙◌}
use mathlib.Core.Logic.{◌⊎◌, inl, inr, ⊎_elim}
use mathlib.Core.List.{List, [], ◌∷◌, ◌++◌}
use mathlib.Core.Bool.{false}
use Prim.Native.Nat.{ℕ, zero, suc, ◌+◌, ◌*◌, ◌-◌, ◌/◌, ◌≤◌, ◌<◌}
use native.Mathlib.Omega.{arith}
use native.Mathlib.Nat.{le_of_suc-le-suc, not-suc-le-zero, eq-or-lt_of_le, lt_trans, lt-suc_self}
use lib.Dec.{leb, eqb}
use lib.ListN.{length, get_or, take, drop, take-append-drop}
use borrow.Author.Tests.{lt-ltb, le-ltb, le-leb, lt-leb, eq-eqb, ne_eqb}
use Rattle.formed.proofs.Same.{tab_at, tab_long}
use Rattle.index.proofs.Logic.{lt_or_ge, and_false_right}
use Rattle.page_ids.specs.declared.Layout.{Layout}
use Rattle.formed.specs.Pages.{journal_page}
use Rattle.formed.specs.Parts.{Note, tab}
use Rattle.view.specs.Steps.{over, undone, rolled_bytes, aligned_count}

-- ---- runs of bytes
-- ---- bytes written over others
module _ (p a : ℕ) (bs : List ℕ) (f : ℕ → ℕ → ℕ) where
  pub over_page : (q b : ℕ) → (q ≡ p → ⊥) → over p a bs f q b ≡ f q b
  unfolding over
  over_page q b ne = rw (ne_eqb q p ne)

  over_below : (q b : ℕ) → b < a → over p a bs f q b ≡ f q b
  unfolding over
  over_below q b l = rw (lt-leb a b l, and_false_right (eqb q p) false refl)

  over_past : (q b : ℕ) → a + length bs ≤ b → over p a bs f q b ≡ f q b
  unfolding over
  over_past q b g = rw (le-ltb b (a + length bs) g, and_false_right (leb a b) false refl, and_false_right (eqb q p) false refl)

  over_in : (b : ℕ) → a ≤ b → b < a + length bs → over p a bs f p b ≡ get_or bs (b - a) 0
  unfolding over
  over_in b g l = rw (eq-eqb p p refl, le-leb a b g, lt-ltb b (a + length bs) l)

-- it goes byte by byte
over_at : (p a : ℕ) (bs : List ℕ) (f g : ℕ → ℕ → ℕ) (q b : ℕ) → f q b ≡ g q b → over p a bs f q b ≡ over p a bs g q b
unfolding over
over_at p a bs f g q b e = rw e

-- ---- words put back
-- the newer words are put back before the older ones
pub undone_append : (p : ℕ) (older newer : List Note) (f : ℕ → ℕ → ℕ) → undone p (older ++ newer) f ≡ undone p older (undone p newer f)
unfolding undone
undone_append p [] newer f = refl
undone_append p (note ∷ older) newer f = ap (over p note.address note.old) (undone_append p older newer f)

-- and so the oldest last
undone_oldest : (p : ℕ) (note : Note) (newer : List Note) (f : ℕ → ℕ → ℕ) (q b : ℕ)
    → undone p (note ∷ newer) f q b ≡ over p note.address note.old (undone p newer f) q b
unfolding undone
undone_oldest p note newer f q b = ap (λ (g : ℕ → ℕ → ℕ). g q b) (undone_append p (note ∷ []) newer f)

undone_page : (p : ℕ) (notes : List Note) (f : ℕ → ℕ → ℕ) (q b : ℕ) → (q ≡ p → ⊥) → undone p notes f q b ≡ f q b
unfolding undone
undone_page p [] f q b ne = refl
undone_page p (note ∷ newer) f q b ne =
    undone_oldest p note newer f q b ∙ over_page p note.address note.old (undone p newer f) q b ne ∙ undone_page p newer f q b ne

pub undone_at : (p : ℕ) (notes : List Note) (f g : ℕ → ℕ → ℕ) (q b : ℕ) → f q b ≡ g q b → undone p notes f q b ≡ undone p notes g q b
unfolding undone
undone_at p [] f g q b e = e
undone_at p (note ∷ newer) f g q b e =
    undone_oldest p note newer f q b
    ∙ over_at p note.address note.old (undone p newer f) (undone p newer g) q b (undone_at p newer f g q b e)
    ∙ sym (undone_oldest p note newer g q b)

-- ---- the notes of a write
-- the word of f at an address
abbrev pub word_of : (ℕ → ℕ → ℕ) → ℕ → ℕ → Note
word_of f p a = record { address = a; old = tab 32 (λ i. f p (a + i)) }

-- b is a byte of one of the words at the first n of the addresses
pub record Covered (n : ℕ) (at : ℕ → ℕ) (b : ℕ) : Type 0 where
  pub word : ℕ
  pub among : word < n
  pub from : at word ≤ b
  pub to : b < at word + 32

module _ (p : ℕ) (f : ℕ → ℕ → ℕ) where
  -- a word put back gives its own bytes
  word_in : (a : ℕ) (g : ℕ → ℕ → ℕ) (b : ℕ) → a ≤ b → b < a + 32 → over p a (tab 32 (λ i. f p (a + i))) g p b ≡ f p b
  word_in a g b l h =
      let n : length (tab 32 (λ i. f p (a + i))) ≡ 32 = tab_long 32 (λ i. f p (a + i)) in
      let e : a + (b - a) ≡ b = omega arith in
      over_in p a (tab 32 (λ i. f p (a + i))) g b l (omega arith)
      ∙ tab_at 32 (λ i. f p (a + i)) (b - a) (omega arith)
      ∙ ap (f p) e

  -- and no others
  word_out : (a : ℕ) (g : ℕ → ℕ → ℕ) (b : ℕ) → (b < a) ⊎ (a + 32 ≤ b) → over p a (tab 32 (λ i. f p (a + i))) g p b ≡ g p b
  word_out a g b =
      ⊎_elim (λ l. over_below p a (tab 32 (λ i. f p (a + i))) g p b l)
      (λ h. let n : length (tab 32 (λ i. f p (a + i))) ≡ 32 = tab_long 32 (λ i. f p (a + i)) in
      over_past p a (tab 32 (λ i. f p (a + i))) g p b (omega arith))

  -- words of f put back over g give f where g has f's byte, and where one of them has it
  undone_words : (n : ℕ) (at : ℕ → ℕ) (g : ℕ → ℕ → ℕ) (b : ℕ) → (g p b ≡ f p b) ⊎ Covered n at b
      → undone p (tab n (λ i. word_of f p (at i))) g p b ≡ f p b
  unfolding undone tab
  undone_words zero at g b h = ⊎_elim (λ e. e) (λ c. absurd (not-suc-le-zero c.among)) h
  undone_words (suc n) at g b h =
      undone_oldest p (word_of f p (at 0)) (tab n (λ i. word_of f p (at (suc i)))) g p b
      ∙ ⊎_elim (λ l. outside (inl l) (undone_words n (λ i. at (suc i)) g b (later (inl l))))
      (λ k. ⊎_elim (λ l. word_in (at 0) (undone p (tab n (λ i. word_of f p (at (suc i)))) g) b k l)
      (λ m. outside (inr m) (undone_words n (λ i. at (suc i)) g b (later (inr m))))
      (lt_or_ge b (at 0 + 32)))
      (lt_or_ge b (at 0))
    where
      outside : (b < at 0) ⊎ (at 0 + 32 ≤ b) → undone p (tab n (λ i. word_of f p (at (suc i)))) g p b ≡ f p b
          → over p (at 0) (tab 32 (λ i. f p (at 0 + i))) (undone p (tab n (λ i. word_of f p (at (suc i)))) g) p b ≡ f p b
      outside o ih = word_out (at 0) (undone p (tab n (λ i. word_of f p (at (suc i)))) g) b o ∙ ih

      shifted : (b < at 0) ⊎ (at 0 + 32 ≤ b) → (w : ℕ) → w < suc n → at w ≤ b → b < at w + 32 → Covered n (λ i. at (suc i)) b
      shifted o zero l x y = absurd (⊎_elim (λ (z : b < at 0). omega arith) (λ (z : at 0 + 32 ≤ b). omega arith) o)
      shifted o (suc w) l x y = record { word = w; among = le_of_suc-le-suc l; from = x; to = y }

      later : (b < at 0) ⊎ (at 0 + 32 ≤ b) → (g p b ≡ f p b) ⊎ Covered n (λ i. at (suc i)) b
      later o = ⊎_elim (λ e. inl e) (λ c. inr (shifted o c.word c.among c.from c.to)) h

  -- so they undo a write whose every byte one of them has
  pub undone_write : (a : ℕ) (bs : List ℕ) (n : ℕ) (at : ℕ → ℕ) → ((b : ℕ) → a ≤ b → b < a + length bs → Covered n at b)
      → (b : ℕ) → undone p (tab n (λ i. word_of f p (at i))) (over p a bs f) p b ≡ f p b
  undone_write a bs n at cover b =
      undone_words n at (over p a bs f) b
      (⊎_elim (λ l. inl (over_below p a bs f p b l))
      (λ k. ⊎_elim (λ l. inr (cover b k l)) (λ m. inl (over_past p a bs f p b m)) (lt_or_ge b (a + length bs)))
      (lt_or_ge b a))

-- a word is its own note
pub word_covered : (a n : ℕ) → n ≡ 32 → (b : ℕ) → a ≤ b → b < a + n → Covered 1 (λ i. a) b
word_covered a n e b l h = record { word = 0; among = lt-suc_self 0; from = l; to = omega arith }

-- the aligned words have each byte
pub aligned_covered : (a n b : ℕ) → a ≤ b → b < a + n → Covered (aligned_count a n) (λ i. 32 * (a / 32 + i)) b
aligned_covered a zero b l h = absurd (omega arith)
aligned_covered a (suc n) b l h = record { word = b / 32 - a / 32; among = omega arith; from = omega arith; to = omega arith }

-- ---- each page of a rollback
module _ (l : Layout) (marks : ℕ → ℕ) (journal : ℕ → List Note) where
  -- a page of no journal stays
  pub rolled_others : (n : ℕ) (f : ℕ → ℕ → ℕ) (q b : ℕ) → ((j : ℕ) → j < n → q ≡ journal_page l j → ⊥) → rolled_bytes l marks journal n f q b ≡ f q b
  unfolding rolled_bytes
  rolled_others zero f q b ne = refl
  rolled_others (suc n) f q b ne =
      undone_page (journal_page l n) _ (rolled_bytes l marks journal n f) q b (ne n (lt-suc_self n)) ∙ rolled_others n f q b (λ j h. ne j (lt_trans h (lt-suc_self n)))

  -- that of journal j has its own words put back
  pub rolled_own : (n : ℕ) (f : ℕ → ℕ → ℕ) (j b : ℕ) → ((i k : ℕ) → i < k → k < n → journal_page l i ≡ journal_page l k → ⊥) → j < n
      → rolled_bytes l marks journal n f (journal_page l j) b ≡ undone (journal_page l j) (drop (marks j) (journal j)) f (journal_page l j) b
  unfolding rolled_bytes
  rolled_own zero f j b ne h = absurd (not-suc-le-zero h)
  rolled_own (suc n) f j b ne h =
      ⊎_elim last (λ k. below k (rolled_own n f j b (λ i m x y. ne i m x (lt_trans y (lt-suc_self n))) k)) (eq-or-lt_of_le (le_of_suc-le-suc h))
    where
      other : (i : ℕ) → i < n → journal_page l n ≡ journal_page l i → ⊥
      other i k e = ne i n k (lt-suc_self n) (sym e)

      last : j ≡ n → rolled_bytes l marks journal (suc n) f (journal_page l j) b ≡ undone (journal_page l j) (drop (marks j) (journal j)) f (journal_page l j) b
      last e = rw e (undone_at (journal_page l n) _ (rolled_bytes l marks journal n f) f (journal_page l n) b (rolled_others n f (journal_page l n) b other))

      below : j < n → rolled_bytes l marks journal n f (journal_page l j) b ≡ undone (journal_page l j) (drop (marks j) (journal j)) f (journal_page l j) b
          → rolled_bytes l marks journal (suc n) f (journal_page l j) b ≡ undone (journal_page l j) (drop (marks j) (journal j)) f (journal_page l j) b
      below k ih = undone_page (journal_page l n) _ (rolled_bytes l marks journal n f) (journal_page l j) b (ne j n k (lt-suc_self n)) ∙ ih

-- ---- cut journals: what a cut leaves past m, and what it takes
pub drop_cut : (m n : ℕ) (notes : List Note) → m ≤ n → drop m (take n notes) ++ drop n notes ≡ drop m notes
drop_cut zero n notes l = take-append-drop n notes
drop_cut (suc m) zero notes l = absurd (not-suc-le-zero l)
drop_cut (suc m) (suc n) [] l = refl
drop_cut (suc m) (suc n) (note ∷ notes) l = drop_cut m n notes (le_of_suc-le-suc l)
