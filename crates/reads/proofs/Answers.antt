-- The answers of the reads: which check decides.
-- Assumes nothing.
use mathlib.Core.Path.{◌≡◌, refl, sym, ap, ◌∙◌}
use mathlib.Core.Bool.{true, false, cond, ◌&&◌, false≢true}
use mathlib.Core.List.{List, []}
use Prim.Native.Nat.{ℕ, ◌*◌, ◌-◌, ◌≤◌, ◌<◌}
use native.Mathlib.Omega.{arith}
use lib.Dec.{eqb}
use lib.ListN.{length, get_or}
use borrow.Author.Tests.{lt-ltb, le-ltb, eq-eqb, ne_eqb, eqb-true}
use Rattle.formed.proofs.Same.{tab_long}
use Rattle.index.proofs.Logic.{and_left, and_right}
use Rattle.outcome.specs.Outcome.{Outcome, refused, done, carried_out, first_of}
use Rattle.store.specs.Mem.{Mem, journal_length}
use Rattle.formed.specs.Formed.{zeros, well_formed}
use Rattle.formed.specs.Pages.{journal_count}
use Rattle.formed.specs.Parts.{journal}
use Rattle.formed.specs.WellFormed.{WellFormed}
use Rattle.formed.proofs.Meaning.{well_formed_passes}
use Rattle.view.specs.View.{View, view_of}
use Rattle.view.specs.Steps.{run}
use Rattle.view.specs.Checks.{Check, on_memory, partial_checks, range_checks, lookup_checks}
use Rattle.view.specs.Calls.{shown}
use Rattle.reads.specs.Calls.{ReadDoes, RangeDoes}

-- ---- 3 is tested first
module _ {A : Type 0} (m : Mem) (checks : List (Check A)) (a : A) where
  pub ill : well_formed m ≡ false → on_memory m checks a ≡ refused 3
  ill f = rw f

  pub well : well_formed m ≡ true → on_memory m checks a ≡ first_of checks (done a)
  well f = rw f

  pub on_formed : WellFormed m → on_memory m checks a ≡ first_of checks (done a)
  on_formed f = well (well_formed_passes m f)

-- ---- the other checks
module _ {A : Type 0} (a : A) (start end : ℕ) where
  pub partial_over : 32 < end - start → first_of (partial_checks start end) (done a) ≡ refused 8
  partial_over l = rw (lt-ltb 32 (end - start) l)

  pub partial_within : end - start ≤ 32 → first_of (partial_checks start end) (done a) ≡ done a
  partial_within l = rw (le-ltb 32 (end - start) l)

  pub range_other : (n : ℕ) → (n ≡ end - start → ⊥) → first_of (range_checks start end n) (done a) ≡ refused 8
  range_other n l = rw (ne_eqb n (end - start) l)

  pub range_same : (n : ℕ) → n ≡ end - start → first_of (range_checks start end n) (done a) ≡ done a
  range_same n e = rw (eq-eqb n (end - start) e)

module _ {A : Type 0} (a : A) (z : List ℕ) where
  pub lookup_bad : (eqb (length z) 256 && zeros z) ≡ false → first_of (lookup_checks z) (done a) ≡ refused 8
  lookup_bad f = rw f

  pub lookup_good : (eqb (length z) 256 && zeros z) ≡ true → first_of (lookup_checks z) (done a) ≡ done a
  lookup_good f = rw f

-- ---- the contracts
module _ {A : Type 0} (o t : Outcome A) where
  not_done : (n : ℕ) → o ≡ refused n → carried_out o ≡ true → ⊥
  not_done n e q = false≢true (sym (ap carried_out e) ∙ q)

  not_refused : (a : A) → o ≡ done a → carried_out o ≡ false → ⊥
  not_refused a e q = false≢true (sym q ∙ ap carried_out e)

  pub read_refused : (n : ℕ) (v none : A) → t ≡ refused n → o ≡ refused n → v ≡ none → ReadDoes o t v none
  read_refused n v none e f q = record { answer = e ∙ sym f; zero = λ _. q }

  pub read_done : (v none : A) → t ≡ done v → o ≡ done v → ReadDoes o t v none
  read_done v none e f = record { answer = e ∙ sym f; zero = λ q. absurd (not_refused v f q) }

  pub range_refused : (n : ℕ) (bs l : List ℕ) → t ≡ refused n → o ≡ refused n → RangeDoes o t bs l l
  range_refused n bs l e f = record { answer = e ∙ sym f; kept = λ _. refl; read = λ q. absurd (not_done n f q) }

  pub range_done : (a : A) (bs l d : List ℕ) → t ≡ done a → o ≡ done a → d ≡ bs → RangeDoes o t bs l d
  range_done a bs l d e f q = record { answer = e ∙ sym f; kept = λ r. absurd (not_refused a f r); read = λ _. q }

-- the word w and the number k are told
pub pair_told : {w b k n : ℕ} → w ≡ b → k ≡ n → ◌≡◌ {A = Outcome (ℕ × ℕ)} (done (b, n)) (done (w, k))
pair_told e q = λ i. done (sym e i, sym q i)

-- a lookup
pub shown_bad : (v : View) (p k : ℕ) (z : List ℕ) → (eqb (length z) 256 && zeros z) ≡ false → shown v p k z ≡ []
shown_bad v p k z f = rw f

pub shown_good : (v : View) (p k : ℕ) (z : List ℕ) → (eqb (length z) 256 && zeros z) ≡ true → shown v p k z ≡ run v p (256 * k) 256
shown_good v p k z f = rw f

pub block_long : (z : List ℕ) → (eqb (length z) 256 && zeros z) ≡ true → length z ≡ 256
block_long z f = eqb-true (length z) 256 (and_left (eqb (length z) 256) (zeros z) f)

pub block_zero : (z : List ℕ) → (eqb (length z) 256 && zeros z) ≡ true → zeros z ≡ true
block_zero z f = and_right (eqb (length z) 256) (zeros z) f

module _ (m : Mem) (s : List ℕ) where
  pub show_none : well_formed m ≡ false → [] ≡ cond (well_formed m) s []
  show_none f = rw f

  pub show_all : WellFormed m → s ≡ cond (well_formed m) s []
  show_all f = rw (well_formed_passes m f)

-- the lengths of the journals
pub mark_small : (m : Mem) → WellFormed m → (j : ℕ) → j < journal_count → journal_length m.words j ≤ 4294967295
mark_small m f j l = let w = f.in_capacity j l in let r = f.lengths.journal_hi in omega arith

pub marks_are : (m : Mem) → ◌≡◌ {A = ℕ × ℕ} (get_or m.words 12 0, get_or m.words 13 0) (length ((view_of m).journal 0), length ((view_of m).journal 1))
unfolding journal
marks_are m =
    let heap : get_or m.words 12 0 ≡ length ((view_of m).journal 0) = sym (tab_long (journal_length m.words 0) _) in
    let aux : get_or m.words 13 0 ≡ length ((view_of m).journal 1) = sym (tab_long (journal_length m.words 1) _) in
    λ i. (heap i, aux i)
