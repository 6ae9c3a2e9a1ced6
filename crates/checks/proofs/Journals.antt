-- Whether the journal of a page has room.
-- Assumes nothing.
use mathlib.Core.Path.{◌≡◌, refl, sym, ◌∙◌}
use mathlib.Core.Bool.{Bool, true, false, ◌||◌, false≢true}
use Prim.Native.Nat.{ℕ, zero, suc, ◌+◌, ◌<◌}
use native.Mathlib.Omega.{arith}
use lib.Dec.{ltb}
use lib.ListN.{length}
use borrow.Author.Tests.{lt-ltb, eq-eqb, ne_eqb}
use Rattle.formed.proofs.Same.{tab_long}
use Rattle.store.specs.Mem.{Mem, layout_of, journal_words, journal_length}
use Rattle.formed.specs.Pages.{journal_count, journal_place, journal_page}
use Rattle.formed.specs.Parts.{journal}
use Rattle.formed.specs.WellFormed.{WellFormed}
use Rattle.formed.proofs.Pages.{is_fixed_lem, place_lt}
use Rattle.formed.proofs.Sense.{fixed_allocated}
use Rattle.view.specs.View.{setting_of, view_of}
use Rattle.view.specs.Checks.{overfull}

pub journal_long : (m : Mem) (j : ℕ) → j < journal_count → length ((view_of m).journal j) ≡ journal_length m.words j
unfolding journal
journal_long m j l = rw (lt-ltb j journal_count l) (tab_long (journal_length m.words j) _)

or_none : (b : Bool) → (b || false) ≡ b
or_none true = refl
or_none false = refl

module _ (m : Mem) (f : WellFormed m) (p x : ℕ) where
  apart : p ≡ journal_page (layout_of m.words) 0 → p ≡ journal_page (layout_of m.words) 1 → ⊥
  apart e q = f.layout.distinct 2 3 (omega arith) (omega arith) (sym e ∙ q)

  -- page p has journal j
  pub full_own : (j : ℕ) → j < journal_count → p ≡ journal_page (layout_of m.words) j → overfull (setting_of m) (view_of m) p x journal_count ≡ ltb (journal_words m.words) (journal_length m.words j + x)
  unfolding overfull
  full_own zero l e = rw (ne_eqb p _ (apart e), eq-eqb p _ e, journal_long m 0 l) (or_none _)
  full_own (suc zero) l e = rw (eq-eqb p _ e, ne_eqb p _ (λ q. apart q e), journal_long m 1 l) (or_none _)
  full_own (suc (suc j)) l e = absurd (omega arith)

  -- it has none
  pub full_none : ((i : ℕ) → i < journal_count → p ≡ journal_page (layout_of m.words) i → ⊥) → overfull (setting_of m) (view_of m) p x journal_count ≡ false
  unfolding overfull
  full_none n = rw (ne_eqb p _ (n 1 (omega arith)), ne_eqb p _ (n 0 (omega arith))) refl

-- a page that is not allocated has none: the pages with a journal are fixed, and fixed pages are allocated
pub full_unlisted : (m : Mem) → WellFormed m → (p x : ℕ) → (view_of m).allocated p ≡ false → overfull (setting_of m) (view_of m) p x journal_count ≡ false
full_unlisted m f p x new =
    full_none m f p x (λ i l own. false≢true (sym new ∙ fixed_allocated m f p (is_fixed_lem (layout_of m.words) p (journal_place i) (place_lt i l) own)))
