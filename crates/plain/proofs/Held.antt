-- Laws of the plain map's pairs of page and chunk number, and of its pages.
-- Assumes nothing.
use mathlib.Core.Path.{◌≡◌, refl, sym, ap, ◌∙◌}
use mathlib.Core.List.{List, ◌∷◌}
use mathlib.Core.Bool.{Bool, true, false, cond, not, ◌&&◌, ◌||◌, or_assoc}
use Prim.Native.Nat.{ℕ, zero, suc, ◌+◌, ◌-◌, ◌≤◌, ◌<◌}
use native.Mathlib.Omega.{arith}
use lib.Dec.{leb, ltb, eqb}
use lib.ListN.{length}
use borrow.Author.Tests.{eqb-true, le-ltb}
use Rattle.index.proofs.Logic.{and_left, and_right, and_false_right}
use Rattle.page_ids.specs.declared.Layout.{Layout}
use Rattle.formed.specs.Pages.{fixed, dynamic}
use Rattle.view.specs.Steps.{missing}
use Rattle.plain.specs.Plain.{has, hold, member, list}
use Rattle.plain.proofs.Tests.{or_absorb, range_none, range_more}

-- ---- pairs
module _ (p k n : ℕ) (held : List (ℕ × ℕ)) where
  -- a chunk that is held is not held twice
  hold_held : has (hold p k n held) p (k + n) ≡ true → hold p k (suc n) held ≡ hold p k n held
  unfolding hold
  hold_held e = rw e

  hold_new : has (hold p k n held) p (k + n) ≡ false → hold p k (suc n) held ≡ (p, k + n) ∷ hold p k n held
  unfolding hold
  hold_new e = rw e

  has_more : (q j : ℕ) → has (hold p k (suc n) held) q j ≡ (eqb q p && eqb j (k + n)) || has (hold p k n held) q j
  unfolding has
  has_more q j = go (has (hold p k n held) p (k + n)) refl
    where
      here : has (hold p k n held) p (k + n) ≡ true → (eqb q p && eqb j (k + n)) ≡ true → has (hold p k n held) q j ≡ true
      here e t =
          rw (eqb-true q p (and_left (eqb q p) (eqb j (k + n)) t), eqb-true j (k + n) (and_right (eqb q p) (eqb j (k + n)) t)) e

      go : (b : Bool) → has (hold p k n held) p (k + n) ≡ b → has (hold p k (suc n) held) q j ≡ (eqb q p && eqb j (k + n)) || has (hold p k n held) q j
      go true e = ap (λ (h : List (ℕ × ℕ)). has h q j) (hold_held e) ∙ or_absorb (eqb q p && eqb j (k + n)) (has (hold p k n held) q j) (here e)
      go false e = ap (λ (h : List (ℕ × ℕ)). has h q j) (hold_new e)

-- the pairs after a hold: those of the range, and those held before
pub has_hold : (p k n : ℕ) (held : List (ℕ × ℕ)) (q j : ℕ) → has (hold p k n held) q j ≡ (eqb q p && (leb k j && ltb j (k + n))) || has held q j
unfolding hold
has_hold p k zero held q j = rw (range_none (eqb q p) k j)
has_hold p k (suc n) held q j =
    has_more p k n held q j
    ∙ ap (λ (b : Bool). (eqb q p && eqb j (k + n)) || b) (has_hold p k n held q j)
    ∙ sym (or_assoc (eqb q p && eqb j (k + n)) (eqb q p && (leb k j && ltb j (k + n))) (has held q j))
    ∙ ap (λ (b : Bool). b || has held q j) (sym (range_more (eqb q p) k n j))

-- the chunk past a range is held if it was
has_next : (p k n : ℕ) (held : List (ℕ × ℕ)) → has (hold p k n held) p (k + n) ≡ has held p (k + n)
has_next p k n held =
    has_hold p k n held p (k + n)
    ∙ rw (le-ltb (k + n) (k + n) (omega arith), and_false_right (leb k (k + n)) false refl, and_false_right (eqb p p) false refl)

-- a hold takes as many pairs as were missing
pub length_hold : (p k n : ℕ) (held : List (ℕ × ℕ)) → length (hold p k n held) ≡ length held + missing (has held p) k n
unfolding hold missing
length_hold p k zero held = omega arith
length_hold p k (suc n) held = go (has held p (k + n)) refl (length_hold p k n held)
  where
    go : (b : Bool) → has held p (k + n) ≡ b → length (hold p k n held) ≡ length held + missing (has held p) k n
        → length (hold p k (suc n) held) ≡ length held + (missing (has held p) k n + cond b 0 1)
    go true e ih = ap length (hold_held p k n held (has_next p k n held ∙ e)) ∙ omega arith
    go false e ih = ap length (hold_new p k n held (has_next p k n held ∙ e)) ∙ omega arith

pub missing_le : (t : ℕ → Bool) (k n : ℕ) → missing t k n ≤ n
unfolding missing
missing_le t k zero = omega arith
missing_le t k (suc n) = go (t (k + n)) (missing_le t k n)
  where
    go : (b : Bool) → missing t k n ≤ n → missing t k n + cond b 0 1 ≤ suc n
    go true h = omega arith
    go false h = omega arith

-- ---- pages: one that can be written is fixed or dynamic, and not both
module _ (l : Layout) (p : ℕ) (pages : List ℕ) (either : dynamic l p ≡ not (fixed l p)) where
  list_fixed : fixed l p ≡ true → list l p pages ≡ pages
  list_fixed f = rw (either, f)

  list_there : fixed l p ≡ false → member pages p ≡ true → list l p pages ≡ pages
  list_there f e = rw (either, f, e)

  list_new : fixed l p ≡ false → member pages p ≡ false → list l p pages ≡ p ∷ pages
  list_new f e = rw (either, f, e)

  pub has_list : (q : ℕ) → (fixed l q || member (list l p pages) q) ≡ eqb q p || (fixed l q || member pages q)
  unfolding member
  has_list q = go (fixed l p) refl (member pages p) refl
    where
      same : list l p pages ≡ pages → (fixed l p || member pages p) ≡ true
          → (fixed l q || member (list l p pages) q) ≡ eqb q p || (fixed l q || member pages q)
      same e t = ap (λ (h : List ℕ). fixed l q || member h q) e ∙ or_absorb (eqb q p) (fixed l q || member pages q) (λ i. rw (eqb-true q p i) t)

      swap : (a b c : Bool) → (a || (b || c)) ≡ b || (a || c)
      swap true true c = refl
      swap true false c = refl
      swap false b c = refl

      go : (f : Bool) → fixed l p ≡ f → (t : Bool) → member pages p ≡ t
          → (fixed l q || member (list l p pages) q) ≡ eqb q p || (fixed l q || member pages q)
      go true f t e = same (list_fixed f) (rw f)
      go false f true e = same (list_there f e) (rw (f, e))
      go false f false e = ap (λ (h : List ℕ). fixed l q || member h q) (list_new f e) ∙ swap (fixed l q) (eqb q p) (member pages q)

  -- a new page takes an entry
  pub length_list : (n : ℕ) → n - length (list l p pages) ≡ cond (fixed l p || member pages p) (n - length pages) (n - length pages - 1)
  length_list n = go (fixed l p) refl (member pages p) refl
    where
      go : (f : Bool) → fixed l p ≡ f → (t : Bool) → member pages p ≡ t
          → n - length (list l p pages) ≡ cond (f || t) (n - length pages) (n - length pages - 1)
      go true f t e = ap (λ (h : List ℕ). n - length h) (list_fixed f)
      go false f true e = ap (λ (h : List ℕ). n - length h) (list_there f e)
      go false f false e = ap (λ (h : List ℕ). n - length h) (list_new f e) ∙ omega arith

  -- where one is left for it, no more pages are listed than there is room for
  pub list_fits : (n : ℕ) → length pages ≤ n → ((fixed l p || member pages p) ≡ false → 0 < n - length pages) → length (list l p pages) ≤ n
  list_fits n r h = go (fixed l p) refl (member pages p) refl h
    where
      go : (f : Bool) → fixed l p ≡ f → (t : Bool) → member pages p ≡ t → ((f || t) ≡ false → 0 < n - length pages) → length (list l p pages) ≤ n
      go true f t e k = rw (list_fixed f) r
      go false f true e k = rw (list_there f e) r
      go false f false e k = rw (list_new f e) (let w = k refl in omega arith)
