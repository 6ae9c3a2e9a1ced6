-- A write is made of the inner steps: the page is allocated, its chunks held, the words journalled, the bytes put.
-- Assumes nothing.
use mathlib.Core.Path.{◌≡◌, refl, sym, ap, ◌∙◌}
use mathlib.Core.Bool.{Bool, true, false, cond, ◌&&◌, and-false}
use mathlib.Core.List.{List, [], ◌++◌, append-nil}
use mathlib.Core.Logic.{⊎_elim}
use Prim.Native.Nat.{ℕ, zero, suc, ◌+◌, ◌-◌, ◌/◌, ◌<◌, ◌≤◌, zero-le}
use native.Mathlib.Omega.{arith}
use lib.Dec.{leb, ltb, eqb}
use lib.ListN.{length, get_or}
use borrow.Author.Tests.{lt-ltb, le-ltb, le-leb, lt-leb, eq-eqb, ne_eqb}
use Rattle.view.proofs.Missing.{missing_same}
use Rattle.index.proofs.Logic.{same_or_not, lt_or_ge}
use Rattle.formed.specs.Pages.{LayoutRule, journal_count, journal_page}
use Rattle.formed.specs.Parts.{Note}
use Rattle.page_ids.specs.declared.Layout.{Layout}
use Rattle.view.specs.View.{View}
use Rattle.view.specs.Steps.{over, touches, touched_count, missing, journalled, written}
use Rattle.view.specs.Inner.{holding, noting, journalling, putting}
use Rattle.view.proofs.Equal.{view_by}

-- no bytes touch no chunk
untouched : (k : ℕ) → touches 0 0 k ≡ false
untouched k = rw (le-leb (0 / 256) k zero-le, le-ltb k (0 / 256 + 0) zero-le) refl

pub over_none : (p a : ℕ) (f : ℕ → ℕ → ℕ) (q b : ℕ) → over p a [] f q b ≡ f q b
unfolding over
over_none p a f q b = go (eqb q p) (leb a b) (ltb b (a + 0)) (none a b)
  where
    none : (a b : ℕ) → (leb a b && ltb b (a + 0)) ≡ false
    none a b =
        ⊎_elim
        (λ (l : b < a). rw (lt-leb a b l) refl)
        (λ (l : a ≤ b). rw (le-leb a b l, le-ltb b (a + 0) (let h : a + 0 ≤ b = omega arith in h)) refl)
        (lt_or_ge b a)

    go : (x y z : Bool) → (y && z) ≡ false → cond (x && (y && z)) 0 (f q b) ≡ f q b
    go true y z e = rw e refl
    go false y z e = refl

module _ (l : Layout) (p : ℕ) (v : View) where
  -- the view where the page is allocated
  abbrev listed : View
  listed = written l p 0 [] [] v

  pub listed_held : (q k : ℕ) → listed.held q k ≡ v.held q k
  listed_held q k = rw (untouched k, and-false (eqb q p)) refl

  pub listed_pool : listed.pool ≡ v.pool
  unfolding missing
  listed_pool = less v.pool
    where
      less : (n : ℕ) → n - 0 ≡ n
      less n = omega arith

  pub listed_journal : (j : ℕ) → listed.journal j ≡ v.journal j
  listed_journal j = go (journalled l p j)
    where
      go : (b : Bool) → cond b (v.journal j ++ []) (v.journal j) ≡ v.journal j
      go true = append-nil (v.journal j)
      go false = refl

  module _ (a : ℕ) (bs : List ℕ) where
    -- .. and the chunks of the bytes held
    abbrev held : View
    held = holding p (a / 256) (touched_count a (length bs)) listed

    held_same : (q k : ℕ) → held.held q k ≡ (written l p a bs [] v).held q k
    held_same q k = rw (listed_held q k) refl

    pool_same : held.pool ≡ (written l p a bs [] v).pool
    pool_same = rw (listed_pool, missing_same (listed.held p) (v.held p) (listed_held p) (a / 256) (touched_count a (length bs))) refl

    over_listed : (q b : ℕ) → over p a bs listed.bytes q b ≡ over p a bs v.bytes q b
    unfolding over
    over_listed q b = ap (λ (x : ℕ). cond (eqb q p && (leb a b && ltb b (a + length bs))) (get_or bs (b - a) 0) x) (over_none p 0 v.bytes q b)

    -- the steps make up a write
    pub written_is : (notes : List Note) → putting p a bs (journalling l p notes held) ≡ written l p a bs notes v
    written_is notes =
        view_by (putting p a bs (journalling l p notes held)) (written l p a bs notes v) over_listed held_same pool_same (λ q. refl) refl refl
        (λ i. ap (λ (x : List Note). cond (journalled l p i) (x ++ notes) x) (listed_journal i))

-- ---- the journal of a page
module _ (l : Layout) (p : ℕ) (notes : List Note) (v : View) where
  journal_none : ((j : ℕ) → j < journal_count → p ≡ journal_page l j → ⊥) → (j : ℕ) → journalled l p j ≡ false
  journal_none n j =
      ⊎_elim
      (λ (k : j < journal_count). rw (lt-ltb j journal_count k) (ne_eqb p (journal_page l j) (n j k)))
      (λ (k : journal_count ≤ j). rw (le-ltb j journal_count k) refl)
      (lt_or_ge j journal_count)

  -- a page that has none
  pub unjournalled : ((j : ℕ) → j < journal_count → p ≡ journal_page l j → ⊥) → journalling l p notes v ≡ v
  unjournalled n =
      view_by (journalling l p notes v) v (λ q b. refl) (λ q k. refl) refl (λ q. refl) refl refl
      (λ j. ap (λ (b : Bool). cond b (v.journal j ++ notes) (v.journal j)) (journal_none n j))

  -- that of journal j
  module _ (rule : LayoutRule l) (j : ℕ) (which : j < journal_count) (own : p ≡ journal_page l j) where
    apart : (i k : ℕ) → i < journal_count → k < journal_count → journal_page l i ≡ journal_page l k → i ≡ k
    apart zero zero a b e = refl
    apart zero (suc zero) a b e = absurd (rule.distinct 2 3 (omega arith) (omega arith) e)
    apart (suc zero) zero a b e = absurd (rule.distinct 2 3 (omega arith) (omega arith) (sym e))
    apart (suc zero) (suc zero) a b e = refl
    apart zero (suc (suc k)) a b e = absurd (omega arith)
    apart (suc zero) (suc (suc k)) a b e = absurd (omega arith)
    apart (suc (suc i)) k a b e = absurd (omega arith)

    journal_own : (i : ℕ) → eqb i j ≡ journalled l p i
    journal_own i =
        ⊎_elim
        (λ (k : i < journal_count).
        ⊎_elim
        (λ (e : i ≡ j). rw (lt-ltb i journal_count k, eq-eqb i j e) (sym (eq-eqb p (journal_page l i) (own ∙ ap (journal_page l) (sym e)))))
        (λ (n : i ≡ j → ⊥). rw (lt-ltb i journal_count k, ne_eqb i j n) (sym (ne_eqb p (journal_page l i) (λ e. n (apart i j k which (sym e ∙ own))))))
        (same_or_not i j))
        (λ (k : journal_count ≤ i). rw (le-ltb i journal_count k, ne_eqb i j (λ e. omega arith)) refl)
        (lt_or_ge i journal_count)

    pub own_journal : noting j notes v ≡ journalling l p notes v
    own_journal =
        view_by (noting j notes v) (journalling l p notes v) (λ q b. refl) (λ q k. refl) refl (λ q. refl) refl refl
        (λ i. ap (λ (b : Bool). cond b (v.journal i ++ notes) (v.journal i)) (journal_own i))

-- a write to a page without a journal
pub plain_write : (l : Layout) (p : ℕ) (v : View) (a : ℕ) (bs : List ℕ) (notes : List Note) → ((j : ℕ) → j < journal_count → p ≡ journal_page l j → ⊥)
    → putting p a bs (holding p (a / 256) (touched_count a (length bs)) (written l p 0 [] [] v)) ≡ written l p a bs notes v
plain_write l p v a bs notes n =
    ap (putting p a bs) (sym (unjournalled l p notes (holding p (a / 256) (touched_count a (length bs)) (written l p 0 [] [] v)) n)) ∙ written_is l p v a bs notes
