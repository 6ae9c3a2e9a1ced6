-- Ranges of chunks, held one after the other.
-- Assumes nothing.
use mathlib.Core.Path.{◌≡◌, refl, sym, ap, ◌∙◌}
use mathlib.Core.Logic.{⊎_elim}
use mathlib.Core.Bool.{Bool, true, false, cond, ◌&&◌, ◌||◌}
use Prim.Native.Nat.{ℕ, ◌+◌, ◌-◌, ◌≤◌, ◌<◌}
use native.Mathlib.Nat.{le_refl}
use native.Mathlib.Omega.{arith}
use lib.Dec.{ltb, leb, eqb}
use borrow.Author.Tests.{lt-ltb, le-ltb, le-leb, lt-leb, eq-eqb, ne_eqb}
use Rattle.view.proofs.Missing.{missing_none, missing_more, missing_one, missing_after}
use Rattle.index.proofs.Logic.{same_or_not, lt_or_ge}
use Rattle.view.specs.View.{View}
use Rattle.view.specs.Steps.{missing}
use Rattle.view.specs.Inner.{holding}
use Rattle.view.proofs.Equal.{view_by}

-- ---- the chunks of a range
-- of one
pub only : (k j : ℕ) → (leb k j && ltb j (k + 1)) ≡ eqb j k
only k j =
    ⊎_elim
    (λ (e : j ≡ k). rw (eq-eqb j k e, le-leb k j (omega arith), lt-ltb j (k + 1) (omega arith)))
    (λ (ne : j ≡ k → ⊥).
    rw (ne_eqb j k ne)
    (⊎_elim (λ (l : j < k). rw (lt-leb k j l)) (λ (l : k ≤ j). rw (le-leb k j l) (le-ltb j (k + 1) (omega arith))) (lt_or_ge j k)))
    (same_or_not j k)

-- of one more
more : (k n j : ℕ) → (leb k j && ltb j (k + (n + 1))) ≡ (eqb j (k + n) || (leb k j && ltb j (k + n)))
more k n j =
    ⊎_elim
    (λ (e : j ≡ k + n). rw (eq-eqb j (k + n) e, le-leb k j (omega arith)) (lt-ltb j (k + (n + 1)) (omega arith)))
    (λ (ne : j ≡ k + n → ⊥).
    rw (ne_eqb j (k + n) ne)
    (⊎_elim
    (λ (l : j < k). rw (lt-leb k j l))
    (λ (l : k ≤ j).
    rw (le-leb k j l)
    (⊎_elim (λ (u : j < k + n). lt-ltb j (k + (n + 1)) (omega arith) ∙ sym (lt-ltb j (k + n) u)) (λ (u : k + n ≤ j). le-ltb j (k + (n + 1)) (omega arith) ∙ sym (le-ltb j (k + n) u)) (lt_or_ge j (k + n))))
    (lt_or_ge j k)))
    (same_or_not j (k + n))

-- of none
none : (k j : ℕ) → (leb k j && ltb j (k + 0)) ≡ false
none k j = ⊎_elim (λ (l : j < k). rw (lt-leb k j l)) (λ (l : k ≤ j). rw (le-leb k j l) (le-ltb j (k + 0) (omega arith))) (lt_or_ge j k)

spread : (a x y h : Bool) → ((a && (x || y)) || h) ≡ ((a && x) || ((a && y) || h))
spread true true y h = refl
spread true false y h = refl
spread false x y h = refl

off : (a b h : Bool) → b ≡ false → ((a && b) || h) ≡ h
off true b h e = rw e
off false b h e = refl

or_true : (b : Bool) → (b || true) ≡ true
or_true true = refl
or_true false = refl

module _ (p k : ℕ) (v : View) where
  pub holding_none : v ≡ holding p k 0 v
  holding_none =
      view_by v (holding p k 0 v) (λ q a. refl) (λ q j. sym (off (eqb q p) _ (v.held q j) (none k j))) (let h = missing_none (v.held p) k in omega arith) (λ q. refl) refl refl (λ j. refl)

  -- the next chunk is held as it was
  pub next_held : (n : ℕ) → (holding p k n v).held p (k + n) ≡ v.held p (k + n)
  next_held n = off (eqb p p) _ (v.held p (k + n)) (rw (le-leb k (k + n) (omega arith)) (le-ltb (k + n) (k + n) (le_refl (k + n))))

  pub holding_more : (n : ℕ) → holding p (k + n) 1 (holding p k n v) ≡ holding p k (n + 1) v
  holding_more n =
      view_by (holding p (k + n) 1 (holding p k n v)) (holding p k (n + 1) v) (λ q a. refl)
      (λ q j. rw (only (k + n) j, more k n j) (sym (spread (eqb q p) (eqb j (k + n)) (leb k j && ltb j (k + n)) (v.held q j))))
      pools (λ q. refl) refl refl (λ j. refl)
    where
      pools : v.pool - missing (v.held p) k n - missing ((holding p k n v).held p) (k + n) 1 ≡ v.pool - missing (v.held p) k (n + 1)
      pools =
          let a = missing_more (v.held p) k n in
          let b : missing ((holding p k n v).held p) (k + n) 1 ≡ cond (v.held p (k + n)) 0 1 = missing_one ((holding p k n v).held p) (k + n) ∙ ap (λ (x : Bool). cond x 0 1) (next_held n) in
          omega arith

-- the chunks before c are held already: to hold the others is to hold them all
module _ (p k n c : ℕ) (v : View) (low : k ≤ c) (high : c ≤ k + n) (held : (x : ℕ) → k ≤ x → x < c → v.held p x ≡ true) where
  pub missing_rest : missing (v.held p) k n ≡ missing (v.held p) c (k + n - c)
  missing_rest =
      let e : c - k + (k + n - c) ≡ n = omega arith in
      let q : k + (c - k) ≡ c = omega arith in
      ap (missing (v.held p) k) (sym e) ∙ missing_after (v.held p) k (c - k) (k + n - c) (λ x a b. held x a (omega arith)) ∙ ap (λ (x : ℕ). missing (v.held p) x (k + n - c)) q

  own : (j : ℕ) → ((leb c j && ltb j (k + n)) || v.held p j) ≡ ((leb k j && ltb j (k + n)) || v.held p j)
  own j =
      ⊎_elim
      (λ (below : j < c).
      ⊎_elim
      (λ (outside : j < k). rw (lt-leb c j below, lt-leb k j outside))
      (λ (inside : k ≤ j). rw (held j inside below, or_true (leb c j && ltb j (k + n)), or_true (leb k j && ltb j (k + n))))
      (lt_or_ge j k))
      (λ (above : c ≤ j). rw (le-leb c j above, le-leb k j (omega arith)))
      (lt_or_ge j c)

  pub holding_rest : holding p c (k + n - c) v ≡ holding p k n v
  holding_rest =
      view_by (holding p c (k + n - c) v) (holding p k n v) (λ q a. refl)
      (λ q j. let e : c + (k + n - c) ≡ k + n = omega arith in rw e (all q j))
      (ap (λ (x : ℕ). v.pool - x) (sym missing_rest)) (λ q. refl) refl refl (λ j. refl)
    where
      all : (q j : ℕ) → ((eqb q p && (leb c j && ltb j (k + n))) || v.held q j) ≡ ((eqb q p && (leb k j && ltb j (k + n))) || v.held q j)
      all q j =
          ⊎_elim
          (λ (e : q ≡ p). rw (eq-eqb q p e, e) (own j))
          (λ (ne : q ≡ p → ⊥). rw (ne_eqb q p ne))
          (same_or_not q p)
