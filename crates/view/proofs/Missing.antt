-- How many chunks of a range are missing.
-- Assumes nothing.
use mathlib.Core.Path.{◌≡◌, refl, sym, ap, ◌∙◌}
use mathlib.Core.Logic.{⊎_elim}
use mathlib.Core.Bool.{Bool, true, false, cond}
use Prim.Native.Nat.{ℕ, zero, suc, ◌+◌, ◌≤◌, ◌<◌}
use native.Mathlib.Nat.{le_refl}
use native.Mathlib.Numerals.{add-one}
use native.Mathlib.Omega.{arith}
use Rattle.index.proofs.Logic.{same_or_not}
use Rattle.view.specs.Steps.{missing}

module _ (has : ℕ → Bool) (k : ℕ) where
  pub missing_none : missing has k 0 ≡ 0
  unfolding missing
  missing_none = refl

  pub missing_more : (n : ℕ) → missing has k (n + 1) ≡ missing has k n + cond (has (k + n)) 0 1
  unfolding missing
  missing_more n = rw (add-one n)

  pub missing_one : missing has k 1 ≡ cond (has k) 0 1
  missing_one =
      let z : k + 0 ≡ k = omega arith in
      let a = missing_more 0 in
      let b = missing_none in
      let c : ◌≡◌ {A = ℕ} (cond (has (k + 0)) 0 1) (cond (has k) 0 1) = ap (λ (x : ℕ). cond (has x) 0 1) z in
      omega arith

  pub missing_le : (n i : ℕ) → i ≤ n → missing has k i ≤ missing has k n
  missing_le zero i l = let e : i ≡ 0 = omega arith in rw e (le_refl (missing has k 0))
  missing_le (suc n) i l =
      ⊎_elim
      (λ (e : i ≡ suc n). rw e (le_refl (missing has k (suc n))))
      (λ (ne : i ≡ suc n → ⊥).
      let h = missing_le n i (omega arith) in
      let q : missing has k (suc n) ≡ missing has k n + cond (has (k + n)) 0 1 = ap (missing has k) (sym (add-one n)) ∙ missing_more n in
      omega arith)
      (same_or_not i (suc n))

pub missing_same : (f g : ℕ → Bool) → ((k : ℕ) → f k ≡ g k) → (k n : ℕ) → missing f k n ≡ missing g k n
unfolding missing
missing_same f g h k zero = refl
missing_same f g h k (suc n) = rw (missing_same f g h k n, h (k + n)) refl

-- none of those that are held, all where none is, and no more than there are
pub missing_held : (has : ℕ → Bool) (k n : ℕ) → ((x : ℕ) → k ≤ x → x < k + n → has x ≡ true) → missing has k n ≡ 0
unfolding missing
missing_held has k zero h = refl
missing_held has k (suc n) h = rw (missing_held has k n (λ x a b. h x a (omega arith)), h (k + n) (omega arith) (omega arith)) refl

pub missing_all : (has : ℕ → Bool) → ((i : ℕ) → has i ≡ false) → (k n : ℕ) → missing has k n ≡ n
unfolding missing
missing_all has h k zero = refl
missing_all has h k (suc n) = rw (missing_all has h k n, h (k + n)) (omega arith)

pub missing_most : (has : ℕ → Bool) (k i n : ℕ) → missing has k (i + n) ≤ missing has k i + n
missing_most has k i zero = let e : i + 0 ≡ i = omega arith in rw e (omega arith)
missing_most has k i (suc n) =
    let e : i + suc n ≡ i + n + 1 = omega arith in
    let h = missing_most has k i n in
    let q = missing_more has k (i + n) in
    let l = one (has (k + (i + n))) in
    rw e (omega arith)
  where
    one : (b : Bool) → ◌≤◌ (cond b 0 1) 1
    one true = omega arith
    one false = omega arith

-- where the first a chunks are held, those after them
pub missing_after : (has : ℕ → Bool) (k a n : ℕ) → ((x : ℕ) → k ≤ x → x < k + a → has x ≡ true) → missing has k (a + n) ≡ missing has (k + a) n
missing_after has k a zero h = let e : a + 0 ≡ a = omega arith in ap (missing has k) e ∙ missing_held has k a h ∙ sym (missing_none has (k + a))
missing_after has k a (suc n) h =
    let e : a + suc n ≡ a + n + 1 = omega arith in
    let s : n + 1 ≡ suc n = add-one n in
    let c : ◌≡◌ {A = ℕ} (cond (has (k + (a + n))) 0 1) (cond (has (k + a + n)) 0 1) = (let q : k + (a + n) ≡ k + a + n = omega arith in ap (λ (x : ℕ). cond (has x) 0 1) q) in
    ap (missing has k) e ∙ missing_more has k (a + n) ∙ ap (λ (x : ℕ). x + cond (has (k + (a + n))) 0 1) (missing_after has k a n h) ∙ ap (λ (x : ℕ). missing has (k + a) n + x) c ∙ sym (missing_more has (k + a) n) ∙ ap (missing has (k + a)) s
