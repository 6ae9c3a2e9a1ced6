-- A test at every number below a bound: the laws of a loop that stops where the test fails.
-- Assumes nothing.
use mathlib.Core.Path.{◌≡◌, refl, sym, ap, ◌∙◌, subst}
use mathlib.Core.Logic.{⊎_elim}
use mathlib.Core.Bool.{Bool, true, false, ◌&&◌, and-false}
use Prim.Native.Nat.{ℕ, zero, suc, ◌+◌, ◌≤◌, ◌<◌}
use native.Mathlib.Nat.{le_of_suc-le-suc, not-suc-le-zero, eq-or-lt_of_le, lt_trans, le_antisymm, lt-suc_self}
use native.Mathlib.Numerals.{add-one}
use Rattle.index.specs.Index.{all}
use Rattle.index.proofs.Logic.{and_left, and_right}

module _ (p : ℕ → Bool) where
  pub all_none : all p 0 ≡ true
  unfolding all
  all_none = refl

  pub all_more : (i : ℕ) → all p i ≡ true → p i ≡ true → all p (i + 1) ≡ true
  unfolding all
  all_more i a h = rw (add-one, a, h)

  pub all_at : (n i : ℕ) → all p n ≡ true → i < n → p i ≡ true
  unfolding all
  all_at zero i a l = absurd (not-suc-le-zero l)
  all_at (suc n) i a l =
      ⊎_elim (λ e. subst (λ (m : ℕ). p m ≡ true) (sym e) (and_right (all p n) (p n) a)) (λ lt. all_at n i (and_left (all p n) (p n) a) lt) (eq-or-lt_of_le (le_of_suc-le-suc l))

  pub all_intro : (n : ℕ) → ((i : ℕ) → i < n → p i ≡ true) → all p n ≡ true
  unfolding all
  all_intro zero h = refl
  all_intro (suc n) h = rw (all_intro n (λ i l. h i (lt_trans l (lt-suc_self n))), h n (lt-suc_self n))

  pub all_fails : (n i : ℕ) → i < n → p i ≡ false → all p n ≡ false
  unfolding all
  all_fails zero i l h = absurd (not-suc-le-zero l)
  all_fails (suc n) i l h =
      ⊎_elim (λ e. ap (λ (b : Bool). all p n && b) (sym (ap p e) ∙ h) ∙ and-false (all p n)) (λ lt. rw (all_fails n i lt h)) (eq-or-lt_of_le (le_of_suc-le-suc l))

  pub all_done : (n i : ℕ) → i ≤ n → n ≤ i → all p i ≡ true → true ≡ all p n
  all_done n i l m a = sym (subst (λ (k : ℕ). all p k ≡ true) (le_antisymm l m) a)
