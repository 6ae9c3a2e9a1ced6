-- How many chunks and words a range touches.
-- Assumes nothing.
use mathlib.Core.Path.{◌≡◌, refl, sym, ap, ◌∙◌}
use mathlib.Core.Bool.{Bool, true, false, cond}
use Prim.Native.Nat.{ℕ, zero, suc, ◌+◌, ◌-◌, ◌/◌, ◌≤◌, ◌<◌}
use native.Mathlib.Omega.{arith}
use lib.Dec.{ltb}
use borrow.Author.Tests.{lt-ltb, le-ltb}
use Rattle.view.proofs.Missing.{missing_more, missing_le, missing_most}
use Rattle.view.specs.Steps.{touched_count, aligned_count, missing}

pub touched_some : (a n : ℕ) → (n ≡ 0 → ⊥) → (a + (n - 1)) / 256 - a / 256 + 1 ≡ touched_count a n
touched_some a zero e = absurd (e refl)
touched_some a (suc n) e = let q : suc n - 1 ≡ n = omega arith in ap (λ (x : ℕ). (a + x) / 256 - a / 256 + 1) q

pub aligned_some : (a n : ℕ) → (n ≡ 0 → ⊥) → (a + (n - 1)) / 32 - a / 32 + 1 ≡ aligned_count a n
aligned_some a zero e = absurd (e refl)
aligned_some a (suc n) e = let q : suc n - 1 ≡ n = omega arith in ap (λ (x : ℕ). (a + x) / 32 - a / 32 + 1) q

-- ---- counting the missing chunks, stopping where there are more than n
module _ (has : ℕ → Bool) (k i : ℕ) where
  count_lack : has (k + i) ≡ false → missing has k (i + 1) ≡ missing has k i + 1
  count_lack t = missing_more has k i ∙ ap (λ (b : Bool). missing has k i + cond b 0 1) t

  count_has : has (k + i) ≡ true → missing has k (i + 1) ≡ missing has k i
  count_has t = missing_more has k i ∙ ap (λ (b : Bool). missing has k i + cond b 0 1) t ∙ none (missing has k i)
    where
      none : (n : ℕ) → n + 0 ≡ n
      none n = omega arith

  pub counted_lack : (n : ℕ) → has (k + i) ≡ false → n ≡ missing has k i → n + 1 ≡ missing has k (i + 1)
  counted_lack n t e = ap (λ (x : ℕ). x + 1) e ∙ sym (count_lack t)

  pub counted_has : (n : ℕ) → has (k + i) ≡ true → n ≡ missing has k i → n ≡ missing has k (i + 1)
  counted_has n t e = e ∙ sym (count_has t)

  pub over_pool : (count pool n : ℕ) → i < count → has (k + i) ≡ false → n ≡ missing has k i → n ≡ pool → true ≡ ltb pool (missing has k count)
  over_pool count pool n l t e q =
      let a = count_lack t in
      let b = missing_le has k count (i + 1) (omega arith) in
      sym (lt-ltb pool (missing has k count) (omega arith))

pub within_pool : (has : ℕ → Bool) (k count pool n i : ℕ) → i ≤ count → count ≤ i → n ≡ missing has k i → n ≤ pool → false ≡ ltb pool (missing has k count)
within_pool has k count pool n i l m e q =
    let s : i ≡ count = omega arith in
    let t : n ≡ missing has k count = e ∙ ap (missing has k) s in
    sym (le-ltb pool (missing has k count) (omega arith))

-- the pool has as many as may be missing
pub enough : (has : ℕ → Bool) (k i count pool : ℕ) → i ≤ count → missing has k i ≡ 0 → count - i ≤ pool → false ≡ ltb pool (missing has k count)
enough has k i count pool l z few =
    let e : i + (count - i) ≡ count = omega arith in
    let h = missing_most has k i (count - i) in
    let q : missing has k (i + (count - i)) ≡ missing has k count = ap (missing has k) e in
    sym (le-ltb pool (missing has k count) (omega arith))
