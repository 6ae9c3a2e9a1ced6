-- The same numbers make the same layout, and the same elements the same list.
-- Assumes nothing.
use mathlib.Core.Path.{◌≡◌, refl, ap, fun_ext}
use mathlib.Core.List.{List, [], ◌∷◌}
use Prim.Native.Nat.{ℕ, zero, suc, ◌<◌, zero-le, suc-le-suc}
use native.Mathlib.Nat.{not-suc-le-zero, le_of_suc-le-suc}
use native.Mathlib.Omega.{arith}
use lib.ListN.{length, get_or}
use Rattle.store.specs.Mem.{layout_of}
use Rattle.formed.specs.Parts.{tab}

-- a layout is its six numbers
pub layout_same : (w w' : List ℕ) → ((i : ℕ) → i < 6 → get_or w' i 0 ≡ get_or w i 0) → layout_of w' ≡ layout_of w
layout_same w w' h = rw (h 0 (omega arith), h 1 (omega arith), h 2 (omega arith), h 3 (omega arith), h 4 (omega arith), h 5 (omega arith))

pub tab_same : {A : Type 0} (n : ℕ) (f g : ℕ → A) → ((i : ℕ) → f i ≡ g i) → tab n f ≡ tab n g
tab_same n f g h = ap (tab n) (fun_ext h)

-- those below n are enough
pub tab_upto : {A : Type 0} (n : ℕ) (f g : ℕ → A) → ((i : ℕ) → i < n → f i ≡ g i) → tab n f ≡ tab n g
unfolding tab
tab_upto zero f g h = refl
tab_upto (suc n) f g h =
    let t : tab n (λ i. f (suc i)) ≡ tab n (λ i. g (suc i)) = tab_upto n (λ i. f (suc i)) (λ i. g (suc i)) (λ i l. h (suc i) (suc-le-suc l)) in
    λ k. h 0 (suc-le-suc zero-le) k ∷ t k

-- a list told by its elements
pub tab_long : {A : Type 0} (n : ℕ) (f : ℕ → A) → length (tab n f) ≡ n
unfolding tab
tab_long zero f = refl
tab_long (suc n) f = ap suc (tab_long n (λ i. f (suc i)))

pub tab_at : (n : ℕ) (f : ℕ → ℕ) (i : ℕ) → i < n → get_or (tab n f) i 0 ≡ f i
unfolding tab
tab_at zero f i l = absurd (not-suc-le-zero l)
tab_at (suc n) f zero l = refl
tab_at (suc n) f (suc i) l = tab_at n (λ x. f (suc x)) i (le_of_suc-le-suc l)

pub tab_is : (n : ℕ) (f : ℕ → ℕ) (xs : List ℕ) → length xs ≡ n → ((i : ℕ) → i < n → get_or xs i 0 ≡ f i) → xs ≡ tab n f
unfolding tab
tab_is zero f [] e h = refl
tab_is zero f (x ∷ xs) e h = absurd (omega arith)
tab_is (suc n) f [] e h = absurd (omega arith)
tab_is (suc n) f (x ∷ xs) e h =
    let q : length xs ≡ n = omega arith in
    let t : xs ≡ tab n (λ i. f (suc i)) = tab_is n (λ i. f (suc i)) xs q (λ i l. h (suc i) (suc-le-suc l)) in
    λ k. h 0 (suc-le-suc zero-le) k ∷ t k
