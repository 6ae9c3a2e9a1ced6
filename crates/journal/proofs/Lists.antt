-- Lists that are told by their elements.
-- Assumes nothing.
use mathlib.Core.Path.{◌≡◌, refl, ap}
use mathlib.Core.List.{List, [], ◌∷◌, ◌++◌}
use Prim.Native.Nat.{ℕ, zero, suc, ◌≤◌, ◌<◌}
use native.Mathlib.Nat.{not-suc-le-zero, le_of_suc-le-suc}
use lib.ListN.{take, drop}
use Rattle.formed.specs.Parts.{tab}

pub tab_snoc : {A : Type 0} (n : ℕ) (f : ℕ → A) → tab (suc n) f ≡ tab n f ++ (f n ∷ [])
unfolding tab
tab_snoc zero f = refl
tab_snoc {A} (suc n) f = ap (λ (x : List A). f 0 ∷ x) (tab_snoc n (λ i. f (suc i)))

pub tab_take : {A : Type 0} (k n : ℕ) (f : ℕ → A) → k ≤ n → take k (tab n f) ≡ tab k f
unfolding tab
tab_take zero n f l = refl
tab_take (suc k) zero f l = absurd (not-suc-le-zero l)
tab_take {A} (suc k) (suc n) f l = ap (λ (x : List A). f 0 ∷ x) (tab_take k n (λ i. f (suc i)) (le_of_suc-le-suc l))

pub tab_drop : {A : Type 0} (k n : ℕ) (f : ℕ → A) → k < n → drop k (tab n f) ≡ f k ∷ drop (suc k) (tab n f)
unfolding tab
tab_drop k zero f l = absurd (not-suc-le-zero l)
tab_drop zero (suc n) f l = refl
tab_drop (suc k) (suc n) f l = tab_drop k n (λ i. f (suc i)) (le_of_suc-le-suc l)

pub tab_end : {A : Type 0} (n : ℕ) (f : ℕ → A) → drop n (tab n f) ≡ []
unfolding tab
tab_end zero f = refl
tab_end (suc n) f = tab_end n (λ i. f (suc i))
