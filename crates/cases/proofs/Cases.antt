-- Every row of 01's table holds. Both sides of a row compute to the same, but where it speaks of every chunk number or of every gas.
-- Assumes nothing.
use mathlib.Core.Path.{◌≡◌, refl, ap}
use mathlib.Core.Bool.{Bool, not, ◌&&◌}
use mathlib.Core.List.{[], ◌∷◌}
use Prim.Native.Nat.{ℕ, zero, suc}
use native.Mathlib.Nat.{sub-zero}
use native.Mathlib.Omega.{arith}
use lib.Dec.{leb, ltb}
use borrow.Author.Tests.{le-leb, le-ltb, ne_eqb}
use Rattle.formed.specs.Pages.{dynamic}
use Rattle.formed.specs.Parts.{tab}
use Rattle.cases.specs.Cases.{among, table, All}

-- the chunk numbers from 1 to 1, and from 1 to 2
one : (k : ℕ) → not (not (leb 1 k && ltb k 2)) ≡ among (1 ∷ []) k
one zero = refl
one (suc zero) = refl
one (suc (suc k)) = rw (le-leb 1 (suc (suc k)) (omega arith), le-ltb (suc (suc k)) 2 (omega arith), ne_eqb (suc (suc k)) 1 (omega arith))

two : (k : ℕ) → not (not (leb 1 k && ltb k 3)) ≡ among (1 ∷ 2 ∷ []) k
two zero = refl
two (suc zero) = refl
two (suc (suc zero)) = refl
two (suc (suc (suc k))) =
    rw (
      le-leb 1 (suc (suc (suc k))) (omega arith),
      le-ltb (suc (suc (suc k))) 3 (omega arith),
      ne_eqb (suc (suc (suc k))) 1 (omega arith),
      ne_eqb (suc (suc (suc k))) 2 (omega arith),
    )

infixr 20 ◌and◌
-- one row, and the rows after it
◌and◌ : {A B : Type 0} → A → B → A × B
a and b = (a, b)

pub cases : All table
unfolding dynamic tab
cases =
    refl and refl and refl and refl and refl and refl and refl
    and refl and refl
    and (λ v k. ap (λ (b : Bool). v.held 66 k && b) (one k))
    and (λ v k. ap (λ (b : Bool). v.held 66 k && b) (two k))
    and (λ v k. ap (λ (b : Bool). v.held 66 k && b) (two k))
    and refl and refl
    and ((λ gas enough. rw (sub-zero gas)), refl)
    and ((λ gas enough. rw (le-leb 1 gas enough)), refl)
    and tt
