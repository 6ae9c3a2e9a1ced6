-- The lists that the parts write.
-- Assumes nothing.
use mathlib.Core.Path.{◌≡◌, ap}
use mathlib.Core.List.{List, [], ◌∷◌}
use Prim.Native.Nat.{ℕ}
use lib.ListN.{get_or}
use Rattle.word.specs.Value.{value}
use Rattle.abi.specs.Interface.{partial_at}

-- a word, and a number after it
pub partial_told : (limbs : List ℕ) {k n : ℕ} → k ≡ n → partial_at (get_or limbs 0 0 ∷ get_or limbs 1 0 ∷ get_or limbs 2 0 ∷ get_or limbs 3 0 ∷ k ∷ []) ≡ (value limbs, n)
unfolding value
partial_told limbs e = ap (λ (x : ℕ). (value limbs, x)) e
