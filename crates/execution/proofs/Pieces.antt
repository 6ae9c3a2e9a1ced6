-- What the parts of the instructions do.
-- Assumes nothing.
use Prim.Native.Nat.{ℕ, ◌≤◌, min}
use native.Mathlib.Omega.{arith}

-- ---- the lesser
pub min_le_left : (a b : ℕ) → min a b ≤ a
min_le_left a b = omega arith

pub min_le_right : (a b : ℕ) → min a b ≤ b
min_le_right a b = omega arith
