-- The incremented operand.
-- Assumes nothing.
use mathlib.Core.Path.{◌≡◌}
use Prim.Native.Nat.{ℕ, ◌+◌, ◌*◌, ◌%◌, ◌^◌, ◌≤◌, ◌<◌}
use native.Mathlib.Omega.{arith}
use native.Mathlib.Nat.{mod-eq_of_lt}
use Rattle.word.specs.Value.{last_address}
use Rattle.view.specs.Instructions.{incremented}

-- it never leaves 256 bits: neither that of a word within the limit nor that of a pointer whose offset is
pub no_carry : (x : ℕ) → x < 2 ^ 256 → x % 2 ^ 32 ≤ last_address → incremented x ≡ x + 32
no_carry x l h = mod-eq_of_lt (below (2 ^ 224) l)
  where
    below : (k : ℕ) → x < 2 ^ 32 * k → x + 32 < 2 ^ 32 * k
    below k l = omega arith
