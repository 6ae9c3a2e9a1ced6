-- Tests and sums on four limbs.
-- Assumes nothing.
use mathlib.Core.Path.{◌≡◌, refl}
use Prim.Native.Nat.{ℕ, ◌+◌, ◌*◌, ◌/◌, ◌%◌, ◌<◌, ◌^◌}
use native.Mathlib.Omega.{arith}
use lib.ListN.{replicate}
use Rattle.std.specs.Prelude.{Bool, true, false}
use Rattle.std.specs.Bool.{FalseIff}
use Rattle.std.specs.Int.{from_bool}
use Rattle.word.specs.Value.{value, limbs_value}

pub value_lt : (a b c d : ℕ) → a < 2 ^ 64 → b < 2 ^ 64 → c < 2 ^ 64 → d < 2 ^ 64
    → limbs_value a b c d < 2 ^ 256
value_lt a b c d k l m n = omega arith

-- the whole value's tests, by a limb and the rest
pub low_mod : (a h : ℕ) → a % 2 ^ 32 ≡ (a + 2 ^ 64 * h) % 2 ^ 32
low_mod a h = omega arith

-- a word is above K where its lowest limb is, or where another is not 0
module _ (K : ℕ) (small : K < 2 ^ 64) where
  pub above_a : (a b c d : ℕ) → K < a → K < limbs_value a b c d
  above_a a b c d l = omega arith

  pub above_b : (a b c d : ℕ) → (b ≡ 0 → ⊥) → K < limbs_value a b c d
  above_b a b c d n = omega arith

  pub above_c : (a b c d : ℕ) → (c ≡ 0 → ⊥) → K < limbs_value a b c d
  above_c a b c d n = omega arith

  pub above_d : (a b c d : ℕ) → (d ≡ 0 → ⊥) → K < limbs_value a b c d
  above_d a b c d n = omega arith

  -- the same, where it isn't said which
  pub above_upper : (a b c d : ℕ) → 0 < b + c + d → K < limbs_value a b c d
  above_upper a b c d n = omega arith

-- a word whose upper limbs are 0 is its lowest limb
pub only_a : (a b c d : ℕ) → b ≡ 0 → c ≡ 0 → d ≡ 0 → limbs_value a b c d ≡ a
only_a a b c d e f g = omega arith

-- ---- the word plus 32
-- a limb's sum, and what it carries
pub carry : (x y k : ℕ) (t : Bool) → x < 2 ^ 64 → y < 2 ^ 64 → FalseIff t (x + y < 2 ^ 64) → k ≡ from_bool t → x + y ≡ (x + y) % 2 ^ 64 + 2 ^ 64 * k
carry x y k true l m f e = omega arith
carry x y k false l m f e = omega arith

module _ (a b c d i j k : ℕ) where
  abbrev sum : ℕ
  sum = limbs_value ((a + 32) % 2 ^ 64) ((b + i) % 2 ^ 64) ((c + j) % 2 ^ 64) ((d + k) % 2 ^ 64)

  whole : a + 32 ≡ (a + 32) % 2 ^ 64 + 2 ^ 64 * i → b + i ≡ (b + i) % 2 ^ 64 + 2 ^ 64 * j → c + j ≡ (c + j) % 2 ^ 64 + 2 ^ 64 * k
      → limbs_value a b c d + 32 ≡ sum + 2 ^ 256 * ((d + k) / 2 ^ 64)
  whole e f g = omega arith

  pub sum_is : a + 32 ≡ (a + 32) % 2 ^ 64 + 2 ^ 64 * i → b + i ≡ (b + i) % 2 ^ 64 + 2 ^ 64 * j → c + j ≡ (c + j) % 2 ^ 64 + 2 ^ 64 * k
      → sum ≡ (limbs_value a b c d + 32) % 2 ^ 256
  sum_is e f g =
      let l = value_lt ((a + 32) % 2 ^ 64) ((b + i) % 2 ^ 64) ((c + j) % 2 ^ 64) ((d + k) % 2 ^ 64) (omega arith) (omega arith) (omega arith) (omega arith) in
      omega (arith, whole e f g, l)

-- four zero limbs
pub no_limbs : value (replicate 4 0) ≡ 0
unfolding value
no_limbs = refl
