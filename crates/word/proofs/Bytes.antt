-- The number of a run of bytes, by its parts.
-- Assumes nothing.
use mathlib.Core.Path.{◌≡◌, sym, ap, ◌∙◌}
use mathlib.Core.List.{List, [], ◌∷◌}
use Prim.Native.Nat.{ℕ, zero, suc, ◌+◌, ◌*◌, ◌^◌}
use native.Mathlib.Omega.{arith}
use native.Mathlib.Nat.{add-zero, add-suc, mul_assoc, mul_comm, pow-suc}
use lib.ListN.{get_or}
use Rattle.std.specs.Int.{w64, from_be_bytes}
use Rattle.word.specs.Value.{limbs_value, bytes_at}

one_more : (p y g x q : ℕ) → x ≡ p + y → q ≡ 256 * p → 256 * x + g ≡ q + (256 * y + g)
one_more p y g x q e f = omega arith

scaled : (x n : ℕ) → x * 256 ^ suc n ≡ 256 * (x * 256 ^ n)
scaled x n = ap (λ (w : ℕ). x * w) (pow-suc 256 n) ∙ sym (mul_assoc x (256 ^ n) 256) ∙ mul_comm (x * 256 ^ n) 256

-- m bytes and n more: the first m count 256 ^ n times
pub split : (b : List ℕ) (at m n : ℕ) → bytes_at b at (m + n) ≡ bytes_at b at m * 256 ^ n + bytes_at b (at + m) n
unfolding bytes_at
split b at m zero = ap (bytes_at b at) (add-zero m) ∙ all (bytes_at b at m)
  where
    all : (x : ℕ) → x ≡ x * 1 + 0
    all x = omega arith
split b at m (suc n) =
    ap (λ (k : ℕ). bytes_at b at k) (add-suc m n)
    ∙ ap (λ (k : ℕ). 256 * bytes_at b at (m + n) + get_or b k 0) (place at m n)
    ∙ one_more _ _ _ _ _ (split b at m n) (scaled (bytes_at b at m) n)
  where
    place : (at m n : ℕ) → at + (m + n) ≡ at + m + n
    place at m n = omega arith

-- eight bytes, as `from_be_bytes` sums them
pub eight : (b : List ℕ) (at : ℕ)
    → from_be_bytes w64 (get_or b at 0 ∷ get_or b (at + 1) 0 ∷ get_or b (at + 2) 0 ∷ get_or b (at + 3) 0 ∷ get_or b (at + 4) 0 ∷ get_or b (at + 5) 0 ∷ get_or b (at + 6) 0 ∷ get_or b (at + 7) 0 ∷ [])
    ≡ bytes_at b at 8
unfolding bytes_at
eight b at = omega (arith, first)
  where
    first : get_or b (at + 0) 0 ≡ get_or b at 0
    first = ap (λ (i : ℕ). get_or b i 0) (add-zero at)

turned : (x y : ℕ) → x * 2 ^ 64 + y ≡ y + 2 ^ 64 * x
turned x y = omega arith

-- 32 bytes are four limbs, the highest first
pub limbs : (b : List ℕ) → bytes_at b 0 32 ≡ limbs_value (bytes_at b 24 8) (bytes_at b 16 8) (bytes_at b 8 8) (bytes_at b 0 8)
limbs b =
    split b 0 24 8 ∙ turned _ _
    ∙ ap (λ (h : ℕ). bytes_at b 24 8 + 2 ^ 64 * h) (split b 0 16 8 ∙ turned _ _ ∙ ap (λ (h : ℕ). bytes_at b 16 8 + 2 ^ 64 * h) (split b 0 8 8 ∙ turned _ _))
