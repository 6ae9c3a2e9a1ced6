-- A word with one hexadecimal digit more. Every law is on one limb and the rest, since a number of 256 bits is too wide for the tactic on sums.
-- Assumes nothing.
use mathlib.Core.Path.{◌≡◌, ap, ◌∙◌}
use Prim.Native.Nat.{ℕ, ◌+◌, ◌*◌, ◌/◌, ◌%◌, ◌<◌, ◌^◌}
use native.Mathlib.Nat.{mod-eq_of_lt}
use native.Mathlib.Omega.{arith}
use Rattle.word.specs.Value.{limbs_value}

-- the low 60 bits of a limb move up, and its high 4 go to the rest
limb_up : (x h n : ℕ) → (x % 1152921504606846976) * 16 + n + 2 ^ 64 * (h * 16 + x / 1152921504606846976) ≡ (x + 2 ^ 64 * h) * 16 + n
limb_up x h n = omega arith

top_up : (x n : ℕ) → x < 1152921504606846976 → (x % 1152921504606846976) * 16 + n ≡ x * 16 + n
top_up x n l = rw (mod-eq_of_lt l)

rest_lt : (a h n : ℕ) → a + 2 ^ 64 * h < 2 ^ 64 * n → h < n
rest_lt a h n l = omega arith

top_lt : (a b c d : ℕ) → limbs_value a b c d < 16 ^ 63 → d < 1152921504606846976
top_lt a b c d l = rest_lt c d (2 ^ 60) (rest_lt b _ (2 ^ 64 * 2 ^ 60) (rest_lt a _ (2 ^ 64 * (2 ^ 64 * 2 ^ 60)) l))

pub longer : (a b c d n : ℕ) → limbs_value a b c d < 16 ^ 63
    → limbs_value ((a % 1152921504606846976) * 16 + n) ((b % 1152921504606846976) * 16 + a / 1152921504606846976)
    ((c % 1152921504606846976) * 16 + b / 1152921504606846976) ((d % 1152921504606846976) * 16 + c / 1152921504606846976)
    ≡ limbs_value a b c d * 16 + n
longer a b c d n l =
    ap (λ (h : ℕ). (a % 1152921504606846976) * 16 + n + 2 ^ 64 * h)
    (ap (λ (h : ℕ). (b % 1152921504606846976) * 16 + a / 1152921504606846976 + 2 ^ 64 * h)
    (ap (λ (h : ℕ). (c % 1152921504606846976) * 16 + b / 1152921504606846976 + 2 ^ 64 * h) (top_up d (c / 1152921504606846976) (top_lt a b c d l))
    ∙ limb_up c d (b / 1152921504606846976))
    ∙ limb_up b (c + 2 ^ 64 * d) (a / 1152921504606846976))
    ∙ limb_up a (b + 2 ^ 64 * (c + 2 ^ 64 * d)) n
