-- The numbers of the journals' words.
-- Assumes nothing.
use mathlib.Core.Path.{◌≡◌, sym, ap}
use mathlib.Core.Logic.{⊎_elim}
use Prim.Native.Nat.{ℕ, suc, ◌+◌, ◌*◌, ◌≤◌, ◌<◌}
use native.Mathlib.Nat.{mul-suc, mul_comm, mul-le-mul_left}
use native.Mathlib.Omega.{arith}
use Rattle.index.proofs.Logic.{same_or_not, lt_or_ge}

-- word i of journal j, of n journals with room for r words each
pub number_lt : (r j i n : ℕ) → j < n → i < r → r * j + i < n * r
number_lt r j i n l li =
    let a = mul-suc r j in
    let b = mul_comm n r in
    let c : r * suc j ≤ r * n = mul-le-mul_left r l in
    omega arith

before : (r j k i x : ℕ) → j < k → i < r → r * j + i ≡ r * k + x → ⊥
before r j k i x l li e =
    let a = mul-suc r j in
    let c : r * suc j ≤ r * k = mul-le-mul_left r l in
    omega arith

-- two words have two numbers
pub number_apart : (r j k i x : ℕ) → i < r → x < r → r * j + i ≡ r * k + x → (j ≡ k) × (i ≡ x)
number_apart r j k i x li lx e =
    ⊎_elim
    (λ (q : j ≡ k). let h : r * j ≡ r * k = ap (λ (y : ℕ). r * y) q in (q, omega arith))
    (λ (n : j ≡ k → ⊥).
    ⊎_elim (λ (l : j < k). absurd (before r j k i x l li e)) (λ (l : k ≤ j). absurd (before r k j x i (omega arith) lx (sym e))) (lt_or_ge j k))
    (same_or_not j k)
