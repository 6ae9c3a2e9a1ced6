-- A set of flags as a number: what setting and clearing one does to the others, and how large the number gets.
-- Assumes nothing.
use mathlib.Core.Path.{◌≡◌, refl, sym, ap, ◌∙◌, subst}
use mathlib.Core.Bool.{Bool, true, false, cond}
use Prim.Native.Nat.{ℕ, zero, suc, ◌+◌, ◌*◌, ◌-◌, ◌/◌, ◌%◌, ◌^◌, ◌<◌, ◌≤◌}
use native.Mathlib.Omega.{arith}
use native.Mathlib.Nat.{pow-suc, le_of_suc-le-suc, not-suc-le-zero, div-div-eq-div-mul, mul_comm}
use lib.Dec.{eqb, eqb-zero-suc, eqb-suc-zero, eqb-suc-suc}
use borrow.Author.Tests.{eqb-true, eqb-false}
use lib.Bits.{bit_and, bit_or, and_comm, or_add_and}
use Rattle.std.proofs.lemmas.Nat.{one_shl, and-not, pow_below}
use Rattle.std.proofs.lemmas.Nat.Bits.{and_pow}
use Rattle.registers.specs.Registers.{flag_of, with_flag, without_flag, put_flag}

-- the bit, 0 or 1
abbrev pub bit : ℕ → ℕ → ℕ
bit x n = x / 2 ^ n % 2

-- bit n + 1 of x is bit n of its half
pub half : (x n : ℕ) → bit x (suc n) ≡ bit (x / 2) n
half x n = ap (λ (q : ℕ). q % 2) (ap (λ (p : ℕ). x / p) (pow-suc 2 n ∙ mul_comm (2 ^ n) 2) ∙ sym (div-div-eq-div-mul x 2 (2 ^ n)))

first : (x : ℕ) → bit x 0 ≡ x % 2
first x = omega arith

-- ---- sums and differences with twice a number
add_half : (x m : ℕ) → (x + m * 2) / 2 ≡ x / 2 + m
add_half x m = omega arith

sub_half : (x m : ℕ) → (x - m * 2) / 2 ≡ x / 2 - m
sub_half x m = omega arith

add_first : (x m : ℕ) → (x + m * 2) % 2 ≡ x % 2
add_first x m = omega arith

sub_first : (x m : ℕ) → m ≤ x / 2 → (x - m * 2) % 2 ≡ x % 2
sub_first x m l = omega arith

twice_le : (x m : ℕ) → m ≤ x / 2 → m * 2 ≤ x
twice_le x m l = omega arith

twice_lt : (x m w : ℕ) → x / 2 + m < w → x + m * 2 < w * 2
twice_lt x m w l = omega arith

half_lt : (x w : ℕ) → x < w * 2 → x / 2 < w
half_lt x w l = omega arith

odd_le : (x : ℕ) → x % 2 ≡ 1 → 1 ≤ x
odd_le x e = omega arith

even_lt : (x w : ℕ) → x < w * 2 → x % 2 ≡ 0 → x + 1 < w * 2
even_lt x w l e = omega arith

even_up : (x : ℕ) → x % 2 ≡ 0 → (x + 1) % 2 ≡ 1
even_up x e = omega arith

even_half : (x : ℕ) → x % 2 ≡ 0 → (x + 1) / 2 ≡ x / 2
even_half x e = omega arith

odd_down : (x : ℕ) → x % 2 ≡ 1 → (x - 1) % 2 ≡ 0
odd_down x e = omega arith

odd_half : (x : ℕ) → x % 2 ≡ 1 → (x - 1) / 2 ≡ x / 2
odd_half x e = omega arith

-- ---- bounds
-- a bit that is on can be taken away
pub bit_le : (x n : ℕ) → bit x n ≡ 1 → 2 ^ n ≤ x
bit_le x zero e = odd_le x (sym (first x) ∙ e)
bit_le x (suc n) e = subst (λ (p : ℕ). p ≤ x) (sym (pow-suc 2 n)) (twice_le x (2 ^ n) (bit_le (x / 2) n (sym (half x n) ∙ e)))

-- a bit that is off can be added
pub bit_fits : (x n w : ℕ) → n < w → x < 2 ^ w → bit x n ≡ 0 → x + 2 ^ n < 2 ^ w
bit_fits x n zero l b e = absurd (not-suc-le-zero l)
bit_fits x zero (suc w) l b e =
    subst (λ (p : ℕ). x + 1 < p) (sym (pow-suc 2 w)) (even_lt x (2 ^ w) (subst (λ (p : ℕ). x < p) (pow-suc 2 w) b) (sym (first x) ∙ e))
bit_fits x (suc n) (suc w) l b e =
    rw (pow-suc 2 w, pow-suc 2 n) (twice_lt x (2 ^ n) (2 ^ w)
    (bit_fits (x / 2) n w (le_of_suc-le-suc l) (half_lt x (2 ^ w) (subst (λ (p : ℕ). x < p) (pow-suc 2 w) b)) (sym (half x n) ∙ e)))

-- ---- the other bits
pub bit_up : (x n k : ℕ) → bit x n ≡ 0 → bit (x + 2 ^ n) k ≡ cond (eqb k n) 1 (bit x k)
bit_up x zero zero e = first (x + 1) ∙ even_up x (sym (first x) ∙ e)
bit_up x zero (suc k) e =
    half (x + 1) k ∙ ap (λ (q : ℕ). bit q k) (even_half x (sym (first x) ∙ e)) ∙ sym (half x k)
    ∙ sym (ap (λ (t : Bool). cond t 1 (bit x (suc k))) (eqb-suc-zero k))
bit_up x (suc n) zero e =
    ap (λ (p : ℕ). bit (x + p) 0) (pow-suc 2 n) ∙ first (x + 2 ^ n * 2) ∙ add_first x (2 ^ n) ∙ sym (first x)
    ∙ sym (ap (λ (t : Bool). cond t 1 (bit x 0)) (eqb-zero-suc n))
bit_up x (suc n) (suc k) e =
    ap (λ (p : ℕ). bit (x + p) (suc k)) (pow-suc 2 n) ∙ half (x + 2 ^ n * 2) k ∙ ap (λ (q : ℕ). bit q k) (add_half x (2 ^ n))
    ∙ bit_up (x / 2) n k (sym (half x n) ∙ e)
    ∙ ap (λ (q : ℕ). cond (eqb k n) 1 q) (sym (half x k))
    ∙ sym (ap (λ (t : Bool). cond t 1 (bit x (suc k))) (eqb-suc-suc k n))

pub bit_down : (x n k : ℕ) → bit x n ≡ 1 → bit (x - 2 ^ n) k ≡ cond (eqb k n) 0 (bit x k)
bit_down x zero zero e = first (x - 1) ∙ odd_down x (sym (first x) ∙ e)
bit_down x zero (suc k) e =
    half (x - 1) k ∙ ap (λ (q : ℕ). bit q k) (odd_half x (sym (first x) ∙ e)) ∙ sym (half x k)
    ∙ sym (ap (λ (t : Bool). cond t 0 (bit x (suc k))) (eqb-suc-zero k))
bit_down x (suc n) zero e =
    ap (λ (p : ℕ). bit (x - p) 0) (pow-suc 2 n) ∙ first (x - 2 ^ n * 2) ∙ sub_first x (2 ^ n) (bit_le (x / 2) n (sym (half x n) ∙ e)) ∙ sym (first x)
    ∙ sym (ap (λ (t : Bool). cond t 0 (bit x 0)) (eqb-zero-suc n))
bit_down x (suc n) (suc k) e =
    ap (λ (p : ℕ). bit (x - p) (suc k)) (pow-suc 2 n) ∙ half (x - 2 ^ n * 2) k ∙ ap (λ (q : ℕ). bit q k) (sub_half x (2 ^ n))
    ∙ bit_down (x / 2) n k (sym (half x n) ∙ e)
    ∙ ap (λ (q : ℕ). cond (eqb k n) 0 q) (sym (half x k))
    ∙ sym (ap (λ (t : Bool). cond t 0 (bit x (suc k))) (eqb-suc-suc k n))

-- ---- flags
pub on : (x n : ℕ) → flag_of x n ≡ true → bit x n ≡ 1
on x n e = eqb-true (bit x n) 1 e

not_one : (q : ℕ) → (q % 2 ≡ 1 → ⊥) → q % 2 ≡ 0
not_one q f = omega arith

pub off : (x n : ℕ) → flag_of x n ≡ false → bit x n ≡ 0
off x n e = not_one (x / 2 ^ n) (eqb-false (bit x n) 1 e)

-- a test of a chosen number
chosen : (t : Bool) (a b : ℕ) → eqb (cond t a b) 1 ≡ cond t (eqb a 1) (eqb b 1)
chosen true a b = refl
chosen false a b = refl

-- a test that is what it is at n too
same : (x n k : ℕ) (v : Bool) → flag_of x n ≡ v → (t : Bool) → eqb k n ≡ t → flag_of x k ≡ cond t v (flag_of x k)
same x n k v e true h = ap (λ (j : ℕ). flag_of x j) (eqb-true k n h) ∙ e
same x n k v e false h = refl

with_by : (x n k : ℕ) (t : Bool) → flag_of x n ≡ t → flag_of (cond t x (x + 2 ^ n)) k ≡ cond (eqb k n) true (flag_of x k)
with_by x n k true e = same x n k true e (eqb k n) refl
with_by x n k false e = ap (λ (q : ℕ). eqb q 1) (bit_up x n k (off x n e)) ∙ chosen (eqb k n) 1 (bit x k)

without_by : (x n k : ℕ) (t : Bool) → flag_of x n ≡ t → flag_of (cond t (x - 2 ^ n) x) k ≡ cond (eqb k n) false (flag_of x k)
without_by x n k true e = ap (λ (q : ℕ). eqb q 1) (bit_down x n k (on x n e)) ∙ chosen (eqb k n) 0 (bit x k)
without_by x n k false e = same x n k false e (eqb k n) refl

-- setting a flag sets that one alone, clearing it clears that one alone
pub flag_with : (x n k : ℕ) → flag_of (with_flag x n) k ≡ cond (eqb k n) true (flag_of x k)
flag_with x n k = with_by x n k (flag_of x n) refl

pub flag_without : (x n k : ℕ) → flag_of (without_flag x n) k ≡ cond (eqb k n) false (flag_of x k)
flag_without x n k = without_by x n k (flag_of x n) refl

pub flag_put : (x n k : ℕ) (t : Bool) → flag_of (put_flag x n t) k ≡ cond (eqb k n) t (flag_of x k)
flag_put x n k true = flag_with x n k
flag_put x n k false = flag_without x n k

-- a set of w flags stays one
sub_lt : (x p w : ℕ) → x < w → x - p < w
sub_lt x p w l = omega arith

with_lt : (x n w : ℕ) (t : Bool) → flag_of x n ≡ t → n < w → x < 2 ^ w → cond t x (x + 2 ^ n) < 2 ^ w
with_lt x n w true e l b = b
with_lt x n w false e l b = bit_fits x n w l b (off x n e)

without_lt : (x n w : ℕ) (t : Bool) → x < 2 ^ w → cond t (x - 2 ^ n) x < 2 ^ w
without_lt x n w true b = sub_lt x (2 ^ n) (2 ^ w) b
without_lt x n w false b = b

pub put_lt : (x n w : ℕ) (t : Bool) → n < w → x < 2 ^ w → put_flag x n t < 2 ^ w
put_lt x n w true l b = with_lt x n w (flag_of x n) refl l b
put_lt x n w false l b = without_lt x n w (flag_of x n) b

-- ---- a flag that is put, by `|` and `&`
with_is : (x p b o : ℕ) (t : Bool) → o + b * p ≡ x + p → b < 2 → eqb b 1 ≡ t → o ≡ cond t x (x + p)
with_is x p b o true e l f = let k = rw (eqb-true b 1 f) at e in omega (arith, k)
with_is x p b o false e l f =
    let none : b ≡ 0 = omega (arith, eqb-false b 1 f) in
    let k = rw none at e in
    omega (arith, k)

without_is : (x p b o : ℕ) (t : Bool) → o + b * p ≡ x → b < 2 → eqb b 1 ≡ t → o ≡ cond t (x - p) x
without_is x p b o true e l f = let k = rw (eqb-true b 1 f) at e in omega (arith, k)
without_is x p b o false e l f =
    let none : b ≡ 0 = omega (arith, eqb-false b 1 f) in
    let k = rw none at e in
    omega (arith, k)

pub put_on : (x n : ℕ) → n ≤ 15 → bit_or x (1 * 2 ^ n % 2 ^ 64) ≡ with_flag x n
put_on x n l = rw (one_shl n 64 (omega arith)) (with_is x (2 ^ n) (bit x n) _ (flag_of x n) (rw (and_pow x n) at (or_add_and x (2 ^ n))) (omega arith) refl)

pub put_off : (x n : ℕ) → n ≤ 15 → x < 2 ^ 64 → bit_and x (2 ^ 64 - 1 - 1 * 2 ^ n % 2 ^ 64) ≡ without_flag x n
put_off x n l m =
    let p : 2 ^ n < 2 ^ 64 = pow_below n 64 (omega arith) in
    rw (one_shl n 64 (omega arith), and_comm x (2 ^ 64 - 1 - 2 ^ n))
    (without_is x (2 ^ n) (bit x n) _ (flag_of x n) (rw (and_comm (2 ^ n) x, and_pow x n) at (and-not 64 (2 ^ n) x p m)) (omega arith) refl)
