-- Digits and numbers, one byte after the other.
-- Assumes nothing.
use mathlib.Core.Path.{◌≡◌}
use mathlib.Core.Bool.{true, false, and-false}
use mathlib.Core.List.{List, [], ◌∷◌}
use Rattle.std.specs.Prelude.{None, Some}
use Prim.Native.Nat.{ℕ, ◌+◌, ◌*◌, ◌-◌, ◌≤◌, ◌<◌, ◌^◌}
use native.Mathlib.Nat.{le_refl, le_trans, pow-suc, pow-le-pow_right, lt_of_lt_of_le}
use native.Mathlib.Numerals.{add-one}
use native.Mathlib.Omega.{arith}
use lib.ListN.{length, get_or, drop}
use lib.Seq.{drop-cons, drop-length}
use borrow.Author.Tests.{lt-ltb, le-ltb, le-leb, lt-leb}
use Rattle.trace.specs.Language.{digit, digital, number_after, numeral_value, led_well, decimal, hexadecimal}

-- ---- a digit
pub digit_low : (b : ℕ) → b < 48 → 16 ≡ digit b
unfolding digit
digit_low b l = rw (lt-leb 48 b l, lt-leb 97 b (omega arith))

pub digit_figure : (b : ℕ) → 48 ≤ b → b ≤ 57 → b - 48 ≡ digit b
unfolding digit
digit_figure b l m = rw (le-leb 48 b l, le-leb b 57 m)

pub digit_gap : (b : ℕ) → 57 < b → b < 97 → 16 ≡ digit b
unfolding digit
digit_gap b l m = rw (le-leb 48 b (omega arith), lt-leb b 57 l, lt-leb 97 b m)

pub digit_letter : (b : ℕ) → 97 ≤ b → b ≤ 102 → b - 87 ≡ digit b
unfolding digit
digit_letter b l m = rw (le-leb 48 b (omega arith), lt-leb b 57 (omega arith), le-leb 97 b l, le-leb b 102 m)

pub digit_high : (b : ℕ) → 102 < b → 16 ≡ digit b
unfolding digit
digit_high b l = rw (le-leb 48 b (omega arith), lt-leb b 57 (omega arith), le-leb 97 b (omega arith), lt-leb b 102 l)

-- ---- the loops
module _ (base : ℕ) (f : List ℕ) (i : ℕ) (l : i < length f) where
  pub digital_stop : base ≤ digit (get_or f i 0) → digital base (drop i f) ≡ false
  unfolding digital
  digital_stop h = rw (drop-cons f i 0 l, le-ltb (digit (get_or f i 0)) base h)

  pub digital_step : digit (get_or f i 0) < base → digital base (drop (i + 1) f) ≡ digital base (drop i f)
  unfolding digital
  digital_step h = rw (add-one i, drop-cons f i 0 l, lt-ltb (digit (get_or f i 0)) base h)

  pub number_step : (n : ℕ) → number_after base (n * base + digit (get_or f i 0)) (drop (i + 1) f) ≡ number_after base n (drop i f)
  unfolding number_after
  number_step n = rw (add-one i, drop-cons f i 0 l)

pub digital_done : (base : ℕ) (f : List ℕ) (i : ℕ) → i ≤ length f → length f ≤ i → digital base (drop i f) ≡ true
unfolding digital
digital_done base f i l m = let e : i ≡ length f = omega arith in rw (e, drop-length f)

pub number_done : (base n : ℕ) (f : List ℕ) (i : ℕ) → i ≤ length f → length f ≤ i → number_after base n (drop i f) ≡ n
unfolding number_after
number_done base n f i l m = let e : i ≡ length f = omega arith in rw (e, drop-length f)

-- a number of more digits is no less
pub number_grows : (n : ℕ) (f : List ℕ) → n ≤ number_after 10 n f
unfolding number_after
number_grows n [] = le_refl n
number_grows n (b ∷ bs) = le_trans (up n (digit b)) (number_grows (n * 10 + digit b) bs)
  where
    up : (n d : ℕ) → n ≤ n * 10 + d
    up n d = omega arith

-- ---- fields as numbers
pub decimal_led : (f : List ℕ) → led_well f ≡ false → None ≡ decimal f
unfolding decimal
decimal_led f e = rw e

pub decimal_digit : (f : List ℕ) → digital 10 f ≡ false → None ≡ decimal f
unfolding decimal
decimal_digit f e = rw (e, and-false (led_well f))

pub decimal_wide : (f : List ℕ) → 4294967295 < numeral_value 10 f → None ≡ decimal f
unfolding decimal
decimal_wide f l = rw (lt-leb (numeral_value 10 f) 4294967295 l, and-false (digital 10 f), and-false (led_well f))

pub decimal_is : (f : List ℕ) (n : ℕ) → led_well f ≡ true → digital 10 f ≡ true → numeral_value 10 f ≡ n → n ≤ 4294967295 → Some n ≡ decimal f
unfolding decimal
decimal_is f n e d q l = rw (e, d, q, le-leb n 4294967295 l)

pub hexadecimal_led : (f : List ℕ) → led_well f ≡ false → None ≡ hexadecimal f
unfolding hexadecimal
hexadecimal_led f e = rw e

pub hexadecimal_digit : (f : List ℕ) → digital 16 f ≡ false → None ≡ hexadecimal f
unfolding hexadecimal
hexadecimal_digit f e = rw (e, and-false (led_well f))

pub hexadecimal_long : (f : List ℕ) → 64 < length f → None ≡ hexadecimal f
unfolding hexadecimal
hexadecimal_long f l = rw (lt-leb (length f) 64 l, and-false (digital 16 f), and-false (led_well f))

pub hexadecimal_is : (f : List ℕ) (n : ℕ) → led_well f ≡ true → digital 16 f ≡ true → numeral_value 16 f ≡ n → length f ≤ 64 → Some n ≡ hexadecimal f
unfolding hexadecimal
hexadecimal_is f n e d q l = rw (e, d, q, le-leb (length f) 64 l)

-- ---- digits of a word
pub one_digit : (n p d : ℕ) → n < p → d < 16 → n * 16 + d < p * 16
one_digit n p d l m = omega arith

pub digits_more : (n i d : ℕ) → n < 16 ^ i → d < 16 → n * 16 + d < 16 ^ (i + 1)
digits_more n i d l m = rw (add-one i, pow-suc 16 i) (one_digit n (16 ^ i) d l m)

pub digits_room : (n i : ℕ) → n < 16 ^ i → i < 64 → n < 16 ^ 63
digits_room n i l m = lt_of_lt_of_le l (pow-le-pow_right {n = 16} (omega arith) {i = i} {j = 63} (omega arith))
