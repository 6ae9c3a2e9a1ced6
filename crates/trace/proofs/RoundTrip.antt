-- A number that is written is read back.
-- Assumes nothing.
use mathlib.Core.Path.{◌≡◌, refl, sym, ap, ◌∙◌}
use mathlib.Core.Logic.{⊎_elim}
use mathlib.Core.Bool.{Bool, true, false, ◌&&◌, false≢true}
use mathlib.Core.List.{List, [], ◌∷◌, ◌++◌}
use Rattle.std.specs.Prelude.{Some}
use Prim.Native.Nat.{ℕ, zero, suc, ◌+◌, ◌*◌, ◌-◌, ◌/◌, ◌%◌, ◌≤◌, ◌<◌, ◌^◌}
use native.Mathlib.Nat.{zero-mul, pow-zero, pow-suc, div-lt_iff_lt-mul, div-add-mod', mod-lt, lt_of_le_of_lt}
use native.Mathlib.Omega.{arith}
use lib.Dec.{ltb, lit<}
use borrow.Author.Tests.{lt-ltb, ne_eqb}
use Rattle.trace.specs.Language.{digit, digital, number_after, numeral_value, led_well, decimal, hexadecimal}
use Rattle.trace_text.specs.Text.{glyph, numeral, decimal_text, hexadecimal_text}
use Rattle.trace.proofs.Figures.{digit_figure, digit_letter, decimal_is, hexadecimal_is}
use Rattle.std.proofs.lemmas.Bool.{cases_lt, cases_eq}
use Rattle.trace_text.proofs.Numerals.{glyph_low, glyph_high, numeral_one, numeral_more, numeral_length}

-- ---- one digit
digit_glyph : (d : ℕ) → d < 16 → digit (glyph d) ≡ d
digit_glyph d l =
    ⊎_elim (λ g. ap digit (sym (glyph_low d g)) ∙ sym (digit_figure (48 + d) (omega arith) (omega arith)) ∙ low d)
    (λ g. ap digit (sym (glyph_high d g)) ∙ sym (digit_letter (87 + d) (omega arith) (omega arith)) ∙ high d)
    (cases_lt d 10)
  where
    low : (d : ℕ) → 48 + d - 48 ≡ d
    low d = omega arith

    high : (d : ℕ) → 87 + d - 87 ≡ d
    high d = omega arith

glyph_lead : (d : ℕ) → 0 < d → glyph d ≡ 48 → ⊥
glyph_lead d p e = ⊎_elim (λ g. let h = glyph_low d g in omega arith) (λ g. let h = glyph_high d g in omega arith) (cases_lt d 10)

-- ---- one digit more
number_more : (b n : ℕ) (xs : List ℕ) (g : ℕ) → number_after b n (xs ++ (g ∷ [])) ≡ number_after b n xs * b + digit g
unfolding number_after
number_more b n [] g = refl
number_more b n (x ∷ xs) g = number_more b (n * b + digit x) xs g

digital_more : (b : ℕ) (xs : List ℕ) (g : ℕ) → digital b xs ≡ true → digit g < b → digital b (xs ++ (g ∷ [])) ≡ true
unfolding digital
digital_more b [] g e l = rw (lt-ltb (digit g) b l)
digital_more b (x ∷ xs) g e l = rw (and_left (ltb (digit x) b) (digital b xs) e) (digital_more b xs g (and_right (ltb (digit x) b) (digital b xs) e) l)
  where
    and_left : (s t : Bool) → (s && t) ≡ true → s ≡ true
    and_left true t e = refl
    and_left false t e = e

    and_right : (s t : Bool) → (s && t) ≡ true → t ≡ true
    and_right true t e = e
    and_right false t e = absurd (false≢true e)

-- the first byte is there and is no `0`
Starts : List ℕ → Type 0
Starts [] = ⊥
Starts (h ∷ t) = h ≡ 48 → ⊥

starts_more : (xs : List ℕ) (g : ℕ) → Starts xs → Starts (xs ++ (g ∷ []))
unfolding Starts
starts_more [] g s = absurd s
starts_more (h ∷ t) g s = s

starts_well : (xs : List ℕ) → Starts xs → led_well xs ≡ true
unfolding Starts led_well
starts_well [] s = absurd s
starts_well (h ∷ []) s = refl
starts_well (h ∷ c ∷ t) s = rw (ne_eqb h 48 s)

-- ---- numerals of a base
module _ (b : ℕ) (two : 1 < b) (small : b ≤ 16) where
  low_digit : (n : ℕ) → n % b < b
  low_digit n = mod-lt n (omega arith)

  rest_fits : (n m : ℕ) → n < b ^ suc m → n / b < b ^ m
  rest_fits n m l = (div-lt_iff_lt-mul {k = b} {x = n} {y = b ^ m} (omega arith)).1 (rw (sym (pow-suc b m)) l)

  rest_positive : (n : ℕ) → b ≤ n → 0 < n / b
  rest_positive n l = ⊎_elim (λ z. absurd (let h = div-add-mod' n b in let r = low_digit n in let q : n / b * b ≡ 0 = rw z (zero-mul b) in omega arith)) (λ p. omega arith) (cases_eq (n / b) 0)

  numeral_number : (m n : ℕ) → n < b ^ m → numeral_value b (numeral b m n) ≡ n
  unfolding number_after numeral
  numeral_number zero n l = let z = pow-zero b in omega arith
  numeral_number (suc m) n l =
      ⊎_elim (λ g. ap (number_after b 0) (numeral_one b m n g) ∙ last n (digit_glyph n (omega arith)))
      (λ g.
      ap (number_after b 0) (numeral_more b m n g)
      ∙ number_more b 0 (numeral b m (n / b)) (glyph (n % b))
      ∙ ap (λ (q : ℕ). q * b + digit (glyph (n % b))) (numeral_number m (n / b) (rest_fits n m l))
      ∙ ap (λ (q : ℕ). n / b * b + q) (digit_glyph (n % b) (let h = low_digit n in omega arith))
      ∙ div-add-mod' n b)
      (cases_lt n b)
    where
      last : (n : ℕ) → digit (glyph n) ≡ n → 0 * b + digit (glyph n) ≡ n
      last n e = let z = zero-mul b in omega arith

  numeral_digital : (m n : ℕ) → digital b (numeral b m n) ≡ true
  unfolding digital numeral
  numeral_digital zero n = refl
  numeral_digital (suc m) n =
      ⊎_elim (λ g. ap (digital b) (numeral_one b m n g) ∙ rw (lt-ltb (digit (glyph n)) b (rw (digit_glyph n (omega arith)) g)))
      (λ g.
      ap (digital b) (numeral_more b m n g)
      ∙ digital_more b (numeral b m (n / b)) (glyph (n % b)) (numeral_digital m (n / b)) (let h = low_digit n in rw (digit_glyph (n % b) (omega arith)) h))
      (cases_lt n b)

  numeral_starts : (m n : ℕ) → 0 < n → n < b ^ m → Starts (numeral b m n)
  unfolding Starts
  numeral_starts zero n p l = let z = pow-zero b in absurd (omega arith)
  numeral_starts (suc m) n p l =
      ⊎_elim (λ g. rw (numeral_one b m n g) (glyph_lead n p))
      (λ g. rw (numeral_more b m n g) (starts_more (numeral b m (n / b)) (glyph (n % b)) (numeral_starts m (n / b) (rest_positive n g) (rest_fits n m l))))
      (cases_lt n b)

  numeral_led : (m n : ℕ) → n < b ^ suc m → led_well (numeral b (suc m) n) ≡ true
  unfolding led_well
  numeral_led m zero l = rw (numeral_one b m 0 (omega arith))
  numeral_led m (suc n) l = starts_well (numeral b (suc m) (suc n)) (numeral_starts (suc m) (suc n) (omega arith) l)

-- ---- THE LAWS
pub decimal_back : (n : ℕ) → n ≤ 4294967295 → decimal (decimal_text n) ≡ Some n
decimal_back n l =
    let f : n < 10 ^ 64 = lt_of_le_of_lt l (lit< tt) in
    sym (decimal_is (decimal_text n) n (numeral_led 10 (omega arith) (omega arith) 63 n f) (numeral_digital 10 (omega arith) (omega arith) 64 n) (numeral_number 10 (omega arith) (omega arith) 64 n f) l)

pub hexadecimal_back : (n : ℕ) → n < 2 ^ 256 → hexadecimal (hexadecimal_text n) ≡ Some n
hexadecimal_back n l =
    sym (hexadecimal_is (hexadecimal_text n) n (numeral_led 16 (omega arith) (omega arith) 63 n l) (numeral_digital 16 (omega arith) (omega arith) 64 n) (numeral_number 16 (omega arith) (omega arith) 64 n l) (numeral_length 16 64 n))
