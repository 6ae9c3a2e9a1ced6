-- A line of more than 103 bytes means nothing, so that 104 of them tell what it means.
-- Assumes nothing.
use mathlib.Core.Path.{◌≡◌, refl, sym, ap, ◌∙◌}
use mathlib.Core.Logic.{⊎_elim}
use mathlib.Core.Bool.{Bool, true, false}
use mathlib.Core.List.{List, [], ◌∷◌}
use Rattle.std.specs.Prelude.{Option, None}
use Prim.Native.Nat.{ℕ, ◌+◌, ◌*◌, ◌≤◌, ◌<◌, ◌^◌}
use native.Mathlib.Nat.{le_trans, pow-succ', pow-le-pow_right, mul-le-mul_right, mul_assoc}
use native.Mathlib.Omega.{arith}
use lib.ListN.{length, take}
use lib.Seq.{take_all, length-take-le}
use lib.Dec.{eqb}
use lib.Pointwise.{pointwise_long}
use borrow.Author.Tests.{eq-eqb, ne_eqb}
use Rattle.std.specs.Str.{bytes_eq}
use Rattle.trace.specs.Language.{Kind, Unread, Open, Write, Read, Snapshot, Rollback}
use Rattle.trace.specs.Language.{unread, fields, on_first, digit, number_after, numeral_value, led_well, decimal, hexadecimal, line_kind, form_of, numbers, line_of_fields, meaning}
use Rattle.trace.proofs.Figures.{decimal_led, decimal_wide, hexadecimal_long, digit_low, digit_figure, digit_gap, digit_letter, digit_high}
use Rattle.std.proofs.lemmas.Bool.{cases_lt, cases_eq}
use Rattle.trace.proofs.Lines.{no_line, also_none}

-- ---- a decimal has ten digits at most
-- only `0` stands for 0
digit_zero : (b : ℕ) → digit b ≡ 0 → b ≡ 48
digit_zero b e =
    ⊎_elim (λ l. let h = digit_low b l in absurd (omega arith))
    (λ l. ⊎_elim (λ m. ⊎_elim (λ n. let h = digit_gap b m n in absurd (omega arith))
    (λ n. ⊎_elim (λ o. let h = digit_high b o in absurd (omega arith)) (λ o. let h = digit_letter b n o in absurd (omega arith)) (cases_lt 102 b))
    (cases_lt b 97))
    (λ m. let h = digit_figure b l m in omega arith)
    (cases_lt 57 b))
    (cases_lt b 48)

number_scale : (n : ℕ) (f : List ℕ) → n * 10 ^ length f ≤ number_after 10 n f
unfolding number_after
number_scale n [] = omega arith
number_scale n (b ∷ bs) =
    le_trans (rw (pow-succ' 10 (length bs), sym (mul_assoc n 10 (10 ^ length bs))) (mul-le-mul_right (10 ^ length bs) (up n (digit b)))) (number_scale (n * 10 + digit b) bs)
  where
    up : (n d : ℕ) → n * 10 ≤ n * 10 + d
    up n d = omega arith

first_positive : (b : ℕ) → (b ≡ 48 → ⊥) → 1 ≤ 0 * 10 + digit b
first_positive b n = ⊎_elim (λ e. absurd (n (digit_zero b e))) (λ p. omega arith) (cases_eq (digit b) 0)

-- eleven digits that are led well make a number above the limit
wide_number : (b : ℕ) (bs : List ℕ) → 10 ≤ length bs → (b ≡ 48 → ⊥) → 4294967295 < numeral_value 10 (b ∷ bs)
unfolding number_after
wide_number b bs l n =
    let s = number_scale (0 * 10 + digit b) bs in
    let p : 10 ^ 10 ≤ 10 ^ length bs = pow-le-pow_right {n = 10} (omega arith) {i = 10} {j = length bs} l in
    let q : 1 * 10 ^ length bs ≤ (0 * 10 + digit b) * 10 ^ length bs = mul-le-mul_right (10 ^ length bs) (first_positive b n) in
    omega arith

led_zero : (b c : ℕ) (bs : List ℕ) → b ≡ 48 → led_well (b ∷ c ∷ bs) ≡ false
unfolding led_well
led_zero b c bs e = rw (eq-eqb b 48 e)

pub decimal_short : (f : List ℕ) → 11 < length f + 1 → decimal f ≡ None
decimal_short [] l = absurd (omega arith)
decimal_short (b ∷ []) l = absurd (omega arith)
decimal_short (b ∷ c ∷ bs) l =
    ⊎_elim (λ e. sym (decimal_led (b ∷ c ∷ bs) (led_zero b c bs e))) (λ n. sym (decimal_wide (b ∷ c ∷ bs) (wide_number b (c ∷ bs) (omega arith) n))) (cases_eq b 48)

pub hexadecimal_short : (f : List ℕ) → 65 < length f + 1 → hexadecimal f ≡ None
hexadecimal_short f l = sym (hexadecimal_long f (omega arith))

-- ---- fields and the spaces between them
spread : List (List ℕ) → ℕ
spread [] = 0
spread (f ∷ fs) = length f + 1 + spread fs

on_first_lem : (b : ℕ) (fs : List (List ℕ)) → 0 < spread fs → spread (on_first b fs) ≡ spread fs + 1
unfolding spread
on_first_lem b [] l = absurd (omega arith)
on_first_lem b (f ∷ fs) l = omega arith

fields_spread : (s : List ℕ) → spread (fields s) ≡ length s + 1
unfolding spread fields
fields_spread [] = refl
fields_spread (b ∷ bs) =
    let h = fields_spread bs in
    ⊎_elim (λ e. rw (eq-eqb b 32 e) (omega arith)) (λ n. rw (ne_eqb b 32 n) (let g = on_first_lem b (fields bs) (omega arith) in omega arith)) (cases_eq b 32)

-- ---- forms and the widths of what they read, with a space before each
data Fits : List (List ℕ → Option ℕ) → ℕ → Type 0 where
  nothing : Fits [] 0
  one : {form : List ℕ → Option ℕ} {forms : List (List ℕ → Option ℕ)} {w n : ℕ} → ((f : List ℕ) → w < length f + 1 → form f ≡ None) → Fits forms n → Fits (form ∷ forms) (w + n)

wide_none : {forms : List (List ℕ → Option ℕ)} {n : ℕ} → Fits forms n → (fs : List (List ℕ)) → n < spread fs → numbers forms fs ≡ None
unfolding spread
wide_none nothing [] l = absurd (omega arith)
wide_none nothing (f ∷ fs) l = refl
wide_none (one short rest) [] l = refl
wide_none (one {form} {forms} {w} {n} short rest) (f ∷ fs) l =
    ⊎_elim (λ g. rw (short f g)) (λ g. rw (wide_none rest fs (omega arith)) (also_none (form f))) (cases_lt w (length f + 1))

width : Kind → ℕ
width Open = 11 + (11 + (11 + (11 + (11 + (11 + (11 + (11 + (11 + 0))))))))
width Write = 11 + (11 + (65 + 0))
width Read = 11 + (11 + 0)
width Snapshot = 0
width Rollback = 11 + (11 + 0)
width Unread = 0

d : {forms : List (List ℕ → Option ℕ)} {n : ℕ} → Fits forms n → Fits (decimal ∷ forms) (11 + n)
d p = one decimal_short p

form_fits : (k : Kind) → Fits (form_of k) (width k)
unfolding width
form_fits Open = d (d (d (d (d (d (d (d (d nothing))))))))
form_fits Write = d (d (one hexadecimal_short nothing))
form_fits Read = d (d nothing)
form_fits Snapshot = nothing
form_fits Rollback = d (d nothing)
form_fits Unread = nothing

width_le : (k : Kind) → width k ≤ 99
unfolding width
width_le Open = omega arith
width_le Write = omega arith
width_le Read = omega arith
width_le Snapshot = omega arith
width_le Rollback = omega arith
width_le Unread = omega arith

-- ---- names
other_name : (n name : List ℕ) → length name < length n → bytes_eq n name ≡ false
other_name n name l = not_same (bytes_eq n name) refl
  where
    not_same : (t : Bool) → bytes_eq n name ≡ t → t ≡ false
    not_same true e = let h = pointwise_long eqb n name e in absurd (omega arith)
    not_same false e = refl

long_name : (n : List ℕ) → 4 < length n → line_kind n ≡ Unread
unfolding line_kind
long_name n l =
    rw (other_name n (111 ∷ 112 ∷ 101 ∷ 110 ∷ []) l, other_name n (119 ∷ []) (omega arith), other_name n (114 ∷ []) (omega arith), other_name n (115 ∷ []) (omega arith), other_name n (98 ∷ []) (omega arith))

wide_line : (fs : List (List ℕ)) → 104 < spread fs → line_of_fields fs ≡ unread
unfolding spread
wide_line [] l = absurd (omega arith)
wide_line (name ∷ rest) l =
    ⊎_elim (λ g. rw (long_name name g) (no_line (numbers [] rest)))
    (λ g. rw (wide_none (form_fits (line_kind name)) rest (let h = width_le (line_kind name) in omega arith)))
    (cases_lt 4 (length name))

-- ---- THE LAWS
pub too_long : (line : List ℕ) → 103 < length line → meaning line ≡ unread
too_long line l = wide_line (fields line) (rw (fields_spread line) (omega arith))

pub cut : (line : List ℕ) → meaning (take 104 line) ≡ meaning line
cut line =
    ⊎_elim (λ g. let h = length-take-le 104 line (omega arith) in too_long (take 104 line) (omega arith) ∙ sym (too_long line (omega arith)))
    (λ g. ap meaning (take_all 104 line g))
    (cases_lt 104 (length line))
