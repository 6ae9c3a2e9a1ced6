-- Numerals, written from their last digit on, and texts, one after the other.
-- Assumes nothing.
use mathlib.Core.Path.{◌≡◌, refl, sym, ap, ◌∙◌}
use mathlib.Core.Logic.{⊎_elim}
use mathlib.Core.Bool.{Bool, true, false, ◌&&◌}
use lib.Dec.{eqb}
use mathlib.Core.List.{List, [], ◌∷◌, ◌++◌, append_assoc}
use Prim.Native.Nat.{ℕ, zero, suc, ◌+◌, ◌*◌, ◌-◌, ◌/◌, ◌%◌, ◌≤◌, ◌<◌, ◌^◌, zero-le}
use native.Mathlib.Nat.{zero-mul, mod-lt, mod-eq_of_lt, div-add-mod', div-eq_of_lt}
use native.Mathlib.Omega.{arith}
use lib.ListN.{length, take, drop, set, length-append, length-drop}
use lib.Pointwise.{pointwise}
use lib.Seq.{take_all}
use borrow.Author.Tests.{lt-ltb, le-ltb, eq-eqb, ne_eqb}
use Rattle.word.specs.Value.{value, limbs_value}
use Rattle.std.proofs.lemmas.Bool.{cases_lt, cases_eq}
use Rattle.trace_text.specs.Text.{glyph, numeral, decimal_text, Reported, unread, done, word, marks, refused, text_of, Wrote}

-- ---- one digit
pub glyph_low : (d : ℕ) → d < 10 → 48 + d ≡ glyph d
glyph_low d l = rw (lt-ltb d 10 l)

pub glyph_high : (d : ℕ) → 10 ≤ d → 87 + d ≡ glyph d
glyph_high d l = rw (le-ltb d 10 l)

pub numeral_one : (b m n : ℕ) → n < b → numeral b (suc m) n ≡ glyph n ∷ []
unfolding numeral
numeral_one b m n l = rw (lt-ltb n b l)

pub numeral_more : (b m n : ℕ) → b ≤ n → numeral b (suc m) n ≡ numeral b m (n / b) ++ (glyph (n % b) ∷ [])
unfolding numeral
numeral_more b m n l = rw (le-ltb n b l)

numeral_none : (b n : ℕ) → numeral b 0 n ≡ []
unfolding numeral
numeral_none b n = refl

pub numeral_length : (b m n : ℕ) → length (numeral b m n) ≤ m
numeral_length b zero n = rw (numeral_none b n) zero-le
numeral_length b (suc m) n =
    ⊎_elim (λ l. rw (numeral_one b m n l) (omega arith))
    (λ l.
    let h = numeral_length b m (n / b) in
    rw (numeral_more b m n l, length-append (numeral b m (n / b)) (glyph (n % b) ∷ [])) (omega arith))
    (cases_lt n b)

-- ---- the loop
append_nil : (xs : List ℕ) → xs ++ [] ≡ xs
append_nil [] = refl
append_nil (x ∷ xs) = ap (λ (r : List ℕ). x ∷ r) (append_nil xs)

pub numeral_start : (b n : ℕ) → numeral b 64 n ≡ numeral b 64 n ++ []
numeral_start b n = sym (append_nil (numeral b 64 n))

put_front : (text : List ℕ) (j g : ℕ) → j < length text → drop j (set text j g) ≡ g ∷ drop (suc j) text
put_front text j g l = set_drop text j g l
  where
    set_drop : (text : List ℕ) (j g : ℕ) → j < length text → drop j (set text j g) ≡ g ∷ drop (suc j) text
    set_drop [] j g l = absurd (omega arith)
    set_drop (x ∷ xs) zero g l = refl
    set_drop (x ∷ xs) (suc j) g l = set_drop xs j g (omega arith)

-- a digit is written before the others: v is what is left to write, and r what is left after it
module _ (b v r : ℕ) (has : (1 < b) × (b ≤ 16)) (shorter : r ≡ v / b) (text : List ℕ) (i g : ℕ) (pos : 0 < i) (fits : i ≤ length text) (is : g ≡ glyph (v % b)) where
  before : i ≡ suc (i - 1)
  before = omega arith

  front : drop (i - 1) (set text (i - 1) g) ≡ g ∷ drop i text
  front = put_front text (i - 1) g (omega arith) ∙ ap (λ (k : ℕ). g ∷ drop k text) (sym before)

  below : r ≡ 0 → v < b
  below e = let z : v / b * b ≡ 0 = rw (sym shorter ∙ e) (zero-mul b) in let m = mod-lt v {m = b} (omega arith) in let w = div-add-mod' v b in omega arith

  above : (r ≡ 0 → ⊥) → b ≤ v
  above n = ⊎_elim (λ l. absurd (n (shorter ∙ div-eq_of_lt l))) (λ l. l) (cases_lt v b)

  -- it is the first digit
  pub numeral_ends : r ≡ 0 → numeral b i v ++ drop i text ≡ drop (i - 1) (set text (i - 1) g)
  numeral_ends e =
      ap (λ (t : List ℕ). t ++ drop i text) (ap (λ (k : ℕ). numeral b k v) before ∙ numeral_one b (i - 1) v (below e))
      ∙ ap (λ (d : ℕ). d ∷ drop i text) (ap glyph (sym (mod-eq_of_lt (below e))) ∙ sym is) ∙ sym front

  -- it is another digit
  pub numeral_goes : (r ≡ 0 → ⊥) → numeral b i v ++ drop i text ≡ numeral b (i - 1) r ++ drop (i - 1) (set text (i - 1) g)
  numeral_goes n =
      ap (λ (t : List ℕ). t ++ drop i text) (ap (λ (k : ℕ). numeral b k v) before ∙ numeral_more b (i - 1) v (above n) ∙ ap (λ (q : ℕ). numeral b (i - 1) q ++ (glyph (v % b) ∷ [])) (sym shorter))
      ∙ append_assoc (numeral b (i - 1) r) (glyph (v % b) ∷ []) (drop i text)
      ∙ ap (λ (t : List ℕ). numeral b (i - 1) r ++ t) (ap (λ (d : ℕ). d ∷ drop i text) (sym is) ∙ sym front)

-- there is room for no more
pub numeral_full : (b v i : ℕ) (text : List ℕ) → i ≤ 0 → numeral b i v ++ drop i text ≡ text
numeral_full b v i text l = let z : i ≡ 0 = omega arith in rw (z, numeral_none b v)

-- ---- words
limb_down : (a h : ℕ) → a / 16 + (h % 16) * 1152921504606846976 + 2 ^ 64 * (h / 16) ≡ (a + 2 ^ 64 * h) / 16
limb_down a h = omega arith

pub low_of : (b h : ℕ) → b % 16 ≡ (b + 2 ^ 64 * h) % 16
low_of b h = omega arith

pub shorter : (a b c d : ℕ) → limbs_value (a / 16 + (b % 16) * 1152921504606846976) (b / 16 + (c % 16) * 1152921504606846976) (c / 16 + (d % 16) * 1152921504606846976) (d / 16) ≡ limbs_value a b c d / 16
shorter a b c d =
    ap (λ (h : ℕ). a / 16 + (b % 16) * 1152921504606846976 + 2 ^ 64 * h)
    (ap (λ (h : ℕ). b / 16 + (c % 16) * 1152921504606846976 + 2 ^ 64 * h) (limb_down c d)
    ∙ ap (λ (r : ℕ). b / 16 + r * 1152921504606846976 + 2 ^ 64 * ((c + 2 ^ 64 * d) / 16)) (low_of c d)
    ∙ limb_down b (c + 2 ^ 64 * d))
    ∙ ap (λ (r : ℕ). a / 16 + r * 1152921504606846976 + 2 ^ 64 * ((b + 2 ^ 64 * (c + 2 ^ 64 * d)) / 16)) (low_of b (c + 2 ^ 64 * d))
    ∙ limb_down a (b + 2 ^ 64 * (c + 2 ^ 64 * d))

-- a word is 0 where its limbs are
sum_zero : (a h : ℕ) (r : Bool) → r ≡ eqb h 0 → (eqb a 0 && r) ≡ eqb (a + 2 ^ 64 * h) 0
sum_zero a h r e =
    ⊎_elim (λ (z : a ≡ 0). ap (λ (t : Bool). t && r) (eq-eqb a 0 z) ∙ e ∙ ⊎_elim (λ (y : h ≡ 0). eq-eqb h 0 y ∙ sym (eq-eqb (a + 2 ^ 64 * h) 0 (omega arith))) (λ (n : h ≡ 0 → ⊥). ne_eqb h 0 n ∙ sym (ne_eqb (a + 2 ^ 64 * h) 0 (λ (q : a + 2 ^ 64 * h ≡ 0). n (omega arith)))) (cases_eq h 0))
    (λ (n : a ≡ 0 → ⊥). ap (λ (t : Bool). t && r) (ne_eqb a 0 n) ∙ sym (ne_eqb (a + 2 ^ 64 * h) 0 (λ (q : a + 2 ^ 64 * h ≡ 0). n (omega arith)))) (cases_eq a 0)

and-true : (t : Bool) → (t && true) ≡ t
and-true true = refl
and-true false = refl

pub word_zero : (l : List ℕ) → length l ≡ 4 → pointwise eqb l (0 ∷ 0 ∷ 0 ∷ 0 ∷ []) ≡ eqb (value l) 0
unfolding value
word_zero [] e = absurd (omega arith)
word_zero (a ∷ []) e = absurd (omega arith)
word_zero (a ∷ b ∷ []) e = absurd (omega arith)
word_zero (a ∷ b ∷ c ∷ []) e = absurd (omega arith)
word_zero (a ∷ b ∷ c ∷ d ∷ []) e = sum_zero a _ _ (sum_zero b _ _ (sum_zero c d _ (and-true (eqb d 0))))
word_zero (a ∷ b ∷ c ∷ d ∷ x ∷ l) e = absurd (omega arith)

-- ---- texts
-- the same of an equal text and of equal bytes before
pub as_text : {s t o p d : List ℕ} {at end : ℕ} → s ≡ t → o ≡ p → Wrote s at o d end → Wrote t at p d end
as_text e f w = rw (e, f) at w

-- a text's part from a place on, as a slice has it
pub part_text : (text : List ℕ) (from : ℕ) → length text ≡ 64 → take (64 - from) (drop from text) ≡ drop from text
part_text text from e = take_all (64 - from) (drop from text) (omega (arith, length-drop from text))

-- the longest answer
pub reply_length : (t : Reported) → length (text_of t) ≤ 134
reply_length unread = omega arith
reply_length done = omega arith
reply_length (word n) = omega (arith, numeral_length 16 64 n)
reply_length (marks h a) = omega (arith, length-append (decimal_text h) ((32 ∷ []) ++ decimal_text a), numeral_length 10 64 h, numeral_length 10 64 a)
reply_length (refused n) = omega (arith, numeral_length 10 64 n)
