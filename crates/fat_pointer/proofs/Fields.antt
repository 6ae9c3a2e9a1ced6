-- The fields of a word, and the word of four fields.
-- Assumes nothing.
use mathlib.Core.Path.{◌≡◌, refl, sym, ap, ◌∙◌}
use Prim.Native.Nat.{ℕ, ◌+◌, ◌*◌, ◌-◌, ◌/◌, ◌%◌, ◌<◌, ◌^◌}
use native.Mathlib.Omega.{arith}
use native.Mathlib.Nat.{mod-add-div, div-div-eq-div-mul, mod-eq-sub-mul-div, mul_assoc}
use Rattle.word.specs.Value.{limbs_value}
use Rattle.fat_pointer.specs.Pointer.{pointer_of, pointer_word}
use Rattle.fat_pointer.specs.declared.FatPointer.{FatPointer}

-- the low and the high field of a limb are those of every word whose lowest limb it is
low_field : (a h : ℕ) → a % 2 ^ 32 ≡ (a + 2 ^ 64 * h) % 2 ^ 32
low_field a h = omega arith

high_field : (a h : ℕ) → a / 2 ^ 32 % 2 ^ 32 ≡ (a + 2 ^ 64 * h) / 2 ^ 32 % 2 ^ 32
high_field a h = omega arith

upper : (a h : ℕ) → a < 2 ^ 64 → h ≡ (a + 2 ^ 64 * h) / 2 ^ 64
upper a h l = omega arith

abbrev fields : (offset page start length : ℕ) → FatPointer
fields o p s l = record { offset = o; memory_page = record { 0 = p }; start = s; length = l }

four : {o p s l o' p' s' l' : ℕ} → o ≡ o' → p ≡ p' → s ≡ s' → l ≡ l' → fields o p s l ≡ fields o' p' s' l'
four e f g h = rw (e, f, g, h) refl

-- the pointer of four limbs, by the fields of the lower two
pub of_limbs : (a b c d : ℕ) → a < 2 ^ 64 → fields (a % 2 ^ 32) (a / 2 ^ 32 % 2 ^ 32) (b % 2 ^ 32) (b / 2 ^ 32 % 2 ^ 32) ≡ pointer_of (limbs_value a b c d)
of_limbs a b c d l =
    let w = limbs_value a b c d in
    let up : b + 2 ^ 64 * (c + 2 ^ 64 * d) ≡ w / 2 ^ 64 = upper a _ l in
    four (low_field a _) (high_field a _)
    (low_field b _ ∙ ap (λ (q : ℕ). q % 2 ^ 32) up)
    (high_field b _ ∙ ap (λ (q : ℕ). q / 2 ^ 32 % 2 ^ 32) up ∙ ap (λ (q : ℕ). q % 2 ^ 32) (div-div-eq-div-mul w (2 ^ 64) (2 ^ 32)))

pub packed : (o p s l : ℕ) → limbs_value (o + 2 ^ 32 * p) (s + 2 ^ 32 * l) 0 0 ≡ o + 2 ^ 32 * p + 2 ^ 64 * s + 2 ^ 96 * l
packed o p s l = omega arith

field : (d t : ℕ) → d < 2 ^ 32 → (d + 2 ^ 32 * t) % 2 ^ 32 ≡ d
field d t l = omega arith

rest : (d t : ℕ) → d < 2 ^ 32 → (d + 2 ^ 32 * t) / 2 ^ 32 ≡ t
rest d t l = omega arith

regroup : (o p s l : ℕ) → o + 2 ^ 32 * p + 2 ^ 64 * s + 2 ^ 96 * l ≡ o + 2 ^ 32 * (p + 2 ^ 32 * (s + 2 ^ 32 * l))
regroup o p s l = omega arith

module _ (o p s l : ℕ) (lo : o < 2 ^ 32) (lp : p < 2 ^ 32) (ls : s < 2 ^ 32) (ll : l < 2 ^ 32) where
  abbrev word : ℕ
  word = o + 2 ^ 32 * p + 2 ^ 64 * s + 2 ^ 96 * l

  past_offset : word / 2 ^ 32 ≡ p + 2 ^ 32 * (s + 2 ^ 32 * l)
  past_offset = ap (λ (q : ℕ). q / 2 ^ 32) (regroup o p s l) ∙ rest o _ lo

  past_page : word / 2 ^ 64 ≡ s + 2 ^ 32 * l
  past_page = sym (div-div-eq-div-mul word (2 ^ 32) (2 ^ 32)) ∙ ap (λ (q : ℕ). q / 2 ^ 32) past_offset ∙ rest p _ lp

  past_start : word / 2 ^ 96 ≡ l
  past_start = sym (div-div-eq-div-mul word (2 ^ 64) (2 ^ 32)) ∙ ap (λ (q : ℕ). q / 2 ^ 32) past_page ∙ rest s _ ls

  small : (n : ℕ) → n < 2 ^ 32 → n % 2 ^ 32 ≡ n
  small n k = omega arith

  again : pointer_of word ≡ fields o p s l
  again =
      four (ap (λ (q : ℕ). q % 2 ^ 32) (regroup o p s l) ∙ field o _ lo) (ap (λ (q : ℕ). q % 2 ^ 32) past_offset ∙ field p _ lp)
      (ap (λ (q : ℕ). q % 2 ^ 32) past_page ∙ field s _ ls) (ap (λ (q : ℕ). q % 2 ^ 32) past_start ∙ small l ll)

-- the round trip: the pointer of a pointer's word is the pointer
pub round_trip : (p : FatPointer) → p.offset < 2 ^ 32 → p.memory_page.0 < 2 ^ 32 → p.start < 2 ^ 32 → p.length < 2 ^ 32 → pointer_of (pointer_word p) ≡ p
round_trip p = again p.offset p.memory_page.0 p.start p.length

-- a field, and what lies above it
next : (w k : ℕ) → w / k ≡ w / k % 2 ^ 32 + 2 ^ 32 * (w / (k * 2 ^ 32))
next w k = sym (mod-add-div (w / k) (2 ^ 32)) ∙ ap (λ (q : ℕ). w / k % 2 ^ 32 + 2 ^ 32 * q) (div-div-eq-div-mul w k (2 ^ 32))

fields_sum : (w q₁ q₂ q₃ r o p s l : ℕ) → w ≡ o + 2 ^ 32 * q₁ → q₁ ≡ p + 2 ^ 32 * q₂ → q₂ ≡ s + 2 ^ 32 * q₃ → q₃ ≡ l + r → o + 2 ^ 32 * p + 2 ^ 64 * s + 2 ^ 96 * l ≡ w - 2 ^ 96 * r
fields_sum w q₁ q₂ q₃ r o p s l e₀ e₁ e₂ e₃ = omega arith

-- and the word of a word's pointer is the word's lower 128 bits
pub word_again : (w : ℕ) → pointer_word (pointer_of w) ≡ w % 2 ^ 128
word_again w =
    fields_sum w (w / 2 ^ 32) (w / 2 ^ 64) (w / 2 ^ 96) (2 ^ 32 * (w / 2 ^ 128)) _ _ _ _
    (sym (mod-add-div w (2 ^ 32))) (next w (2 ^ 32)) (next w (2 ^ 64)) (next w (2 ^ 96))
    ∙ ap (λ (q : ℕ). w - q) (sym (mul_assoc (2 ^ 96) (2 ^ 32) (w / 2 ^ 128)))
    ∙ sym (mod-eq-sub-mul-div w (2 ^ 128))
