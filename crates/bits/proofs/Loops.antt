-- What the loops over words of bits need, along the way and at their ends.
-- Assumes nothing.
use mathlib.Core.Path.{◌≡◌, refl, sym, ap, ◌∙◌}
use mathlib.Core.Bool.{Bool, true, false, cond, ◌&&◌}
use mathlib.Core.List.{List}
use Prim.Native.Nat.{ℕ, zero, suc, ◌+◌, ◌-◌, ◌/◌, ◌%◌, ◌^◌, ◌≤◌, ◌<◌}
use native.Mathlib.Nat.{le_refl}
use native.Mathlib.Numerals.{add-one}
use native.Mathlib.Omega.{arith}
use lib.Bits.{bit_or, or_add_and, and_le_r}
use lib.Dec.{eqb}
use lib.ListN.{length, drop, get_or}
use lib.Count.{ones, ones-le}
use mir.Val.{Fits, bool_byte}
use mir.Syntax.{w64}
use Rattle.std.specs.List.{between}
use Rattle.std.proofs.lemmas.List.{take_rest}
use Rattle.std.proofs.lemmas.List.Edits.{length-between, get_or-between}
use borrow.Author.Tests.{ne_eqb}
use Rattle.bits.specs.Bits.{ones_of, free_bits}
use Rattle.bits.proofs.Free.{free_read, full_step, ok_step, ok_fails, ok_end}
use Rattle.bits.proofs.Words.{ones_next, ones_end, ones_from}

-- ---- a loop over a part of a list
module _ (xs : List ℕ) (from to : ℕ) (w : to ≤ length xs) where
  pub part_item : (i : ℕ) → i < length (between from to xs) → (from + i < to) × (get_or (between from to xs) i 0 ≡ get_or xs (from + i) 0)
  part_item i l =
      let n = length-between xs from to w in
      let b : from + i < to = omega arith in
      (b, get_or-between xs from to i 0 b)

  pub part_end : (i : ℕ) → length (between from to xs) ≤ i → to ≤ from + i
  part_end i l = let n = length-between xs from to w in omega arith

-- `u64::from` of a test
from_test : (t : Bool) → bool_byte t ≡ cond t 1 0
from_test true = refl
from_test false = refl

-- ---- a word compared with the bits of a table: `left` is what is left of x after i places
module _ (ks : List ℕ) (at n x : ℕ) where
  pub word_start : eqb x (free_bits ks at n) ≡ eqb x (free_bits ks (at + 0) (n - 0))
  word_start = let e : at + 0 ≡ at = omega arith in let f : n - 0 ≡ n = omega arith in rw (e, f)

  module _ (i left : ℕ) (e : eqb x (free_bits ks at n) ≡ eqb left (free_bits ks (at + i) (n - i))) where
    -- b is the bit of place i, as it is read
    module _ (b : ℕ) (l : i < n) (m : at + n ≤ length ks) (r : b ≡ bool_byte (eqb (get_or ks (at + i) 0) 0)) where
      pub word_more : left % 2 ≡ b → eqb x (free_bits ks at n) ≡ eqb (left / 2) (free_bits ks (at + (i + 1)) (n - (i + 1)))
      word_more h = e ∙ ok_step ks at n i left l (h ∙ r ∙ from_test (eqb (get_or ks (at + i) 0) 0) ∙ sym (free_read ks (at + i) (omega arith)))

      pub word_fails : (left % 2 ≡ b → ⊥) → false ≡ eqb x (free_bits ks at n)
      word_fails f = sym (e ∙ ok_fails ks at n i left l (λ h. f (h ∙ free_read ks (at + i) (omega arith) ∙ sym (r ∙ from_test (eqb (get_or ks (at + i) 0) 0)))))

    pub word_done : n ≤ i → eqb left 0 ≡ eqb x (free_bits ks at n)
    word_done l = sym (e ∙ ap (eqb left) (ok_end ks at n i l))

-- ---- the bits of all keys so far, together
pub or_zero : (a b : ℕ) → eqb (bit_or a b) 0 ≡ (eqb a 0 && eqb b 0)
or_zero zero b = refl
or_zero (suc a) b =
    rw (ne_eqb (bit_or (suc a) b) 0 (λ e. omega (arith, or_add_and (suc a) b, and_le_r (suc a) b)), ne_eqb (suc a) 0 (λ e. omega arith))

module _ (ks : List ℕ) (at : ℕ) where
  pub full_start : true ≡ eqb (2 ^ 0 - 1) (free_bits ks at 0)
  unfolding free_bits
  full_start = refl

  pub full_more : (i any : ℕ) → at + i < length ks → eqb any 0 ≡ eqb (2 ^ i - 1) (free_bits ks at i)
      → eqb (bit_or any (get_or ks (at + i) 0)) 0 ≡ eqb (2 ^ (i + 1) - 1) (free_bits ks at (i + 1))
  full_more i any l e =
      or_zero any (get_or ks (at + i) 0) ∙ ap (λ (t : Bool). t && eqb (get_or ks (at + i) 0) 0) e ∙ full_step ks at i l
      ∙ ap (λ (k : ℕ). eqb (2 ^ k - 1) (free_bits ks at k)) (sym (add-one i))

-- ---- the words from place `skip` on
module _ (ws : List ℕ) (skip : ℕ) where
  -- their bits, counted word by word
  pub rest_start : ((i : ℕ) → i < skip → get_or ws i 0 ≡ 0) → ones_of (drop 0 (between skip (length ws) ws)) ≡ ones_of ws
  rest_start f = rw (take_rest ws skip) (ones_from ws skip f)

  pub rest_more : (i : ℕ) → i < length (between skip (length ws) ws) → ((k : ℕ) → Fits w64 (get_or ws k 0))
      → (ones_of (drop i (between skip (length ws) ws)) ≡ ones (get_or (between skip (length ws) ws) i 0) + ones_of (drop (i + 1) (between skip (length ws) ws)))
      × (ones (get_or (between skip (length ws) ws) i 0) ≤ 64)
  rest_more i l f =
      (ones_next (between skip (length ws) ws) i l, rw (part_item ws skip (length ws) (le_refl (length ws)) i l).1 (ones-le 64 (get_or ws (skip + i) 0) (f (skip + i)).fits))

  pub rest_end : (i : ℕ) → length (between skip (length ws) ws) ≤ i → ones_of (drop i (between skip (length ws) ws)) ≡ 0
  rest_end i l = ones_end (between skip (length ws) ws) i l

-- where the words before place i are 0, and no others are there, no bit is set
pub zero_done : (ws : List ℕ) (i : ℕ) → ((k : ℕ) → k < i → get_or ws k 0 ≡ 0) → length ws ≤ i → ones_of ws ≡ 0
zero_done ws i h l = sym (ones_from ws i h) ∙ ones_end ws i l
