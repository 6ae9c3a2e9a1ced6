-- The bytes of a word that a range leads.
-- Assumes nothing.
use mathlib.Core.Path.{◌≡◌, refl, sym, ap, ◌∙◌}
use mathlib.Core.List.{List, [], ◌∷◌, ◌++◌}
use Prim.Native.Nat.{ℕ, zero, suc, ◌+◌, ◌-◌, ◌≤◌, ◌<◌}
use native.Mathlib.Omega.{arith}
use lib.ListN.{length, get_or, replicate, length-append}
use Rattle.word.specs.Value.{big_endian, word_bytes}
use Rattle.word.proofs.Digits.{digits_of}
use Rattle.formed.specs.Parts.{tab}
use Rattle.formed.proofs.Same.{tab_long}
use Rattle.fat_pointer.specs.declared.FatPointer.{FatPointer}
use Rattle.view.specs.View.{View}
use Rattle.view.specs.Steps.{run, padded}
use Rattle.view.specs.Instructions.{read_from, read_count}
use Rattle.execution.proofs.Pieces.{min_le_left, min_le_right}

-- ---- lists of bytes
none_small : (i : ℕ) → get_or [] i 0 < 256
none_small zero = omega arith
none_small (suc i) = omega arith

tab_small : (n : ℕ) (f : ℕ → ℕ) → ((i : ℕ) → f i < 256) → (i : ℕ) → get_or (tab n f) i 0 < 256
unfolding tab
tab_small zero f h i = none_small i
tab_small (suc n) f h zero = h 0
tab_small (suc n) f h (suc i) = tab_small n (λ j. f (suc j)) (λ j. h (suc j)) i

zeros_small : (n i : ℕ) → get_or (replicate n 0) i 0 < 256
zeros_small zero i = none_small i
zeros_small (suc n) zero = omega arith
zeros_small (suc n) (suc i) = zeros_small n i

join_small : (b c : List ℕ) → ((i : ℕ) → get_or b i 0 < 256) → ((i : ℕ) → get_or c i 0 < 256) → (i : ℕ) → get_or (b ++ c) i 0 < 256
join_small [] c f g i = g i
join_small (x ∷ b) c f g zero = f 0
join_small (x ∷ b) c f g (suc i) = join_small b c (λ j. f (suc j)) g i

zeros_long : (n : ℕ) → length {A = ℕ} (replicate n 0) ≡ n
zeros_long zero = refl
zeros_long (suc n) = ap suc (zeros_long n)

-- ---- a range of n bytes
module _ (v : View) (p a n : ℕ) (few : n ≤ 32) (small : (i : ℕ) → v.bytes p i < 256) where
  padded_is : padded (run v p a n) ≡ run v p a n ++ replicate (32 - n) 0
  padded_is = ap (λ (k : ℕ). run v p a n ++ replicate (32 - k) 0) (tab_long n _)

  long : length (run v p a n ++ replicate (32 - n) 0) ≡ 32
  long = length-append (run v p a n) _ ∙ (λ i. tab_long n (λ j. v.bytes p (a + j)) i + zeros_long (32 - n) i) ∙ omega arith

  pub leads : word_bytes (big_endian (padded (run v p a n))) ≡ run v p a n ++ replicate (32 - n) 0
  leads =
      ap (λ (b : List ℕ). word_bytes (big_endian b)) padded_is
      ∙ sym (digits_of (run v p a n ++ replicate (32 - n) 0) 32 long (record { byte = join_small (run v p a n) _ (tab_small n _ (λ i. small (a + i))) (zeros_small (32 - n)) }))

-- ---- a pointer
pub read_limit : (p : FatPointer) → (read_count p ≤ 32) × (read_from p + read_count p ≤ p.start + p.length)
read_limit p =
    let few = min_le_left 32 (p.start + p.length - read_from p) in
    let inside = min_le_right 32 (p.start + p.length - read_from p) in
    let short = min_le_right p.offset p.length in
    (few, omega arith)
