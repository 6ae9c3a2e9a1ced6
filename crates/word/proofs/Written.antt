-- Four limbs, written out as 32 bytes.
-- Assumes nothing.
use mathlib.Core.Path.{◌≡◌, refl, sym, ap, ◌∙◌}
use mathlib.Core.List.{List, [], ◌∷◌, ◌++◌}
use Prim.Native.Nat.{ℕ, zero, suc, ◌%◌, ◌<◌, ◌^◌}
use native.Mathlib.Omega.{arith}
use lib.ListN.{get_or}
use Rattle.std.specs.Int.{w64, bytes_high_first, to_be_bytes}
use Rattle.std.proofs.lemmas.Nat.{from_be_bytes-to_be_bytes_8}
use Rattle.word.specs.Value.{limbs_value, bytes_at, digits}
use Rattle.word.proofs.Bytes.{eight, limbs}
use Rattle.word.proofs.Digits.{Small, digits_of}

-- bytes before bytes are bytes
small_cons : (x : ℕ) (b : List ℕ) → x < 256 → Small b → Small (x ∷ b)
small_cons x b l f = record { byte = at }
  where
    at : (i : ℕ) → get_or (x ∷ b) i 0 < 256
    at zero = l
    at (suc i) = f.byte i

small_limb : (k n : ℕ) (b : List ℕ) → Small b → Small (bytes_high_first k n ++ b)
small_limb zero n b f = f
small_limb (suc zero) n b f = small_cons (n % 256) b (omega arith) f
small_limb (suc (suc k)) n b f = small_cons _ (bytes_high_first (suc k) n ++ b) (omega arith) (small_limb (suc k) n b f)

module _ (a b c d : ℕ) (la : a < 2 ^ 64) (lb : b < 2 ^ 64) (lc : c < 2 ^ 64) (ld : d < 2 ^ 64) where
  -- the bytes of each, the highest limb first
  abbrev pub whole : List ℕ
  whole = to_be_bytes w64 d ++ (to_be_bytes w64 c ++ (to_be_bytes w64 b ++ (to_be_bytes w64 a ++ [])))

  small : Small whole
  small = small_limb 8 d _ (small_limb 8 c _ (small_limb 8 b _ (small_limb 8 a [] (record { byte = λ i. omega arith }))))

  number : bytes_at whole 0 32 ≡ limbs_value a b c d
  unfolding bytes_at
  number =
      limbs whole
      ∙ ap (λ (x : ℕ). limbs_value x (bytes_at whole 16 8) (bytes_at whole 8 8) (bytes_at whole 0 8)) (sym (eight whole 24) ∙ from_be_bytes-to_be_bytes_8 a la)
      ∙ ap (λ (x : ℕ). limbs_value a x (bytes_at whole 8 8) (bytes_at whole 0 8)) (sym (eight whole 16) ∙ from_be_bytes-to_be_bytes_8 b lb)
      ∙ ap (λ (x : ℕ). limbs_value a b x (bytes_at whole 0 8)) (sym (eight whole 8) ∙ from_be_bytes-to_be_bytes_8 c lc)
      ∙ ap (limbs_value a b c) (sym (eight whole 0) ∙ from_be_bytes-to_be_bytes_8 d ld)

  -- they are the bytes of the word
  pub written : (bytes_at whole 0 32 ≡ limbs_value a b c d) × (whole ≡ digits 32 (limbs_value a b c d))
  written = (number, digits_of whole 32 refl small ∙ ap (digits 32) number)
