-- The round trips. A word's number fixes its limbs, and a number of 32 bytes fixes the bytes: so
-- `from_big_endian (to_big_endian w)` is w, and `to_big_endian (from_big_endian b)` is b.
-- Assumes nothing.
use mathlib.Core.Path.{◌≡◌, sym, ◌∙◌, subst}
use mathlib.Core.List.{List}
use mathlib.Core.Logic.{⊎_elim}
use Prim.Native.Nat.{ℕ, zero, suc, ◌+◌, ◌*◌, ◌<◌, ◌^◌}
use native.Mathlib.Omega.{arith}
use native.Mathlib.Nat.{not-suc-le-zero}
use lib.ListN.{length, get_or}
use Rattle.word.specs.Value.{value, bytes_at, big_endian}
use Rattle.word.proofs.Digits.{Small, last?, same}

limb : (a h b k : ℕ) → a < 2 ^ 64 → b < 2 ^ 64 → a + 2 ^ 64 * h ≡ b + 2 ^ 64 * k → (a ≡ b) × (h ≡ k)
limb a h b k l m e = (omega arith, omega arith)

-- four limbs of the same number are the same
pub limbs_same : (l m : List ℕ) → length l ≡ 4 → length m ≡ 4 → ((i : ℕ) → get_or l i 0 < 2 ^ 64) → ((i : ℕ) → get_or m i 0 < 2 ^ 64) → value l ≡ value m → l ≡ m
unfolding value
limbs_same l m four four' f g e = same l m 4 four four' each
  where
    all : (get_or l 0 0 ≡ get_or m 0 0) × (get_or l 1 0 ≡ get_or m 1 0) × (get_or l 2 0 ≡ get_or m 2 0) × (get_or l 3 0 ≡ get_or m 3 0)
    all =
        let e₀ = limb (get_or l 0 0) _ (get_or m 0 0) _ (f 0) (g 0) e in
        let e₁ = limb (get_or l 1 0) _ (get_or m 1 0) _ (f 1) (g 1) e₀.1 in
        let e₂ = limb (get_or l 2 0) _ (get_or m 2 0) _ (f 2) (g 2) e₁.1 in
        (e₀.0, e₁.0, e₂.0, e₂.1)

    past : (i : ℕ) → suc (suc (suc (suc i))) < 4 → ⊥
    past i k = omega arith

    each : (i : ℕ) → i < 4 → get_or l i 0 ≡ get_or m i 0
    each zero k = all.0
    each (suc zero) k = all.1
    each (suc (suc zero)) k = all.2
    each (suc (suc (suc zero))) k = all.3
    each (suc (suc (suc (suc i)))) k = absurd (past i k)

byte : (x a y b : ℕ) → a < 256 → b < 256 → 256 * x + a ≡ 256 * y + b → (x ≡ y) × (a ≡ b)
byte x a y b l m e = (omega arith, omega arith)

bytes_each : (b c : List ℕ) (n : ℕ) → Small b → Small c → bytes_at b 0 n ≡ bytes_at c 0 n → (i : ℕ) → i < n → get_or b i 0 ≡ get_or c i 0
unfolding bytes_at
bytes_each b c zero f g e i l = absurd (not-suc-le-zero l)
bytes_each b c (suc n) f g e i l =
    let w = byte (bytes_at b 0 n) (get_or b (0 + n) 0) (bytes_at c 0 n) (get_or c (0 + n) 0) (f.byte (0 + n)) (g.byte (0 + n)) e in
    ⊎_elim
    (λ (k : i < n). bytes_each b c n f g w.0 i k)
    (λ (q : i ≡ 0 + n). subst (λ (j : ℕ). get_or b j 0 ≡ get_or c j 0) (sym q) w.1)
    (last? i n l)

-- 32 bytes of the same number are the same
pub bytes_same : (b c : List ℕ) → length b ≡ 32 → length c ≡ 32 → Small b → Small c → big_endian b ≡ big_endian c → b ≡ c
bytes_same b c k l f g e = same b c 32 k l (bytes_each b c 32 f g e)

-- limbs, to bytes and back: what `to_big_endian` and then `from_big_endian` ensure gives the limbs again
pub limbs_again : (l b m : List ℕ) → length l ≡ 4 → length m ≡ 4 → ((i : ℕ) → get_or l i 0 < 2 ^ 64) → ((i : ℕ) → get_or m i 0 < 2 ^ 64)
    → big_endian b ≡ value l → value m ≡ big_endian b → m ≡ l
limbs_again l b m j k f g to from = limbs_same m l k j g f (from ∙ to)

-- bytes, to limbs and back
pub bytes_again : (b l c : List ℕ) → length b ≡ 32 → length c ≡ 32 → Small b → Small c
    → value l ≡ big_endian b → big_endian c ≡ value l → c ≡ b
bytes_again b l c j k f g from to = bytes_same c b k j g f (to ∙ from)
