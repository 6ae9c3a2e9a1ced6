-- Bytes are the digits of their number.
-- Assumes nothing.
use mathlib.Core.Path.{◌≡◌, refl, sym, ap, ◌∙◌, subst}
use mathlib.Core.Bool.{Bool, true, false}
use mathlib.Core.List.{List}
use mathlib.Core.Logic.{◌⊎◌, inl, inr, ⊎_elim}
use Prim.Native.Nat.{ℕ, zero, suc, ◌+◌, ◌*◌, ◌-◌, ◌/◌, ◌%◌, ◌<◌, ◌≤◌, ◌^◌}
use native.Mathlib.Omega.{arith}
use native.Mathlib.Nat.{not-suc-le-zero, div-div-eq-div-mul, pow-succ', le_of_suc-le-suc}
use lib.Dec.{ltb}
use lib.ListN.{length, get_or}
use lib.Seq.{ext_get_or}
use borrow.Author.Tests.{ltb-true, ltb-false}
use Rattle.word.specs.Value.{bytes_at, digits}

-- every element is a byte
pub record Small (b : List ℕ) : Type 0 where
  pub byte : (i : ℕ) → get_or b i 0 < 256

-- i is below n, or the last below n + 1
pub last? : (i n : ℕ) → i < suc n → (i < n) ⊎ (i ≡ 0 + n)
last? i n l = go (ltb i n) refl
  where
    at_end : n ≤ i → i ≡ 0 + n
    at_end m = omega arith

    go : (t : Bool) → ltb i n ≡ t → (i < n) ⊎ (i ≡ 0 + n)
    go true e = inl (ltb-true i n e)
    go false e = inr (at_end (ltb-false i n e))

-- two lists of n elements are the same if their first n elements are
pub same : (b c : List ℕ) (n : ℕ) → length b ≡ n → length c ≡ n → ((i : ℕ) → i < n → get_or b i 0 ≡ get_or c i 0) → b ≡ c
same b c n k l f = ext_get_or 0 b c (k ∙ sym l) (λ i m. f i (subst (λ (q : ℕ). i < q) k m))

pub digits_long : (n v : ℕ) → length (digits n v) ≡ n
unfolding digits
digits_long zero v = refl
digits_long (suc n) v = ap suc (digits_long n v)

pub digit_at : (n v i : ℕ) → i < n → get_or (digits n v) i 0 ≡ v / 256 ^ (n - 1 - i) % 256
unfolding digits
digit_at zero v i l = absurd (not-suc-le-zero l)
digit_at (suc n) v zero l = let e : n ≡ suc n - 1 - 0 = omega arith in ap (λ (k : ℕ). v / 256 ^ k % 256) e
digit_at (suc n) v (suc i) l = let e : n - 1 - i ≡ suc n - 1 - suc i = omega arith in digit_at n v i (le_of_suc-le-suc l) ∙ ap (λ (k : ℕ). v / 256 ^ k % 256) e

lowest : (x y : ℕ) → y < 256 → y ≡ (256 * x + y) / 1 % 256
lowest x y l = omega arith

upper : (x y : ℕ) → y < 256 → (256 * x + y) / 256 ≡ x
upper x y l = omega arith

above : (x y k : ℕ) → y < 256 → x / 256 ^ k ≡ (256 * x + y) / 256 ^ suc k
above x y k l =
    ap (λ (q : ℕ). q / 256 ^ k) (sym (upper x y l))
    ∙ div-div-eq-div-mul (256 * x + y) 256 (256 ^ k)
    ∙ ap (λ (q : ℕ). (256 * x + y) / q) (sym (pow-succ' 256 k))

byte_at : (b : List ℕ) → Small b → (n i : ℕ) → i < n → get_or b i 0 ≡ bytes_at b 0 n / 256 ^ (n - 1 - i) % 256
unfolding bytes_at
byte_at b f zero i l = absurd (not-suc-le-zero l)
byte_at b f (suc n) i l =
    ⊎_elim
    (λ (k : i < n).
    let e : suc (n - 1 - i) ≡ suc n - 1 - i = omega arith in
    byte_at b f n i k ∙ ap (λ (q : ℕ). q % 256) (above (bytes_at b 0 n) (get_or b (0 + n) 0) (n - 1 - i) (f.byte (0 + n)))
    ∙ ap (λ (q : ℕ). (256 * bytes_at b 0 n + get_or b (0 + n) 0) / 256 ^ q % 256) e)
    (λ (q : i ≡ 0 + n).
    let e : 0 ≡ suc n - 1 - i = omega arith in
    ap (λ (j : ℕ). get_or b j 0) q ∙ lowest (bytes_at b 0 n) (get_or b (0 + n) 0) (f.byte (0 + n))
    ∙ ap (λ (j : ℕ). (256 * bytes_at b 0 n + get_or b (0 + n) 0) / 256 ^ j % 256) e)
    (last? i n l)

-- n bytes are the digits of their number
pub digits_of : (b : List ℕ) (n : ℕ) → length b ≡ n → Small b → b ≡ digits n (bytes_at b 0 n)
digits_of b n k f = same b (digits n (bytes_at b 0 n)) n k (digits_long n _) (λ i l. byte_at b f n i l ∙ sym (digit_at n (bytes_at b 0 n) i l))
