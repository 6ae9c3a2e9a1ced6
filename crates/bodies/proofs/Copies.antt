-- Bytes that are copied, and words over two slots.
-- Assumes nothing.
use mathlib.Core.Path.{◌≡◌, refl, sym, ap, ◌∙◌, subst}
use mathlib.Core.List.{List}
use mathlib.Core.Logic.{◌⊎◌, inl, inr, ⊎_elim}
use Prim.Native.Nat.{ℕ, ◌+◌, ◌*◌, ◌-◌, ◌≤◌, ◌<◌}
use native.Mathlib.Nat.{not-suc-le-zero}
use native.Mathlib.Omega.{arith}
use lib.ListN.{length, get_or, set}
use borrow.Author.Tests.{lt-ltb, le-ltb}
use Rattle.formed.proofs.Same.{tab_is}
use lib.Seq.{get_or-set_same, get_or-set_other}
use Rattle.index.proofs.Logic.{same_or_not, lt_or_ge}
use Rattle.formed.specs.Parts.{tab}
use Rattle.bodies.specs.Words.{place_in, Spread}

-- ---- a copy byte by byte
pub copy_none : (f g : ℕ → ℕ) (ds : List ℕ) → Spread f g 0 ds ds
copy_none f g ds = record { on = λ i l. absurd (not-suc-le-zero l); off = λ b h. refl }

pub copy_more : (to n : ℕ) (g : ℕ → ℕ) (ds es : List ℕ) → to + n < length es → Spread (λ i. to + i) g n ds es → Spread (λ i. to + i) g (n + 1) ds (set es (to + n) (g n))
copy_more to n g ds es l w = record {
  on = λ i li.
      ⊎_elim
      (λ (e : i ≡ n). ap (λ (x : ℕ). get_or (set es (to + n) (g n)) (to + x) 0) e ∙ get_or-set_same es (to + n) (g n) 0 l ∙ ap g (sym e))
      (λ (e : i ≡ n → ⊥). get_or-set_other es (to + n) (to + i) (g n) 0 (λ h. e (omega arith)) ∙ w.on i (omega arith))
      (same_or_not i n);
  off = λ b h. get_or-set_other es (to + n) b (g n) 0 (h n (omega arith)) ∙ w.off b (λ i li. h i (omega arith));
}

pub copy_done : (f g : ℕ → ℕ) (i n : ℕ) (ds es : List ℕ) → i ≤ n → n ≤ i → Spread f g i ds es → Spread f g n ds es
copy_done f g i n ds es l m w = let e : i ≡ n = omega arith in subst (λ (x : ℕ). Spread f g x ds es) e w

-- ---- copies put together
pub spread_same : (f g f' g' : ℕ → ℕ) (n : ℕ) (ds es : List ℕ) → ((i : ℕ) → i < n → (f' i ≡ f i) × (g' i ≡ g i)) → Spread f g n ds es → Spread f' g' n ds es
spread_same f g f' g' n ds es h w = record {
  on = λ i l. ap (λ (x : ℕ). get_or es x 0) (h i l).0 ∙ w.on i l ∙ sym (h i l).1;
  off = λ b o. w.off b (λ i l e. o i l (e ∙ sym (h i l).0));
}

pub spread_join : (f₁ g₁ f₂ g₂ f g : ℕ → ℕ) (n₁ n₂ n : ℕ) (ds es fs : List ℕ) → n ≡ n₁ + n₂
    → ((i k : ℕ) → i < n₁ → k < n₂ → f₁ i ≡ f₂ k → ⊥)
    → ((i : ℕ) → i < n₁ → (f i ≡ f₁ i) × (g i ≡ g₁ i))
    → ((i k : ℕ) → k < n₂ → i ≡ n₁ + k → (f i ≡ f₂ k) × (g i ≡ g₂ k))
    → Spread f₁ g₁ n₁ ds es → Spread f₂ g₂ n₂ es fs → Spread f g n ds fs
spread_join f₁ g₁ f₂ g₂ f g n₁ n₂ n ds es fs e apart low high w₁ w₂ = record {
  on = λ i l.
      ⊎_elim
      (λ (lo : i < n₁). ap (λ (x : ℕ). get_or fs x 0) (low i lo).0 ∙ w₂.off (f₁ i) (λ k lk. apart i k lo lk) ∙ w₁.on i lo ∙ sym (low i lo).1)
      (λ (hi : n₁ ≤ i).
      let lk : i - n₁ < n₂ = omega arith in
      let q : i ≡ n₁ + (i - n₁) = omega arith in
      ap (λ (x : ℕ). get_or fs x 0) (high i (i - n₁) lk q).0 ∙ w₂.on (i - n₁) lk ∙ sym (high i (i - n₁) lk q).1)
      (lt_or_ge i n₁);
  off = λ b o.
      w₂.off b (λ k lk q. o (n₁ + k) (omega arith) (q ∙ sym (high (n₁ + k) k lk refl).0))
      ∙ w₁.off b (λ i l q. o i (omega arith) (q ∙ sym (low i l).0));
}

-- ---- words over two slots
module _ (s t r : ℕ) where
  pub place_low : (i : ℕ) → r + i < 256 → place_in s t r i ≡ 256 * s + (r + i)
  place_low i l = rw (lt-ltb (r + i) 256 l)

  pub place_high : (i : ℕ) → 256 ≤ r + i → place_in s t r i ≡ 256 * t + (r + i - 256)
  place_high i l = rw (le-ltb (r + i) 256 l)

  one_low : r ≤ 224 → (i : ℕ) → i < 32 → place_in s t r i ≡ 256 * s + r + i
  one_low l i li = let e = place_low i (omega arith) in e ∙ (let q : 256 * s + (r + i) ≡ 256 * s + r + i = omega arith in q)

  two_low : 224 < r → r < 256 → (i : ℕ) → i < 256 - r → place_in s t r i ≡ 256 * s + r + i
  two_low m l i li = place_low i (omega arith) ∙ (let q : 256 * s + (r + i) ≡ 256 * s + r + i = omega arith in q)

  two_high : 224 < r → r < 256 → (i k : ℕ) → i ≡ 256 - r + k → place_in s t r i ≡ 256 * t + k
  two_high m l i k e = place_high i (omega arith) ∙ (let q : 256 * t + (r + i - 256) ≡ 256 * t + k = omega arith in q)

  -- the place lies in one of the two slots
  pub place_is : (i b x : ℕ) → x < 256 → r < 256 → i < 32 → 256 * b + x ≡ place_in s t r i → ((b ≡ s) × (x ≡ r + i)) ⊎ ((b ≡ t) × (x + 256 ≡ r + i))
  place_is i b x lx lr li e =
      ⊎_elim
      (λ (l : r + i < 256). let h : 256 * b + x ≡ 256 * s + (r + i) = e ∙ place_low i l in inl (omega arith, omega arith))
      (λ (l : 256 ≤ r + i). let h : 256 * b + x ≡ 256 * t + (r + i - 256) = e ∙ place_high i l in inr (omega arith, omega arith))
      (lt_or_ge (r + i) 256)

  pub place_lt : (i n : ℕ) → r < 256 → i < 32 → 256 * s + 256 ≤ n → 256 * t + 256 ≤ n → place_in s t r i < n
  place_lt i n lr l a b =
      ⊎_elim
      (λ (x : r + i < 256). subst (λ (y : ℕ). y < n) (sym (place_low i x)) (omega arith))
      (λ (x : 256 ≤ r + i). subst (λ (y : ℕ). y < n) (sym (place_high i x)) (omega arith))
      (lt_or_ge (r + i) 256)

  -- what `word_in` reads
  module _ (bytes zs ws : List ℕ) (long : length ws ≡ 32) where
    abbrev read : ℕ → ℕ
    read i = get_or bytes (place_in s t r i) 0

    word_is : Spread (λ i. i) read 32 zs ws → ws ≡ tab 32 read
    word_is w = tab_is 32 read ws long (λ i l. w.on i l)

    pub word_one : r ≤ 224 → Spread (λ i. 0 + i) (λ i. get_or bytes (256 * s + r + i) 0) 32 zs ws → ws ≡ tab 32 read
    word_one l w = word_is (spread_same (λ i. 0 + i) (λ i. get_or bytes (256 * s + r + i) 0) (λ i. i) read 32 zs ws (λ i li. (omega arith, ap (λ (x : ℕ). get_or bytes x 0) (one_low l i li))) w)

    pub word_two : 224 < r → r < 256 → (ys : List ℕ) → Spread (λ i. 0 + i) (λ i. get_or bytes (256 * s + r + i) 0) (256 - r) zs ys
        → Spread (λ i. 256 - r + i) (λ i. get_or bytes (256 * t + i) 0) (32 - (256 - r)) ys ws → ws ≡ tab 32 read
    word_two m l ys w₁ w₂ =
        word_is (spread_join (λ i. 0 + i) (λ i. get_or bytes (256 * s + r + i) 0) (λ i. 256 - r + i) (λ i. get_or bytes (256 * t + i) 0) (λ i. i) read (256 - r) (32 - (256 - r)) 32 zs ys ws (omega arith)
        (λ i k li lk e. omega arith)
        (λ i li. (omega arith, ap (λ (x : ℕ). get_or bytes x 0) (two_low m l i li)))
        (λ i k lk e. (e, ap (λ (x : ℕ). get_or bytes x 0) (two_high m l i k e)))
        w₁ w₂)

  -- what `put_word` leaves
  module _ (ws bytes bytes' : List ℕ) where
    pub put_one : r ≤ 224 → Spread (λ i. 256 * s + r + i) (λ i. get_or ws (0 + i) 0) 32 bytes bytes' → Spread (place_in s t r) (λ i. get_or ws i 0) 32 bytes bytes'
    put_one l w = spread_same (λ i. 256 * s + r + i) (λ i. get_or ws (0 + i) 0) (place_in s t r) (λ i. get_or ws i 0) 32 bytes bytes' (λ i li. (one_low l i li, ap (λ (x : ℕ). get_or ws x 0) (let e : i ≡ 0 + i = omega arith in e))) w

    pub put_two : 224 < r → r < 256 → (bs : List ℕ) → Spread (λ i. 256 * s + r + i) (λ i. get_or ws (0 + i) 0) (256 - r) bytes bs
        → Spread (λ i. 256 * t + i) (λ i. get_or ws (256 - r + i) 0) (32 - (256 - r)) bs bytes' → Spread (place_in s t r) (λ i. get_or ws i 0) 32 bytes bytes'
    put_two m l bs w₁ w₂ =
        spread_join (λ i. 256 * s + r + i) (λ i. get_or ws (0 + i) 0) (λ i. 256 * t + i) (λ i. get_or ws (256 - r + i) 0) (place_in s t r) (λ i. get_or ws i 0) (256 - r) (32 - (256 - r)) 32 bytes bs bytes' (omega arith)
        (λ i k li lk e. omega arith)
        (λ i li. (two_low m l i li, ap (λ (x : ℕ). get_or ws x 0) (let e : i ≡ 0 + i = omega arith in e)))
        (λ i k lk e. (two_high m l i k e, ap (λ (x : ℕ). get_or ws x 0) e))
        w₁ w₂
