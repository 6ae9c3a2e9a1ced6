-- Words of bits: how many are set, the lowest one.
-- Assumes nothing.
use mathlib.Core.Path.{◌≡◌, refl, sym, ap, ◌∙◌, subst}
use mathlib.Core.Logic.{◌⊎◌, inl, inr, ⊎_elim}
use mathlib.Core.Bool.{Bool, true, false, cond}
use mathlib.Core.List.{List, [], ◌∷◌}
use Prim.Native.Nat.{ℕ, zero, suc, ◌+◌, ◌-◌, ◌*◌, ◌/◌, ◌%◌, ◌^◌, ◌≤◌, ◌<◌, zero-le, suc-le-suc}
use native.Mathlib.Nat.{not-suc-le-zero, le_of_suc-le-suc, le_trans, le_of_eq, add-le-add, eq-zero-or-pos, pow-suc, add-zero, zero-add}
use native.Mathlib.Omega.{arith}
use lib.Arith.{lt-one}
use lib.Pow.{shl_exact}
use lib.Dec.{eqb, eqb-suc-zero}
use lib.Count.{ones, ones_step, ones-ones, count_trailing_zeros, under}
use lib.ListN.{length, get_or, drop, drop_of_length-le, get_or-eq_default}
use lib.Seq.{drop-cons}
use borrow.Author.Tests.{eqb-true, eqb-false, ne_eqb}
use mir.Syntax.{w64}
use Rattle.std.proofs.lemmas.Nat.{zero_from_ones}
use Rattle.std.proofs.lemmas.Nat.Bits.{bit_at-suc, bit_at-zero, bit_at-trailing_zeros}
use Rattle.index.specs.Index.{free_count}
use Rattle.index.proofs.Logic.{lt_or_ge}
use Rattle.bits.specs.Bits.{bit_of, ones_of, lowest_of, free_bit, free_bits, free_word}
use Rattle.bits.proofs.Free.{free_one, free_lt, free_bit_lem, free_on, free_means}

-- the words ws have the bits of the table ks
abbrev pub Bits : List ℕ → List ℕ → Type 0
Bits ks ws = (i : ℕ) → i < length ws → get_or ws i 0 ≡ free_word ks i

-- ---- how many are set
pub ones_zero : (ws : List ℕ) → ((i : ℕ) → i < length ws → get_or ws i 0 ≡ 0) → ones_of ws ≡ 0
unfolding ones_of
ones_zero [] f = refl
ones_zero (x ∷ ws) f =
    let e : ones x ≡ 0 = ap ones (f 0 (suc-le-suc zero-le)) ∙ ones-ones 0 in
    let h = ones_zero ws (λ i l. f (suc i) (suc-le-suc l)) in
    omega (arith, e, h)

-- the count, along a loop
pub ones_next : (ws : List ℕ) (i : ℕ) → i < length ws → ones_of (drop i ws) ≡ ones (get_or ws i 0) + ones_of (drop (i + 1) ws)
unfolding ones_of
ones_next ws i l = let e : i + 1 ≡ suc i = omega arith in rw (e, drop-cons ws i 0 l)

pub ones_end : (ws : List ℕ) (i : ℕ) → length ws ≤ i → ones_of (drop i ws) ≡ 0
unfolding ones_of
ones_end ws i l = rw (drop_of_length-le ws l)

-- the first words are 0
pub ones_from : (ws : List ℕ) (i : ℕ) → ((j : ℕ) → j < i → get_or ws j 0 ≡ 0) → ones_of (drop i ws) ≡ ones_of ws
unfolding ones_of
ones_from ws zero f = refl
ones_from [] (suc i) f = refl
ones_from (x ∷ ws) (suc i) f =
    let e : ones x ≡ 0 = ap ones (f 0 (suc-le-suc zero-le)) ∙ ones-ones 0 in
    let h = ones_from ws i (λ j l. f (suc j) (suc-le-suc l)) in
    omega (arith, e, h)

-- how many of n places from `at` on are free
unfoldable free_in : List ℕ → ℕ → ℕ → ℕ
free_in ks at zero = 0
free_in ks at (suc n) = free_bit ks at + free_in ks (suc at) n

ones_bits : (ks : List ℕ) (at n : ℕ) → ones (free_bits ks at n) ≡ free_in ks at n
unfolding free_bits free_in
ones_bits ks at zero = ones-ones 0
ones_bits ks at (suc n) =
    let b = free_one ks at in
    let m : (free_bit ks at + 2 * free_bits ks (suc at) n) % 2 ≡ free_bit ks at = omega (arith, b) in
    let q : (free_bit ks at + 2 * free_bits ks (suc at) n) / 2 ≡ free_bits ks (suc at) n = omega (arith, b) in
    let s = ones_step (free_bit ks at + 2 * free_bits ks (suc at) n) in
    let h = ap ones q ∙ ones_bits ks (suc at) n in
    omega (arith, m, s, h)

in_add : (ks : List ℕ) (at m n : ℕ) → free_in ks at (m + n) ≡ free_in ks at m + free_in ks (at + m) n
unfolding free_in
in_add ks at zero n =
    let e : free_in ks at (zero + n) ≡ free_in ks at n = ap (free_in ks at) (zero-add n) in
    let g : free_in ks (at + zero) n ≡ free_in ks at n = ap (λ (k : ℕ). free_in ks k n) (add-zero at) in
    omega (arith, e, g)
in_add ks at (suc m) n =
    let h = in_add ks (suc at) m n in
    let p : suc m + n ≡ suc (m + n) = omega arith in
    let q : suc at + m ≡ at + suc m = omega arith in
    let e : free_in ks at (suc m + n) ≡ free_bit ks at + free_in ks (suc at) (m + n) = ap (free_in ks at) p in
    let g : free_in ks (suc at + m) n ≡ free_in ks (at + suc m) n = ap (λ (k : ℕ). free_in ks k n) q in
    omega (arith, h, e, g)

in_word : (ks : List ℕ) (j n : ℕ) → free_in ks (64 * j) (64 * suc n) ≡ free_in ks (64 * j) 64 + free_in ks (64 * suc j) (64 * n)
in_word ks j n =
    let p : 64 * suc n ≡ 64 + 64 * n = omega arith in
    let q : 64 * j + 64 ≡ 64 * suc j = omega arith in
    ap (free_in ks (64 * j)) p ∙ in_add ks (64 * j) 64 (64 * n) ∙ ap (λ (k : ℕ). free_in ks (64 * j) 64 + free_in ks k (64 * n)) q

in_words : (ks ws : List ℕ) (j : ℕ) → ((i : ℕ) → i < length ws → get_or ws i 0 ≡ free_word ks (j + i)) → ones_of ws ≡ free_in ks (64 * j) (64 * length ws)
unfolding ones_of free_in
in_words ks [] j f = refl
in_words ks (x ∷ ws) j f =
    let h = in_words ks ws (suc j) (λ i l. f (suc i) (suc-le-suc l) ∙ ap (free_word ks) (shift i)) in
    let e : ones x ≡ free_in ks (64 * j) 64 = ap ones (f 0 (suc-le-suc zero-le) ∙ ap (free_word ks) (add-zero j)) ∙ ones_bits ks (64 * j) 64 in
    ap (λ (y : ℕ). y + ones_of ws) e ∙ ap (λ (y : ℕ). free_in ks (64 * j) 64 + y) h ∙ sym (in_word ks j (length ws))
  where
    shift : (i : ℕ) → j + suc i ≡ suc j + i
    shift i = omega arith

in_none : (at n : ℕ) → free_in [] at n ≡ 0
unfolding free_in
in_none at zero = refl
in_none at (suc n) = let h = in_none (suc at) n in omega (arith, h)

in_tail : (k : ℕ) (ks : List ℕ) (at n : ℕ) → free_in (k ∷ ks) (suc at) n ≡ free_in ks at n
unfolding free_in
in_tail k ks at zero = refl
in_tail k ks at (suc n) = ap (λ (y : ℕ). free_bit ks at + y) (in_tail k ks (suc at) n)

in_all : (ks : List ℕ) (n : ℕ) → length ks ≤ n → free_in ks 0 n ≡ free_count ks
unfolding free_in free_count
in_all [] n l = in_none 0 n
in_all (k ∷ ks) zero l = absurd (not-suc-le-zero l)
in_all (zero ∷ ks) (suc n) l =
    let h = in_tail 0 ks 0 n ∙ in_all ks n (le_of_suc-le-suc l) in
    omega (arith, h)
in_all (suc k ∷ ks) (suc n) l =
    let h = in_tail (suc k) ks 0 n ∙ in_all ks n (le_of_suc-le-suc l) in
    let b : free_bit (suc k ∷ ks) 0 ≡ 0 = ap (λ (t : Bool). cond t 1 0) (eqb-suc-zero k) in
    omega (arith, h, b)

-- the count is that of the free places
pub ones_free : (ks ws : List ℕ) → Bits ks ws → length ks ≤ 64 * length ws → ones_of ws ≡ free_count ks
ones_free ks ws f l = in_words ks ws 0 (λ i m. f i m ∙ ap (free_word ks) (sym (zero-add i))) ∙ in_all ks (64 * length ws) l

-- ---- words of which each is 0 or that of the table
-- a number that is not 0 has a bit that is set
pub ones_pos : (n : ℕ) → (n ≡ 0 → ⊥) → 0 < ones n
ones_pos n f = ⊎_elim (λ e. absurd (f (zero_from_ones n e))) (λ p. p) (eq-zero-or-pos (ones n))

module _ (ks : List ℕ) where
  abbrev Some : List ℕ → ℕ → Type 0
  Some ws j = (i : ℕ) → i < length ws → (get_or ws i 0 ≡ 0) ⊎ (get_or ws i 0 ≡ free_word ks (j + i))

  some_head : (x : ℕ) (ws : List ℕ) (j : ℕ) → Some (x ∷ ws) j → (x ≡ 0) ⊎ (x ≡ free_word ks j)
  some_head x ws j f = ⊎_elim (λ e. inl e) (λ e. inr (e ∙ ap (free_word ks) (add-zero j))) (f 0 (suc-le-suc zero-le))

  some_tail : (x : ℕ) (ws : List ℕ) (j : ℕ) → Some (x ∷ ws) j → Some ws (suc j)
  some_tail x ws j f i l =
      let q : j + suc i ≡ suc j + i = omega arith in
      ⊎_elim (λ e. inl e) (λ e. inr (e ∙ ap (free_word ks) q)) (f (suc i) (suc-le-suc l))

  word_le : (x j : ℕ) → (x ≡ 0) ⊎ (x ≡ free_word ks j) → ones x ≤ free_in ks (64 * j) 64
  word_le x j o =
      ⊎_elim
      (λ e. let z : ones x ≡ 0 = ap ones e ∙ ones-ones 0 in omega (arith, z))
      (λ e. let z : ones x ≡ free_in ks (64 * j) 64 = ap ones e ∙ ones_bits ks (64 * j) 64 in omega (arith, z))
      o

  word_same : (x j : ℕ) → (x ≡ 0) ⊎ (x ≡ free_word ks j) → free_in ks (64 * j) 64 ≤ ones x → x ≡ free_word ks j
  word_same x j o l =
      ⊎_elim
      (λ e.
      let z : ones x ≡ 0 = ap ones e ∙ ones-ones 0 in
      let b = ones_bits ks (64 * j) 64 in
      e ∙ sym (zero_from_ones (free_word ks j) (omega (arith, z, b, l))))
      (λ e. e)
      o

  some_le : (ws : List ℕ) (j : ℕ) → Some ws j → ones_of ws ≤ free_in ks (64 * j) (64 * length ws)
  unfolding ones_of free_in
  some_le [] j f = zero-le
  some_le (x ∷ ws) j f =
      let h = some_le ws (suc j) (some_tail x ws j f) in
      let e = word_le x j (some_head x ws j f) in
      joined h e
    where
      joined : ones_of ws ≤ free_in ks (64 * suc j) (64 * length ws) → ones x ≤ free_in ks (64 * j) 64
          → ones x + ones_of ws ≤ free_in ks (64 * j) (64 * suc (length ws))
      joined h e = rw (in_word ks j (length ws)) (add-le-add e h)

  some_same : (ws : List ℕ) (j : ℕ) → free_in ks (64 * j) (64 * length ws) ≤ ones_of ws → Some ws j
      → (i : ℕ) → i < length ws → get_or ws i 0 ≡ free_word ks (j + i)
  unfolding ones_of
  some_same [] j s f i l = absurd (not-suc-le-zero l)
  some_same (x ∷ ws) j s f zero l =
      let h = some_le ws (suc j) (some_tail x ws j f) in
      let o = some_head x ws j f in
      word_same x j o (first (le_trans (le_of_eq (sym (in_word ks j (length ws)))) s) h) ∙ ap (free_word ks) (sym (add-zero j))
    where
      first : {a b c d : ℕ} → a + b ≤ c + d → d ≤ b → a ≤ c
      first p q = omega (arith, p, q)
  some_same (x ∷ ws) j s f (suc i) l =
      let e = word_le x j (some_head x ws j f) in
      let q : suc j + i ≡ j + suc i = omega arith in
      some_same ws (suc j) (later (le_trans (le_of_eq (sym (in_word ks j (length ws)))) s) e) (some_tail x ws j f) i (le_of_suc-le-suc l)
      ∙ ap (free_word ks) q
    where
      later : {a b c d : ℕ} → a + b ≤ c + d → c ≤ a → b ≤ d
      later p q = omega (arith, p, q)

-- where as many bits are set as places are free, a word is 0 only if none of its places is free
pub same_words : (ks ws : List ℕ) → length ks ≤ 64 * length ws → ones_of ws ≡ free_count ks
    → ((i : ℕ) → i < length ws → (get_or ws i 0 ≡ 0) ⊎ (get_or ws i 0 ≡ free_word ks i)) → Bits ks ws
same_words ks ws l e f i m =
    some_same ks ws 0 (le_of_eq (in_all ks (64 * length ws) l ∙ sym e))
    (λ k b. ⊎_elim (λ z. inl z) (λ z. inr (z ∙ ap (free_word ks) (sym (zero-add k)))) (f k b))
    i m
    ∙ ap (free_word ks) (zero-add i)

pub bit_free : (ks ws : List ℕ) → Bits ks ws → (s : ℕ) → s / 64 < length ws → bit_of ws s ≡ free_bit ks s
bit_free ks ws f s l =
    let e : 64 * (s / 64) + s % 64 ≡ s = omega arith in
    let m : s % 64 < 64 = omega arith in
    ap (λ (x : ℕ). x / 2 ^ (s % 64) % 2) (f (s / 64) l) ∙ free_bit_lem ks (64 * (s / 64)) 64 (s % 64) m ∙ ap (free_bit ks) e

-- ---- the lowest bit of a number
abbrev bit : ℕ → ℕ → ℕ
bit x r = x / 2 ^ r % 2

-- a set bit is part of the number
bit_le : (r x : ℕ) → bit x r ≡ 1 → 2 ^ r ≤ x
bit_le zero x b = let q : x / 1 ≡ x = omega arith in let o : x % 2 ≡ 1 = sym (ap (λ (z : ℕ). z % 2) q) ∙ b in omega (arith, o)
bit_le (suc r) x b = let ih = bit_le r (x / 2) (sym (bit_at-suc x r) ∙ b) in let s = pow-suc 2 r in omega (arith, ih, s)

record Lowest (n t : ℕ) : Type 0 where
  set : bit n t ≡ 1
  below : (i : ℕ) → i < t → bit n i ≡ 0

half_lt : (k n : ℕ) → n < 2 ^ suc k → n / 2 < 2 ^ k
half_lt k n h = let e = pow-suc 2 k in omega (arith, e)

-- of a number of k bits, for every k
lowest_of_lem : (k n : ℕ) → 0 < n → n < 2 ^ k → (count_trailing_zeros k n < k) × Lowest n (count_trailing_zeros k n)
unfolding count_trailing_zeros
lowest_of_lem zero n p h = absurd (let e = lt-one h in omega (arith, e))
lowest_of_lem (suc k) n p h = go (n % 2) refl (λ q. lowest_of_lem k (n / 2) q (half_lt k n h))
  where
    below : n % 2 ≡ 0 → ((i : ℕ) → i < count_trailing_zeros k (n / 2) → bit (n / 2) i ≡ 0) → (i : ℕ) → i < suc (count_trailing_zeros k (n / 2)) → bit n i ≡ 0
    below z f zero l = let q : n / 1 ≡ n = omega arith in ap (λ (x : ℕ). x % 2) q ∙ z
    below z f (suc i) l = bit_at-suc n i ∙ f i (le_of_suc-le-suc l)

    go : (d : ℕ) → n % 2 ≡ d → (0 < n / 2 → (count_trailing_zeros k (n / 2) < k) × Lowest (n / 2) (count_trailing_zeros k (n / 2)))
        → (under d (count_trailing_zeros k (n / 2)) < suc k) × Lowest n (under d (count_trailing_zeros k (n / 2)))
    go zero e rest =
        let ih = rest (omega (arith, e)) in
        (suc-le-suc ih.0, record { set = bit_at-suc n (count_trailing_zeros k (n / 2)) ∙ ih.1.set; below = below e ih.1.below })
    go (suc d) e rest = (
      suc-le-suc zero-le,
      record {
        set = let q : n / 1 ≡ n = omega arith in let g : n % 2 ≡ 1 = omega (arith, e) in ap (λ (x : ℕ). x % 2) q ∙ g;
        below = λ i l. absurd (not-suc-le-zero l);
      },
    )

-- ---- the lowest bit of words
bit_here : (x : ℕ) (ws : List ℕ) (s : ℕ) → s < 64 → bit_of (x ∷ ws) s ≡ bit x s
bit_here x ws s l =
    let q : s / 64 ≡ 0 = omega (arith, l) in
    let m : s % 64 ≡ s = omega (arith, l) in
    ap (λ (i : ℕ). get_or (x ∷ ws) i 0 / 2 ^ (s % 64) % 2) q ∙ ap (λ (r : ℕ). x / 2 ^ r % 2) m

bit_next : (x : ℕ) (ws : List ℕ) (s : ℕ) → bit_of (x ∷ ws) (64 + s) ≡ bit_of ws s
bit_next x ws s =
    let q : (64 + s) / 64 ≡ suc (s / 64) = omega arith in
    let m : (64 + s) % 64 ≡ s % 64 = omega arith in
    ap (λ (i : ℕ). get_or (x ∷ ws) i 0 / 2 ^ ((64 + s) % 64) % 2) q ∙ ap (λ (r : ℕ). get_or ws (s / 64) 0 / 2 ^ r % 2) m

record Low (ws : List ℕ) (t : ℕ) : Type 0 where
  inside : t / 64 < length ws
  skips : (i : ℕ) → i < t / 64 → get_or ws i 0 ≡ 0
  set : bit_of ws t ≡ 1

low : (ws : List ℕ) → ((i : ℕ) → get_or ws i 0 < 2 ^ 64) → 0 < ones_of ws → Low ws (lowest_of ws)
unfolding ones_of lowest_of
low [] f p = absurd (not-suc-le-zero p)
low (x ∷ ws) f p = go (eqb x 0) refl (λ q. low ws (λ i. f (suc i)) q)
  where
    first : bit x (count_trailing_zeros 64 x) ≡ 1 → count_trailing_zeros 64 x < 64 → Low (x ∷ ws) (count_trailing_zeros 64 x)
    first w l =
        let q : count_trailing_zeros 64 x / 64 ≡ 0 = omega (arith, l) in record {
          inside = rw q (suc-le-suc zero-le);
          skips = λ i m. absurd (not-suc-le-zero (subst (λ (k : ℕ). i < k) q m));
          set = bit_here x ws (count_trailing_zeros 64 x) l ∙ w;
        }

    later : x ≡ 0 → (t : ℕ) → Low ws t → Low (x ∷ ws) (64 + t)
    later z t w =
        let q : (64 + t) / 64 ≡ suc (t / 64) = omega arith in record {
          inside = rw q (suc-le-suc w.inside);
          skips = λ i m. skip i (subst (λ (k : ℕ). i < k) q m);
          set = bit_next x ws t ∙ w.set;
        }
      where
        skip : (i : ℕ) → i < suc (t / 64) → get_or (x ∷ ws) i 0 ≡ 0
        skip zero m = z
        skip (suc i) m = w.skips i (le_of_suc-le-suc m)

    go : (b : Bool) → eqb x 0 ≡ b → (0 < ones_of ws → Low ws (lowest_of ws)) → Low (x ∷ ws) (cond b (64 + lowest_of ws) (count_trailing_zeros 64 x))
    go true e rest =
        let z : ones x ≡ 0 = ap ones (eqb-true x 0 e) ∙ ones-ones 0 in
        later (eqb-true x 0 e) (lowest_of ws) (rest (omega (arith, p, z)))
    go false e rest =
        let n = eqb-false x 0 e in
        let w = bit_at-trailing_zeros w64 x (omega (arith, n)) (f 0) in
        first w.1 w.0

-- it is in the words, its word is the first that is not 0, and it is set
pub lowest_in : (ws : List ℕ) → ((i : ℕ) → get_or ws i 0 < 2 ^ 64) → 0 < ones_of ws → lowest_of ws / 64 < length ws
lowest_in ws f p = (low ws f p).inside

pub lowest_skips : (ws : List ℕ) → ((i : ℕ) → get_or ws i 0 < 2 ^ 64) → 0 < ones_of ws → (i : ℕ) → i < lowest_of ws / 64 → get_or ws i 0 ≡ 0
lowest_skips ws f p = (low ws f p).skips

pub lowest_set : (ws : List ℕ) → ((i : ℕ) → get_or ws i 0 < 2 ^ 64) → 0 < ones_of ws → bit_of ws (lowest_of ws) ≡ 1
lowest_set ws f p = (low ws f p).set

pub lowest_le : (ws : List ℕ) → ((i : ℕ) → get_or ws i 0 < 2 ^ 64) → 0 < ones_of ws → 2 ^ (lowest_of ws % 64) ≤ get_or ws (lowest_of ws / 64) 0
lowest_le ws f p = bit_le (lowest_of ws % 64) (get_or ws (lowest_of ws / 64) 0) (lowest_set ws f p)

-- no lower bit is set
pub lowest_least : (ws : List ℕ) → ((i : ℕ) → get_or ws i 0 < 2 ^ 64) → (s : ℕ) → s < lowest_of ws → bit_of ws s ≡ 0
unfolding lowest_of
lowest_least [] f s l = absurd (not-suc-le-zero l)
lowest_least (x ∷ ws) f s l = go (eqb x 0) refl l (λ r m. lowest_least ws (λ i. f (suc i)) r m)
  where
    go : (b : Bool) → eqb x 0 ≡ b → s < cond b (64 + lowest_of ws) (count_trailing_zeros 64 x) → ((r : ℕ) → r < lowest_of ws → bit_of ws r ≡ 0) → bit_of (x ∷ ws) s ≡ 0
    go true e m rest =
        ⊎_elim
        (λ (h : s < 64). bit_here x ws s h ∙ ap (λ (y : ℕ). bit y s) (eqb-true x 0 e) ∙ bit_at-zero s)
        (λ (h : 64 ≤ s).
        let q : s ≡ 64 + (s - 64) = omega (arith, h) in ap (bit_of (x ∷ ws)) q ∙ bit_next x ws (s - 64) ∙ rest (s - 64) (omega (arith, m, h)))
        (lt_or_ge s 64)
    go false e m rest =
        let n = eqb-false x 0 e in
        let w = bit_at-trailing_zeros w64 x (omega (arith, n)) (f 0) in
        let b = w.0 in
        bit_here x ws s (omega (arith, m, b)) ∙ w.2 s m

-- the first word that is not 0 has it
pub lowest_at : (ws : List ℕ) (i : ℕ) → ((j : ℕ) → j < i → get_or ws j 0 ≡ 0) → i < length ws → (get_or ws i 0 ≡ 0 → ⊥)
    → lowest_of ws ≡ 64 * i + count_trailing_zeros 64 (get_or ws i 0)
unfolding lowest_of
lowest_at [] i f l n = absurd (not-suc-le-zero l)
lowest_at (x ∷ ws) zero f l n =
    ap (λ (b : Bool). cond b (64 + lowest_of ws) (count_trailing_zeros 64 x)) (ne_eqb x 0 n) ∙ sym (zero-add (count_trailing_zeros 64 x))
lowest_at (x ∷ ws) (suc i) f l n =
    let e = f 0 (suc-le-suc zero-le) in
    let h = lowest_at ws i (λ j m. f (suc j) (suc-le-suc m)) (le_of_suc-le-suc l) n in
    ap (λ (y : ℕ). cond (eqb y 0) (64 + lowest_of ws) (count_trailing_zeros 64 y)) e ∙ joined h
  where
    joined : lowest_of ws ≡ 64 * i + count_trailing_zeros 64 (get_or ws i 0) → 64 + lowest_of ws ≡ 64 * suc i + count_trailing_zeros 64 (get_or ws i 0)
    joined h = omega (arith, h)

-- ---- the lowest bit of a table's words
pub words_lt : (ks ws : List ℕ) → Bits ks ws → (i : ℕ) → get_or ws i 0 < 2 ^ 64
words_lt ks ws f i =
    ⊎_elim (λ (l : i < length ws). rw (f i l) (free_lt ks (64 * i) 64)) (λ (m : length ws ≤ i). rw (get_or-eq_default ws 0 m) (suc-le-suc zero-le))
    (lt_or_ge i (length ws))

-- its place is free
pub lowest_free : (ks ws : List ℕ) → Bits ks ws → 0 < ones_of ws → (lowest_of ws < length ks) × (get_or ks (lowest_of ws) 0 ≡ 0)
lowest_free ks ws f p =
    let b = words_lt ks ws f in
    free_means ks (lowest_of ws) (sym (bit_free ks ws f (lowest_of ws) (lowest_in ws b p)) ∙ lowest_set ws b p)

-- no place before it is
pub lowest_first : (ks ws : List ℕ) → Bits ks ws → 0 < ones_of ws → (s : ℕ) → s < lowest_of ws → 0 < get_or ks s 0
lowest_first ks ws f p s l =
    let b = words_lt ks ws f in
    let i = lowest_in ws b p in
    let m = (lowest_free ks ws f p).0 in
    let z = sym (bit_free ks ws f s (omega (arith, l, i))) ∙ lowest_least ws b s l in
    ⊎_elim (λ e. absurd (let o = free_on ks s (omega (arith, l, m)) e in omega (arith, o, z))) (λ q. q) (eq-zero-or-pos (get_or ks s 0))

-- ---- 2 ^ r in 64 bits
pub shifted : (r : ℕ) → r < 64 → 1 * 2 ^ r % 2 ^ 64 ≡ 2 ^ r
shifted r l = let h = shl_exact {a = 1} 1 r 64 (omega arith) (omega (arith, l)) in h ∙ (let e : 1 * 2 ^ r ≡ 2 ^ r = omega arith in e)
