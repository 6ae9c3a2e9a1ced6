-- The bits of a table's free places: what a key given or taken away does to them, and what they say.
-- Assumes nothing.
use mathlib.Core.Path.{◌≡◌, refl, sym, ap, ◌∙◌, subst}
use mathlib.Core.Logic.{◌⊎◌, inl, ⊎_elim}
use mathlib.Core.Bool.{Bool, true, false, cond, ◌&&◌}
use mathlib.Core.List.{List, [], ◌∷◌}
use Prim.Native.Nat.{ℕ, zero, suc, ◌+◌, ◌-◌, ◌*◌, ◌/◌, ◌%◌, ◌^◌, ◌≤◌, ◌<◌, min, zero-le, suc-le-suc}
use native.Mathlib.Nat.{not-suc-le-zero, le_of_suc-le-suc, le_refl, eq-zero-or-pos, pow-suc, add-zero, zero-min, min-zero, suc-min-suc}
use native.Mathlib.Omega.{arith}
use lib.Arith.{lt-one}
use lib.Pow.{pow_pos}
use lib.Dec.{eqb}
use lib.ListN.{length, get_or, set, length-set, get_or-eq_default}
use lib.Seq.{get_or-set_same, get_or-set_other, set-set, set-get_or}
use borrow.Author.Tests.{eq-eqb, ne_eqb, eqb-true}
use Rattle.std.proofs.lemmas.List.{get_or_default}
use Rattle.std.proofs.lemmas.Nat.Bits.{bit_at-suc}
use Rattle.index.proofs.Logic.{and_left, and_right, and_both, same_or_not, lt_or_ge, both_ways}
use Rattle.bits.specs.Bits.{free_bit, free_bits, free_word}

-- ---- one bit
held : (ks : List ℕ) (s : ℕ) → 0 < get_or ks s 0 → get_or ks s 1 ≡ 0 → ⊥
held [] s p e = not-suc-le-zero p
held (x ∷ ks) zero p e = omega arith
held (x ∷ ks) (suc s) p e = held ks s p e

at_most : (t : Bool) → cond t 1 0 ≤ 1
at_most true = le_refl 1
at_most false = zero-le

pub free_one : (ks : List ℕ) (s : ℕ) → free_bit ks s ≤ 1
free_one ks s = at_most (eqb (get_or ks s 1) 0)

-- as it is read
pub free_read : (ks : List ℕ) (s : ℕ) → s < length ks → free_bit ks s ≡ cond (eqb (get_or ks s 0) 0) 1 0
free_read ks s l = ap (λ (x : ℕ). cond (eqb x 0) 1 0) (get_or_default ks s 1 0 l)

pub free_on : (ks : List ℕ) (s : ℕ) → s < length ks → get_or ks s 0 ≡ 0 → free_bit ks s ≡ 1
free_on ks s l e = ap (λ (t : Bool). cond t 1 0) (eq-eqb (get_or ks s 1) 0 (get_or_default ks s 1 0 l ∙ e))

pub free_off : (ks : List ℕ) (s : ℕ) → 0 < get_or ks s 0 → free_bit ks s ≡ 0
free_off ks s p = ap (λ (t : Bool). cond t 1 0) (ne_eqb (get_or ks s 1) 0 (held ks s p))

pub free_none : (ks : List ℕ) (s : ℕ) → length ks ≤ s → free_bit ks s ≡ 0
free_none ks s l = ap (λ (x : ℕ). cond (eqb x 0) 1 0) (get_or-eq_default ks 1 l)

pub free_means : (ks : List ℕ) (s : ℕ) → free_bit ks s ≡ 1 → (s < length ks) × (get_or ks s 0 ≡ 0)
free_means ks s e = (
  ⊎_elim (λ l. l) (λ m. absurd (let z = free_none ks s m in omega (arith, e, z))) (lt_or_ge s (length ks)),
  ⊎_elim (λ z. z) (λ p. absurd (let z = free_off ks s p in omega (arith, e, z))) (eq-zero-or-pos (get_or ks s 0)),
)

-- ---- n bits
pub free_step : (ks : List ℕ) (at n : ℕ) → free_bits ks at (suc n) ≡ free_bit ks at + 2 * free_bits ks (suc at) n
unfolding free_bits
free_step ks at n = refl

pub free_lt : (ks : List ℕ) (at n : ℕ) → free_bits ks at n < 2 ^ n
unfolding free_bits
free_lt ks at zero = suc-le-suc zero-le
free_lt ks at (suc n) =
    let h = free_lt ks (suc at) n in
    let b = free_one ks at in
    let p = pow-suc 2 n in
    omega (arith, h, b, p)

pub free_same : (ks ks' : List ℕ) (at n : ℕ) → ((i : ℕ) → at ≤ i → i < at + n → free_bit ks' i ≡ free_bit ks i) → free_bits ks' at n ≡ free_bits ks at n
unfolding free_bits
free_same ks ks' at zero f = refl
free_same ks ks' at (suc n) f =
    let h = free_same ks ks' (suc at) n (λ i l m. f i (omega (arith, l)) (omega (arith, m))) in
    let b = f at (le_refl at) (omega arith) in
    omega (arith, h, b)

-- a key set outside
pub free_out : (ks : List ℕ) (at n s v : ℕ) → (s < at) ⊎ (at + n ≤ s) → free_bits (set ks s v) at n ≡ free_bits ks at n
free_out ks at n s v o =
    free_same ks (set ks s v) at n (λ i l m.
    ap (λ (x : ℕ). cond (eqb x 0) 1 0) (get_or-set_other ks s i v 1 (λ e. ⊎_elim (λ b. omega (arith, b, e, l)) (λ b. omega (arith, b, e, m)) o)))

-- a key taken away, a key given
pub free_put : (ks : List ℕ) (at n s : ℕ) → at ≤ s → s < at + n → s < length ks → 0 < get_or ks s 0 → free_bits (set ks s 0) at n ≡ free_bits ks at n + 2 ^ (s - at)
unfolding free_bits
free_put ks at zero s l m b p = absurd (omega (arith, l, m))
free_put ks at (suc n) s l m b p =
    ⊎_elim
    (λ (e : s ≡ at).
    let t = free_out ks (suc at) n s 0 (inl (omega (arith, e))) in
    let z : s - at ≡ 0 = omega (arith, e) in
    let w : 2 ^ (s - at) ≡ 1 = ap (λ (k : ℕ). 2 ^ k) z in
    let u : free_bit ks at ≡ 0 = subst (λ (k : ℕ). free_bit ks k ≡ 0) e (free_off ks s p) in
    let v : free_bit (set ks s 0) at ≡ 1 =
    subst (λ (k : ℕ). free_bit (set ks s 0) k ≡ 1) e (ap (λ (x : ℕ). cond (eqb x 0) 1 0) (get_or-set_same ks s 0 1 b)) in
    omega (arith, t, w, u, v))
    (λ (ne : s ≡ at → ⊥).
    let lo : suc at ≤ s = omega (arith, ne, l) in
    let h = free_put ks (suc at) n s lo (omega (arith, m)) b p in
    let z : s - at ≡ suc (s - suc at) = omega (arith, lo) in
    let w : 2 ^ (s - at) ≡ 2 ^ (s - suc at) * 2 = ap (λ (k : ℕ). 2 ^ k) z ∙ pow-suc 2 (s - suc at) in
    let v : free_bit (set ks s 0) at ≡ free_bit ks at = ap (λ (x : ℕ). cond (eqb x 0) 1 0) (get_or-set_other ks s at 0 1 (λ q. ne (sym q))) in
    omega (arith, h, w, v))
    (same_or_not s at)

pub free_take : (ks : List ℕ) (at n s k : ℕ) → at ≤ s → s < at + n → s < length ks → get_or ks s 0 ≡ 0 → 0 < k → free_bits (set ks s k) at n + 2 ^ (s - at) ≡ free_bits ks at n
free_take ks at n s k l m b z p =
    let h = free_put (set ks s k) at n s l m (rw (length-set ks s k) b) (rw (get_or-set_same ks s k 0 b) p) in
    let e : set (set ks s k) s 0 ≡ ks = set-set ks s k 0 ∙ ap (set ks s) (sym z) ∙ set-get_or ks s 0 in
    sym h ∙ ap (λ (x : List ℕ). free_bits x at n) e

-- past the table
pub free_past : (ks : List ℕ) (at n : ℕ) → length ks ≤ at → free_bits ks at n ≡ 0
unfolding free_bits
free_past ks at zero l = refl
free_past ks at (suc n) l =
    let h = free_past ks (suc at) n (omega (arith, l)) in
    let b = free_none ks at l in
    omega (arith, h, b)

pub free_short : (ks : List ℕ) (at n k : ℕ) → n ≤ k → length ks ≤ at + n → free_bits ks at k ≡ free_bits ks at n
unfolding free_bits
free_short ks at zero k l m = free_past ks at k (omega (arith, m))
free_short ks at (suc n) zero l m = absurd (not-suc-le-zero l)
free_short ks at (suc n) (suc k) l m = let h = free_short ks (suc at) n k (le_of_suc-le-suc l) (omega (arith, m)) in omega (arith, h)

-- ---- the bits, both ways
bit_first : (x : ℕ) → x / 2 ^ 0 % 2 ≡ x % 2
bit_first x = omega arith

pub free_bit_lem : (ks : List ℕ) (at n r : ℕ) → r < n → free_bits ks at n / 2 ^ r % 2 ≡ free_bit ks (at + r)
unfolding free_bits
free_bit_lem ks at zero r l = absurd (not-suc-le-zero l)
free_bit_lem ks at (suc n) zero l =
    let b = free_one ks at in
    let q : (free_bit ks at + 2 * free_bits ks (suc at) n) % 2 ≡ free_bit ks at = omega (arith, b) in
    bit_first (free_bits ks at (suc n)) ∙ q ∙ ap (free_bit ks) (sym (add-zero at))
free_bit_lem ks at (suc n) (suc r) l =
    let b = free_one ks at in
    let q : (free_bit ks at + 2 * free_bits ks (suc at) n) / 2 ≡ free_bits ks (suc at) n = omega (arith, b) in
    let e : suc at + r ≡ at + suc r = omega arith in
    bit_at-suc (free_bits ks at (suc n)) r ∙ ap (λ (x : ℕ). x / 2 ^ r % 2) q ∙ free_bit_lem ks (suc at) n r (le_of_suc-le-suc l) ∙ ap (free_bit ks) e

pub free_is : (ks : List ℕ) (at n x : ℕ) → x < 2 ^ n → ((r : ℕ) → r < n → x / 2 ^ r % 2 ≡ free_bit ks (at + r)) → x ≡ free_bits ks at n
unfolding free_bits
free_is ks at zero x l f = lt-one l
free_is ks at (suc n) x l f =
    let p = pow-suc 2 n in
    let b : x % 2 ≡ free_bit ks at = sym (bit_first x) ∙ f 0 (suc-le-suc zero-le) ∙ ap (free_bit ks) (add-zero at) in
    let h = free_is ks (suc at) n (x / 2) (omega (arith, l, p)) (λ r m.
    let e : at + suc r ≡ suc at + r = omega arith in sym (bit_at-suc x r) ∙ f (suc r) (suc-le-suc m) ∙ ap (free_bit ks) e) in
    omega (arith, b, h)

-- ---- a table of which every place is free
zeros : (ks : List ℕ) → ((i : ℕ) → get_or ks i 0 ≡ 0) → (at n : ℕ) → free_bits ks at n ≡ 2 ^ min (length ks - at) n - 1
unfolding free_bits
zeros ks f at zero = sym (ap (λ (k : ℕ). 2 ^ k - 1) (min-zero (length ks - at)))
zeros ks f at (suc n) =
    ⊎_elim
    (λ (l : at < length ks).
    let h = zeros ks f (suc at) n in
    let b = free_on ks at l (f at) in
    let z : length ks - at ≡ suc (length ks - suc at) = omega (arith, l) in
    let m : min (length ks - at) (suc n) ≡ suc (min (length ks - suc at) n) =
    ap (λ (k : ℕ). min k (suc n)) z ∙ suc-min-suc (length ks - suc at) n in
    let w : 2 ^ min (length ks - at) (suc n) ≡ 2 ^ min (length ks - suc at) n * 2 =
    ap (λ (k : ℕ). 2 ^ k) m ∙ pow-suc 2 (min (length ks - suc at) n) in
    let o = pow_pos (min (length ks - suc at) n) in
    omega (arith, h, b, w, o))
    (λ (l : length ks ≤ at).
    let z : length ks - at ≡ 0 = omega (arith, l) in
    free_past ks at (suc n) l ∙ sym (ap (λ (k : ℕ). 2 ^ min k (suc n) - 1) z ∙ ap (λ (k : ℕ). 2 ^ k - 1) (zero-min (suc n))))
    (lt_or_ge at (length ks))

pub free_zeros : (ks : List ℕ) → ((i : ℕ) → get_or ks i 0 ≡ 0) → (i : ℕ) → free_word ks i ≡ 2 ^ min (length ks - 64 * i) 64 - 1
free_zeros ks f i = zeros ks f (64 * i) 64

-- ---- n places of which every one is free
-- one place more
free_last : (ks : List ℕ) (at n : ℕ) → free_bit ks (at + n) ≡ 1 → free_bits ks at (suc n) ≡ free_bits ks at n + 2 ^ n
unfolding free_bits
free_last ks at zero e = let b : free_bit ks at ≡ 1 = ap (free_bit ks) (sym (add-zero at)) ∙ e in omega (arith, b)
free_last ks at (suc n) e =
    let q : suc at + n ≡ at + suc n = omega arith in
    let h = free_last ks (suc at) n (ap (free_bit ks) q ∙ e) in
    let p = pow-suc 2 n in
    omega (arith, h, p)

free_held : (ks : List ℕ) (at n : ℕ) → free_bit ks (at + n) ≡ 0 → free_bits ks at (suc n) ≡ free_bits ks at n
unfolding free_bits
free_held ks at zero e = let b : free_bit ks at ≡ 0 = ap (free_bit ks) (sym (add-zero at)) ∙ e in omega (arith, b)
free_held ks at (suc n) e =
    let q : suc at + n ≡ at + suc n = omega arith in
    let h = free_held ks (suc at) n (ap (free_bit ks) q ∙ e) in
    omega (arith, h)

pub full_step : (ks : List ℕ) (at i : ℕ) → at + i < length ks
    → (eqb (2 ^ i - 1) (free_bits ks at i) && eqb (get_or ks (at + i) 0) 0) ≡ eqb (2 ^ suc i - 1) (free_bits ks at (suc i))
full_step ks at i l =
    let p = pow-suc 2 i in
    let o = pow_pos i in
    let k = get_or ks (at + i) 0 in
    both_ways (eqb (2 ^ i - 1) (free_bits ks at i) && eqb k 0) (eqb (2 ^ suc i - 1) (free_bits ks at (suc i)))
    (λ h.
    let f = eqb-true (2 ^ i - 1) (free_bits ks at i) (and_left (eqb (2 ^ i - 1) (free_bits ks at i)) (eqb k 0) h) in
    let z = eqb-true k 0 (and_right (eqb (2 ^ i - 1) (free_bits ks at i)) (eqb k 0) h) in
    let n = free_last ks at i (free_on ks (at + i) l z) in
    eq-eqb (2 ^ suc i - 1) (free_bits ks at (suc i)) (omega (arith, f, n, p, o)))
    (λ h.
    let f = eqb-true (2 ^ suc i - 1) (free_bits ks at (suc i)) h in
    ⊎_elim
    (λ z.
    let n = free_last ks at i (free_on ks (at + i) l z) in
    and_both (eqb (2 ^ i - 1) (free_bits ks at i)) (eqb k 0) (eq-eqb (2 ^ i - 1) (free_bits ks at i) (omega (arith, f, n, p, o))) (eq-eqb k 0 z))
    (λ q.
    let n = free_held ks at i (free_off ks (at + i) q) in
    let b = free_lt ks at i in
    absurd (omega (arith, f, n, p, o, b)))
    (eq-zero-or-pos k))

-- ---- a step of `each_bit_ok`
rest : (ks : List ℕ) (at n i : ℕ) → i < n → free_bits ks (at + i) (n - i) ≡ free_bit ks (at + i) + 2 * free_bits ks (at + (i + 1)) (n - (i + 1))
rest ks at n i l =
    let e : n - i ≡ suc (n - (i + 1)) = omega (arith, l) in
    let q : suc (at + i) ≡ at + (i + 1) = omega arith in
    ap (free_bits ks (at + i)) e ∙ free_step ks (at + i) (n - (i + 1)) ∙ ap (λ (k : ℕ). free_bit ks (at + i) + 2 * free_bits ks k (n - (i + 1))) q

pub ok_step : (ks : List ℕ) (at n i x : ℕ) → i < n → x % 2 ≡ free_bit ks (at + i)
    → eqb x (free_bits ks (at + i) (n - i)) ≡ eqb (x / 2) (free_bits ks (at + (i + 1)) (n - (i + 1)))
ok_step ks at n i x l e =
    let r = rest ks at n i l in
    let b = free_one ks (at + i) in
    both_ways (eqb x (free_bits ks (at + i) (n - i))) (eqb (x / 2) (free_bits ks (at + (i + 1)) (n - (i + 1))))
    (λ h.
    let q = eqb-true x (free_bits ks (at + i) (n - i)) h in eq-eqb (x / 2) (free_bits ks (at + (i + 1)) (n - (i + 1))) (omega (arith, r, q, b)))
    (λ h.
    let q = eqb-true (x / 2) (free_bits ks (at + (i + 1)) (n - (i + 1))) h in eq-eqb x (free_bits ks (at + i) (n - i)) (omega (arith, r, q, e)))

pub ok_fails : (ks : List ℕ) (at n i x : ℕ) → i < n → (x % 2 ≡ free_bit ks (at + i) → ⊥) → eqb x (free_bits ks (at + i) (n - i)) ≡ false
ok_fails ks at n i x l f =
    let r = rest ks at n i l in
    let b = free_one ks (at + i) in
    ne_eqb x (free_bits ks (at + i) (n - i)) (λ q. f (omega (arith, r, q, b)))

pub ok_end : (ks : List ℕ) (at n i : ℕ) → n ≤ i → free_bits ks (at + i) (n - i) ≡ 0
unfolding free_bits
ok_end ks at n i l = let e : n - i ≡ 0 = omega (arith, l) in ap (free_bits ks (at + i)) e
