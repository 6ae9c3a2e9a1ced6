-- How many places are in use.
-- Assumes nothing.
use mathlib.Core.Path.{◌≡◌, refl, sym, ap, ◌∙◌}
use mathlib.Core.Logic.{⊎_elim}
use mathlib.Core.List.{List, [], ◌∷◌}
use Prim.Native.Nat.{ℕ, zero, suc, ◌+◌, ◌≤◌, ◌<◌, zero-le, suc-le-suc}
use native.Mathlib.Nat.{le_of_suc-le-suc, not-suc-le-zero, eq-or-lt_of_le, lt_trans, lt-suc_self}
use native.Mathlib.Numerals.{add-one}
use native.Mathlib.Omega.{arith}
use lib.ListN.{length, get_or, drop, set, get_or-eq_default}
use lib.Seq.{drop-cons, get_or-set_other, get_or-set_same, set-set, set-get_or, set_out}
use Rattle.index.specs.Index.{key_at, used_count, free_count, Listed}
use Rattle.index.proofs.Logic.{same_or_not, lt_or_ge}

-- the count, along a loop
count_cons : (h : ℕ) (ks : List ℕ) → (h ≡ 0 → ⊥) → used_count (h ∷ ks) ≡ used_count ks + 1
unfolding used_count
count_cons zero ks n = absurd (n refl)
count_cons (suc h) ks n = sym (add-one (used_count ks))

pub count_zero : (ks : List ℕ) (i : ℕ) → i < length ks → get_or ks i 0 ≡ 0 → used_count (drop (i + 1) ks) ≡ used_count (drop i ks)
unfolding used_count
count_zero ks i l e = rw (add-one i, drop-cons ks i 0 l, e)

pub count_held : (ks : List ℕ) (i : ℕ) → i < length ks → (get_or ks i 0 ≡ 0 → ⊥) → used_count (drop (i + 1) ks) + 1 ≡ used_count (drop i ks)
count_held ks i l n = rw (add-one i, drop-cons ks i 0 l) (sym (count_cons (get_or ks i 0) (drop (suc i) ks) n))

pub count_le : (ks : List ℕ) → used_count ks ≤ length ks
unfolding used_count
count_le [] = zero-le
count_le (zero ∷ ks) = let h = count_le ks in omega arith
count_le (suc k ∷ ks) = suc-le-suc (count_le ks)

-- freeing a place takes one off the count
pub count_set : (ks : List ℕ) (i : ℕ) → 0 < get_or ks i 0 → used_count (set ks i 0) + 1 ≡ used_count ks
unfolding used_count
count_set [] i p = absurd (not-suc-le-zero p)
count_set (h ∷ ks) zero p = sym (count_cons h ks (λ e. omega arith))
count_set (zero ∷ ks) (suc i) p = count_set ks i p
count_set (suc k ∷ ks) (suc i) p = let h = count_set ks i p in omega arith

none_held : (ks : List ℕ) → used_count ks ≡ 0 → (s : ℕ) → 0 < get_or ks s 0 → ⊥
none_held ks e s p = let h = count_set ks s p in omega arith

listed_suc : {os : List ℕ} {n s : ℕ} → Listed os n s → Listed os (suc n) s
listed_suc l = record { rank = l.rank; rank_lt = lt_trans l.rank_lt (lt-suc_self _); is = l.is }

-- n distinct places in use, where n are in use, are all that are in use
pub all_listed : (n : ℕ) (ks os : List ℕ) → ((i : ℕ) → i < n → 0 < key_at ks os i) → ((i j : ℕ) → i < j → j < n → get_or os i 0 ≡ get_or os j 0 → ⊥)
    → used_count ks ≡ n → (s : ℕ) → 0 < get_or ks s 0 → Listed os n s
all_listed zero ks os pos apart cnt s p = absurd (none_held ks cnt s p)
all_listed (suc n) ks os pos apart cnt s p =
    ⊎_elim (λ e. record { rank = n; rank_lt = lt-suc_self n; is = sym e })
    (λ ne. listed_suc
    (all_listed n (set ks (get_or os n 0) 0) os
    (λ i l. rw (get_or-set_other ks (get_or os n 0) (get_or os i 0) 0 0 (apart i n l (lt-suc_self n))) (pos i (lt_trans l (lt-suc_self n))))
    (λ i j l m. apart i j l (lt_trans m (lt-suc_self n)))
    (let h = count_set ks (get_or os n 0) (pos n (lt-suc_self n)) in omega arith)
    s
    (rw (get_or-set_other ks (get_or os n 0) s 0 0 ne) p)))
    (same_or_not s (get_or os n 0))

pub count_fill : (ks : List ℕ) (s k : ℕ) → s < length ks → get_or ks s 0 ≡ 0 → 0 < k → used_count (set ks s k) ≡ used_count ks + 1
count_fill ks s k l z p =
    let h = count_set (set ks s k) s (rw (get_or-set_same ks s k 0 l) p) in
    let e : set (set ks s k) s 0 ≡ ks = set-set ks s k 0 ∙ ap (set ks s) (sym z) ∙ set-get_or ks s 0 in
    let g : used_count (set (set ks s k) s 0) ≡ used_count ks = ap used_count e in
    omega arith

none_count : (ks : List ℕ) → ((s : ℕ) → 0 < get_or ks s 0 → ⊥) → used_count ks ≡ 0
unfolding used_count
none_count [] h = refl
none_count (zero ∷ ks) h = none_count ks (λ s p. h (suc s) p)
none_count (suc k ∷ ks) h = absurd (h 0 (suc-le-suc zero-le))

get_or_zeroed : (ks : List ℕ) (i : ℕ) → get_or (set ks i 0) i 0 ≡ 0
get_or_zeroed ks i = ⊎_elim (λ l. get_or-set_same ks i 0 0 l) (λ m. ap (λ (l : List ℕ). get_or l i 0) (set_out ks i 0 m) ∙ get_or-eq_default ks 0 m) (lt_or_ge i (length ks))

-- where n distinct places are all that are in use, n are in use
pub all_counted : (n : ℕ) (ks os : List ℕ) → ((i : ℕ) → i < n → 0 < key_at ks os i) → ((i j : ℕ) → i < j → j < n → get_or os i 0 ≡ get_or os j 0 → ⊥)
    → ((s : ℕ) → 0 < get_or ks s 0 → Listed os n s) → used_count ks ≡ n
all_counted zero ks os pos apart every = none_count ks (λ s p. not-suc-le-zero (every s p).rank_lt)
all_counted (suc n) ks os pos apart every =
    let c = count_set ks (get_or os n 0) (pos n (lt-suc_self n)) in
    let r =
    all_counted n (set ks (get_or os n 0) 0) os
    (λ i l. rw (get_or-set_other ks (get_or os n 0) (get_or os i 0) 0 0 (apart i n l (lt-suc_self n))) (pos i (lt_trans l (lt-suc_self n))))
    (λ i j l m. apart i j l (lt_trans m (lt-suc_self n)))
    (λ s p. left s p (λ e. let z = get_or_zeroed ks (get_or os n 0) in let q : get_or (set ks (get_or os n 0) 0) s 0 ≡ 0 = ap (λ (t : ℕ). get_or (set ks (get_or os n 0) 0) t 0) e ∙ z in omega arith)) in
    omega arith
  where
    shrink : (s : ℕ) → (s ≡ get_or os n 0 → ⊥) → Listed os (suc n) s → Listed os n s
    shrink s ne l = record {
      rank = l.rank;
      rank_lt = ⊎_elim (λ e. absurd (ne (sym l.is ∙ ap (λ (i : ℕ). get_or os i 0) e))) (λ lt. lt) (eq-or-lt_of_le (le_of_suc-le-suc l.rank_lt));
      is = l.is;
    }

    left : (s : ℕ) → 0 < get_or (set ks (get_or os n 0) 0) s 0 → (s ≡ get_or os n 0 → ⊥) → Listed os n s
    left s p ne = shrink s ne (every s (rw (get_or-set_other ks (get_or os n 0) s 0 0 ne) at p))

-- used and free places are all places
pub used_free : (ks : List ℕ) → used_count ks + free_count ks ≡ length ks
unfolding used_count free_count
used_free [] = refl
used_free (zero ∷ ks) = let h = used_free ks in omega arith
used_free (suc k ∷ ks) = let h = used_free ks in omega arith
