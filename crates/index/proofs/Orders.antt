-- Keys that rise along the order.
-- Assumes nothing.
use mathlib.Core.Path.{◌≡◌, sym, ap, ◌∙◌, subst}
use mathlib.Core.Logic.{⊎_elim}
use mathlib.Core.Bool.{true, false, ◌&&◌}
use mathlib.Core.List.{List}
use Prim.Native.Nat.{ℕ, zero, suc, ◌+◌, ◌≤◌, ◌<◌, zero-le}
use native.Mathlib.Nat.{le_refl, le_of_suc-le-suc, not-suc-le-zero, eq-or-lt_of_le, lt_trans, le_antisymm, lt-suc_self, lt_of_not-le}
use native.Mathlib.Numerals.{add-one}
use native.Mathlib.Omega.{arith}
use lib.Dec.{leb, eqb}
use lib.ListN.{length, get_or, get_or-eq_default}
use borrow.Author.Tests.{lt-ltb, le-ltb, ltb-true, leb-true, eqb-true, eq-eqb, le-leb}
use Rattle.index.specs.Index.{all, key_at, key_before, rises, used_count, indexed, Listed}
use Rattle.index.proofs.Logic.{and_left, and_right, le_of_not_lt}
use Rattle.index.proofs.All.{all_at, all_intro}
use Rattle.index.proofs.Counts.{all_listed}

module _ (ks os : List ℕ) (n : ℕ) (up : all (rises ks os) n ≡ true) where
  key_step : (i : ℕ) → i < n → key_before ks os i < key_at ks os i
  key_step i l = ltb-true _ _ (all_at (rises ks os) n i up l)

  pub key_pos : (i : ℕ) → i < n → 0 < key_at ks os i
  key_pos i l = let h = key_step i l in omega arith

  key_next : (j : ℕ) → suc j < n → key_at ks os j < key_at ks os (suc j)
  unfolding key_before
  key_next j l = key_step (suc j) l

  pub sorted : (i j : ℕ) → i < j → j < n → key_at ks os i < key_at ks os j
  sorted i zero l m = absurd (not-suc-le-zero l)
  sorted i (suc j) l m =
      ⊎_elim (λ e. subst (λ (k : ℕ). key_at ks os k < key_at ks os (suc j)) (sym e) (key_next j m))
      (λ lt. lt_trans (sorted i j lt (lt_trans (lt-suc_self j) m)) (key_next j m))
      (eq-or-lt_of_le (le_of_suc-le-suc l))

  pub sorted_le : (i j : ℕ) → i ≤ j → j < n → key_at ks os i ≤ key_at ks os j
  sorted_le i j l m =
      ⊎_elim (λ e. subst (λ (k : ℕ). key_at ks os i ≤ key_at ks os k) e (le_refl _)) (λ lt. let h = sorted i j lt m in omega arith) (eq-or-lt_of_le l)

  pub slot_lt : (i : ℕ) → i < n → get_or os i 0 < length ks
  slot_lt i l = lt_of_not-le (λ past. let h = key_pos i l in let z = get_or-eq_default ks 0 past in omega arith)

  pub rank_one : (i j : ℕ) → i < n → j < n → key_at ks os i ≡ key_at ks os j → i ≡ j
  rank_one i j l m e =
      le_antisymm (le_of_not_lt (λ gt. let h = sorted j i gt l in omega arith)) (le_of_not_lt (λ lt. let h = sorted i j lt m in omega arith))

  module _ (cnt : used_count ks ≡ n) where
    pub held_listed : (s : ℕ) → 0 < get_or ks s 0 → Listed os n s
    held_listed = all_listed n ks os key_pos (λ i j l m e. let h = sorted i j l m in let q : key_at ks os i ≡ key_at ks os j = ap (λ (s : ℕ). get_or ks s 0) e in omega arith) cnt

    pub distinct : (s t : ℕ) → 0 < get_or ks s 0 → get_or ks s 0 ≡ get_or ks t 0 → s ≡ t
    distinct s t p e =
        let a = held_listed s p in
        let b = held_listed t (subst (λ (k : ℕ). 0 < k) e p) in
        sym a.is ∙ ap (λ (i : ℕ). get_or os i 0) (rank_one a.rank b.rank a.rank_lt b.rank_lt (ap (λ (s : ℕ). get_or ks s 0) a.is ∙ e ∙ sym (ap (λ (s : ℕ). get_or ks s 0) b.is))) ∙ b.is

-- the loop of `rising`
pub before_suc : (ks os : List ℕ) (i : ℕ) → key_at ks os i ≡ key_before ks os (i + 1)
unfolding key_before
before_suc ks os i = rw (add-one i)

pub past_table : (ks os : List ℕ) (i : ℕ) → length ks ≤ get_or os i 0 → rises ks os i ≡ false
past_table ks os i l = rw (get_or-eq_default ks 0 l) (le-ltb (key_before ks os i) 0 zero-le)

pub no_rise : (ks os : List ℕ) (i prev : ℕ) → prev ≡ key_before ks os i → key_at ks os i ≤ prev → rises ks os i ≡ false
no_rise ks os i prev e l = le-ltb (key_before ks os i) (key_at ks os i) (rw e at l)

pub rise : (ks os : List ℕ) (i prev : ℕ) → prev ≡ key_before ks os i → prev < key_at ks os i → rises ks os i ≡ true
rise ks os i prev e l = lt-ltb (key_before ks os i) (key_at ks os i) (rw e at l)

-- the parts of `indexed`
module _ (ks os : List ℕ) (n : ℕ) where
  pub index_fits : indexed ks os n ≡ true → n ≤ length os
  unfolding indexed
  index_fits e = leb-true n (length os) (and_left (leb n (length os)) (eqb (used_count ks) n && all (rises ks os) n) e)

  pub index_count : indexed ks os n ≡ true → used_count ks ≡ n
  unfolding indexed
  index_count e = eqb-true (used_count ks) n (and_left (eqb (used_count ks) n) (all (rises ks os) n) (and_right (leb n (length os)) (eqb (used_count ks) n && all (rises ks os) n) e))

  pub index_rises : indexed ks os n ≡ true → all (rises ks os) n ≡ true
  unfolding indexed
  index_rises e = and_right (eqb (used_count ks) n) (all (rises ks os) n) (and_right (leb n (length os)) (eqb (used_count ks) n && all (rises ks os) n) e)

  pub index_is : n ≤ length os → used_count ks ≡ n → indexed ks os n ≡ all (rises ks os) n
  unfolding indexed
  index_is l e = rw (le-leb n (length os) l, eq-eqb (used_count ks) n e)

pub rising_intro : (ks os : List ℕ) (n : ℕ) → (0 < n → 0 < key_at ks os 0) → ((i : ℕ) → i + 1 < n → key_at ks os i < key_at ks os (i + 1))
    → all (rises ks os) n ≡ true
unfolding key_before
rising_intro ks os n first next = all_intro (rises ks os) n (λ i l. lt-ltb _ _ (step i l))
  where
    step : (i : ℕ) → i < n → key_before ks os i < key_at ks os i
    step zero l = first l
    step (suc i) l = rw (add-one i) at (next i (rw (add-one i) l))
