-- Where a key stands.
-- Assumes nothing.
use mathlib.Core.Path.{◌≡◌, refl, sym, ap, ◌∙◌}
use mathlib.Core.Logic.{⊎_elim}
use mathlib.Core.Bool.{true, cond}
use mathlib.Core.List.{List, [], ◌∷◌}
use Prim.Native.Nat.{ℕ, zero, suc, ◌+◌, ◌≤◌, ◌<◌, zero-le, suc-le-suc}
use native.Mathlib.Nat.{le_refl, le_of_suc-le-suc, not-suc-le-zero, eq-or-lt_of_le, le_antisymm}
use native.Mathlib.Omega.{arith}
use lib.Dec.{eqb}
use lib.ListN.{length, get_or, set}
use borrow.Author.Tests.{eq-eqb, ne_eqb}
use Rattle.index.specs.Index.{all, key_at, rises, used_count, indexed, seek, LowerBound}
use Rattle.index.proofs.Logic.{same_or_not, lt_or_ge, le_of_not_lt}
use Rattle.index.proofs.Orders.{sorted, slot_lt, held_listed, distinct, index_count, index_rises}

seek_here : (h : ℕ) (ks : List ℕ) (k : ℕ) → h ≡ k → seek (h ∷ ks) k ≡ 0
unfolding seek
seek_here h ks k e = rw (eq-eqb h k e)

seek_there : (h : ℕ) (ks : List ℕ) (k : ℕ) → (h ≡ k → ⊥) → seek (h ∷ ks) k ≡ suc (seek ks k)
unfolding seek
seek_there h ks k n = rw (ne_eqb h k n)

-- a place that was free is given the key k: the others stand where they stood
pub seek_other : (ks : List ℕ) (s k j : ℕ) → get_or ks s 0 ≡ 0 → 0 < j → (j ≡ k → ⊥) → seek (set ks s k) j ≡ seek ks j
unfolding seek
seek_other [] s k j z p n = refl
seek_other (x ∷ ks) zero k j z p n = rw (ne_eqb k j (λ e. n (sym e)), ne_eqb x j (λ e. omega arith))
seek_other (x ∷ ks) (suc s) k j z p n = ap (λ (r : ℕ). cond (eqb x j) 0 (suc r)) (seek_other ks s k j z p n)

pub seek_hit : (ks : List ℕ) (k : ℕ) → seek ks k < length ks → get_or ks (seek ks k) 0 ≡ k
seek_hit [] k l = absurd (not-suc-le-zero l)
seek_hit (h ∷ ks) k l =
    ⊎_elim (λ e. rw (seek_here h ks k e) e) (λ n. rw (seek_there h ks k n) (seek_hit ks k (le_of_suc-le-suc (rw (seek_there h ks k n) at l)))) (same_or_not h k)

pub seek_upto : (ks : List ℕ) (k s : ℕ) → s < length ks → get_or ks s 0 ≡ k → seek ks k ≤ s
seek_upto [] k s l e = absurd (not-suc-le-zero l)
seek_upto (h ∷ ks) k zero l e = rw (seek_here h ks k e) zero-le
seek_upto (h ∷ ks) k (suc s) l e =
    ⊎_elim (λ q. rw (seek_here h ks k q) zero-le) (λ n. rw (seek_there h ks k n) (suc-le-suc (seek_upto ks k s (le_of_suc-le-suc l) e))) (same_or_not h k)

pub seek_le : (ks : List ℕ) (k : ℕ) → seek ks k ≤ length ks
unfolding seek
seek_le [] k = zero-le
seek_le (x ∷ ks) k = ⊎_elim (λ e. rw (seek_here x ks k e) zero-le) (λ n. rw (seek_there x ks k n) (suc-le-suc (seek_le ks k))) (same_or_not x k)

module _ (ks os : List ℕ) (n : ℕ) (up : all (rises ks os) n ≡ true) (cnt : used_count ks ≡ n) (k : ℕ) (pos : 0 < k) where
  -- a key of the table stands at one place
  pub place_at : (s : ℕ) → s < length ks → get_or ks s 0 ≡ k → seek ks k ≡ s
  place_at s l e =
      let u = seek_upto ks k s l e in
      let v : seek ks k < length ks = omega arith in
      distinct ks os n up cnt (seek ks k) s (rw (seek_hit ks k v) pos) (seek_hit ks k v ∙ sym e)

  -- a key at no rank stands nowhere
  pub place_none : ((i : ℕ) → i < n → key_at ks os i ≡ k → ⊥) → seek ks k ≡ length ks
  place_none never =
      le_antisymm (seek_le ks k) (le_of_not_lt (λ v.
      let w = held_listed ks os n up cnt (seek ks k) (rw (seek_hit ks k v) pos) in
      never w.rank w.rank_lt (ap (λ (s : ℕ). get_or ks s 0) w.is ∙ seek_hit ks k v)))

-- what a search by rank tells
module _ (ks os : List ℕ) (n k r : ℕ) (ix : indexed ks os n ≡ true) (pos : 0 < k) (lb : LowerBound ks os n k r) where
  pub find_past : n ≤ r → length ks ≡ seek ks k
  find_past l = sym (place_none ks os n (index_rises ks os n ix) (index_count ks os n ix) k pos (λ i m e. let h = lb.below i (omega arith) in omega arith))

  pub find_gap : r < n → (key_at ks os r ≡ k → ⊥) → length ks ≡ seek ks k
  find_gap l ne =
      sym (place_none ks os n (index_rises ks os n ix) (index_count ks os n ix) k pos (λ i m e.
      ⊎_elim (λ (a : i < r). let h = lb.below i a in omega arith)
      (λ (b : r ≤ i).
      ⊎_elim (λ (q : r ≡ i). ne (ap (key_at ks os) q ∙ e)) (λ (lt : r < i). let h = sorted ks os n (index_rises ks os n ix) r i lt m in let g = lb.above r (le_refl r) l in omega arith) (eq-or-lt_of_le b))
      (lt_or_ge i r)))

  pub find_at : r < n → key_at ks os r ≡ k → get_or os r 0 ≡ seek ks k
  find_at l e = sym (place_at ks os n (index_rises ks os n ix) (index_count ks os n ix) k pos (get_or os r 0) (slot_lt ks os n (index_rises ks os n ix) r l) e)

  -- the rank of the next key, where the table has this one
  ranked_here : seek ks k < length ks → (r < n) × (key_at ks os r ≡ k)
  ranked_here l =
      ⊎_elim
      (λ (a : r < n). ⊎_elim (λ (e : key_at ks os r ≡ k). (a, e)) (λ (ne : key_at ks os r ≡ k → ⊥). let h = find_gap a ne in absurd (omega arith)) (same_or_not (key_at ks os r) k))
      (λ (a : n ≤ r). let h = find_past a in absurd (omega arith))
      (lt_or_ge r n)

  pub rank_next : seek ks k < length ks → LowerBound ks os n (k + 1) (r + 1)
  rank_next l =
      let h = ranked_here l in
      let here = h.0 in
      let is = h.1 in
      record {
        within = omega arith;
        below = λ i a. ⊎_elim (λ (b : i < r). let q = lb.below i b in omega arith) (λ (b : r ≤ i). let e : key_at ks os i ≡ key_at ks os r = ap (key_at ks os) (le_antisymm (omega arith) b) in omega arith) (lt_or_ge i r);
        above = λ i a b. let q = sorted ks os n (index_rises ks os n ix) r i (omega arith) b in omega arith;
      }

  -- and where it does not
  pub rank_same : length ks ≤ seek ks k → LowerBound ks os n (k + 1) r
  rank_same none = record {
    within = lb.within;
    below = λ i a. let q = lb.below i a in omega arith;
    above = λ i a b.
        let q = lb.above i a b in
        let w = slot_lt ks os n (index_rises ks os n ix) i b in
        ⊎_elim
        (λ (e : k ≡ key_at ks os i). let z = place_at ks os n (index_rises ks os n ix) (index_count ks os n ix) k pos (get_or os i 0) w (sym e) in absurd (omega arith))
        (λ (lt : k < key_at ks os i). omega arith)
        (eq-or-lt_of_le q);
  }
