-- Keys are taken out.
-- Assumes nothing.
use mathlib.Core.Path.{◌≡◌, refl, sym, ap, ◌∙◌}
use mathlib.Core.Logic.{◌⊎◌, inl, inr, ⊎_elim}
use mathlib.Core.Bool.{true}
use mathlib.Core.List.{List}
use Prim.Native.Nat.{ℕ, ◌+◌, ◌-◌, ◌≤◌, ◌<◌}
use native.Mathlib.Omega.{arith}
use lib.ListN.{length, get_or, set, length-set}
use lib.Seq.{get_or-set_other, get_or-set_same}
use Rattle.index.specs.Index.{key_at, indexed, Listed, Index, LowerBound, Cleared, MovedDown, Removed}
use Rattle.index.proofs.Logic.{same_or_not, lt_or_ge, lt_by}
use Rattle.index.proofs.Orders.{rank_one, slot_lt, index_rises}
use Rattle.index.proofs.Meaning.{index_means, index_test}

-- the loop of `clear`
pub clear_none : (ks os : List ℕ) (from to : ℕ) → to ≤ from → Cleared ks os from to ks
clear_none ks os from to l = record { long = refl; gone = λ i a b. absurd (omega arith); kept = λ s n. refl }

pub clear_more : (ks os ds : List ℕ) (from i : ℕ) → from ≤ i → get_or os i 0 < length ks → Cleared ks os from i ds → Cleared ks os from (i + 1) (set ds (get_or os i 0) 0)
clear_more ks os ds from i l p c = record {
  long = length-set ds (get_or os i 0) 0 ∙ c.long;
  gone = λ j a b. ⊎_elim (λ (e : get_or os j 0 ≡ get_or os i 0). ap (λ (s : ℕ). get_or (set ds (get_or os i 0) 0) s 0) e ∙ get_or-set_same ds (get_or os i 0) 0 0 (let h = c.long in omega arith))
      (λ (n : get_or os j 0 ≡ get_or os i 0 → ⊥). get_or-set_other ds (get_or os i 0) (get_or os j 0) 0 0 n ∙ c.gone j a (earlier j n b))
      (same_or_not (get_or os j 0) (get_or os i 0));
  kept = λ s n. get_or-set_other ds (get_or os i 0) s 0 0 (λ e. n i l (omega arith) (sym e)) ∙ c.kept s (λ j a b. n j a (omega arith));
}
  where
    earlier : (j : ℕ) → (get_or os j 0 ≡ get_or os i 0 → ⊥) → j < i + 1 → j < i
    earlier j n b = ⊎_elim (λ (e : j ≡ i). absurd (n (ap (λ (x : ℕ). get_or os x 0) e))) (λ (ne : j ≡ i → ⊥). omega arith) (same_or_not j i)

-- the loop of `move_down`
pub down_more : (os ds : List ℕ) (at from j : ℕ) → at ≤ from → from ≤ j → j < length os → ((i : ℕ) → j ≤ i → get_or ds i 0 ≡ get_or os i 0) → MovedDown os ds at from j
    → MovedDown os (set ds (at + (j - from)) (get_or ds j 0)) at from (j + 1)
down_more os ds at from j a l p rest d = record {
  long = length-set ds (at + (j - from)) (get_or ds j 0) ∙ d.long;
  low = λ i h. get_or-set_other ds (at + (j - from)) i (get_or ds j 0) 0 (λ e. omega arith) ∙ d.low i h;
  high = λ i h k. ⊎_elim
      (λ (e : i ≡ j). ap (λ (x : ℕ). get_or (set ds (at + (j - from)) (get_or ds j 0)) (at + (x - from)) 0) e ∙ get_or-set_same ds (at + (j - from)) (get_or ds j 0) 0 (let q = d.long in omega arith) ∙ rest j (omega arith) ∙ ap (λ (x : ℕ). get_or os x 0) (sym e))
      (λ (n : i ≡ j → ⊥). get_or-set_other ds (at + (j - from)) (at + (i - from)) (get_or ds j 0) 0 (λ e. n (omega arith)) ∙ d.high i h (omega arith))
      (same_or_not i j);
}

pub down_rest : (os ds : List ℕ) (at from j : ℕ) → at ≤ from → from ≤ j → ((i : ℕ) → j ≤ i → get_or ds i 0 ≡ get_or os i 0)
    → (i : ℕ) → j + 1 ≤ i → get_or (set ds (at + (j - from)) (get_or ds j 0)) i 0 ≡ get_or os i 0
down_rest os ds at from j a l rest i h = get_or-set_other ds (at + (j - from)) i (get_or ds j 0) 0 (λ e. omega arith) ∙ rest i (omega arith)

-- what is left is indexed
module _ (ks os ks' os' : List ℕ) (n from to : ℕ) (ix : indexed ks os n ≡ true) (l : from ≤ to) (h : to ≤ n) (c : Cleared ks os from to ks') (d : MovedDown os os' from to n) where
  was : Index ks os n
  was = index_means ks os n ix

  -- a place at a rank outside has its key
  outside : (i : ℕ) → i < n → (i < from) ⊎ (to ≤ i) → key_at ks' os i ≡ key_at ks os i
  outside i a o = c.kept (get_or os i 0) (λ j b e q.
      let r = rank_one ks os n (index_rises ks os n ix) j i (omega arith) a (ap (λ (s : ℕ). get_or ks s 0) q) in
      ⊎_elim (λ (x : i < from). omega arith) (λ (x : to ≤ i). omega arith) o)

  low_key : (i : ℕ) → i < from → key_at ks' os' i ≡ key_at ks os i
  low_key i a = ap (λ (s : ℕ). get_or ks' s 0) (d.low i a) ∙ outside i (omega arith) (inl a)

  high_key : (i : ℕ) → from ≤ i → i < n - (to - from) → key_at ks' os' i ≡ key_at ks os (i + (to - from))
  high_key i a b =
      let e : from + (i + (to - from) - to) ≡ i = omega arith in
      ap (λ (s : ℕ). get_or ks' s 0) (ap (λ (x : ℕ). get_or os' x 0) (sym e) ∙ d.high (i + (to - from)) (omega arith) (omega arith)) ∙ outside (i + (to - from)) (omega arith) (inr (omega arith))

  used : (i : ℕ) → i < n - (to - from) → 0 < key_at ks' os' i
  used i a =
      ⊎_elim (λ (b : i < from). lt_by refl (low_key i b) (was.in_use i (omega arith))) (λ (b : from ≤ i). lt_by refl (high_key i b a) (was.in_use (i + (to - from)) (omega arith))) (lt_or_ge i from)

  up : (i j : ℕ) → i < j → j < n - (to - from) → key_at ks' os' i < key_at ks' os' j
  up i j a b =
      ⊎_elim
      (λ (x : i < from).
      ⊎_elim (λ (y : j < from). lt_by (low_key i x) (low_key j y) (was.rising i j a (omega arith)))
      (λ (y : from ≤ j). lt_by (low_key i x) (high_key j y b) (was.rising i (j + (to - from)) (omega arith) (omega arith)))
      (lt_or_ge j from))
      (λ (x : from ≤ i). lt_by (high_key i x (omega arith)) (high_key j (omega arith) b) (was.rising (i + (to - from)) (j + (to - from)) (omega arith) (omega arith)))
      (lt_or_ge i from)

  -- a place that is in use still was in use, at a rank outside
  still : (s : ℕ) → 0 < get_or ks' s 0 → Listed os' (n - (to - from)) s
  still s p =
      ⊎_elim (λ (z : get_or ks s 0 ≡ 0). absurd (let e = c.kept s (λ i a b q. let w = was.in_use i (omega arith) in let f : key_at ks os i ≡ get_or ks s 0 = ap (λ (x : ℕ). get_or ks x 0) q in omega arith) in omega arith))
      (λ (z : get_or ks s 0 ≡ 0 → ⊥).
      let w = was.complete s (omega arith) in
      let r = w.rank_lt in
      ⊎_elim (λ (a : w.rank < from). record { rank = w.rank; rank_lt = omega arith; is = d.low w.rank a ∙ w.is })
      (λ (a : from ≤ w.rank).
      ⊎_elim (λ (b : w.rank < to). absurd (let g = c.gone w.rank a b in let f : key_at ks' os w.rank ≡ get_or ks' s 0 = ap (λ (x : ℕ). get_or ks' x 0) w.is in omega arith))
      (λ (b : to ≤ w.rank). record { rank = from + (w.rank - to); rank_lt = omega arith; is = d.high w.rank b w.rank_lt ∙ w.is })
      (lt_or_ge w.rank to))
      (lt_or_ge w.rank from))
      (same_or_not (get_or ks s 0) 0)

  pub removed : Removed ks os n from to ks' os'
  removed = record {
    cleared = c;
    order_long = d.long;
    index = index_test ks' os' (n - (to - from)) (record { room = let r = was.room in let q = d.long in omega arith; complete = still; rising = up; in_use = used });
  }

-- a rank below n is of a place of the table
pub ranks_in : (ks os : List ℕ) (n from to : ℕ) → indexed ks os n ≡ true → to ≤ n → (i : ℕ) → from ≤ i → i < to → get_or os i 0 < length ks
ranks_in ks os n from to ix h i a b = slot_lt ks os n (index_rises ks os n ix) i (omega arith)

-- the ranks of the keys from lo up to, but without, hi
pub record RankOf (os : List ℕ) (from to s : ℕ) : Type 0 where
  pub rank : ℕ
  pub from_le : from ≤ rank
  pub to_lt : rank < to
  pub is : get_or os rank 0 ≡ s

module _ (ks os : List ℕ) (n lo hi from to : ℕ) (ix : indexed ks os n ≡ true) (below : LowerBound ks os n lo from) (above : LowerBound ks os n hi to) where
  pub ranks_order : lo ≤ hi → from ≤ to
  ranks_order l =
      ⊎_elim (λ (a : to < from). let x = below.below to a in let w = below.within in let y = above.above to (omega arith) (omega arith) in absurd (omega arith)) (λ (a : from ≤ to). a) (lt_or_ge to from)

  -- a place with such a key has such a rank
  pub rank_within : (s : ℕ) → 0 < lo → lo ≤ get_or ks s 0 → get_or ks s 0 < hi → RankOf os from to s
  rank_within s pos a b =
      let w = (index_means ks os n ix).complete s (omega arith) in
      let e : key_at ks os w.rank ≡ get_or ks s 0 = ap (λ (x : ℕ). get_or ks x 0) w.is in
      let r = w.rank_lt in
      record {
        rank = w.rank;
        from_le = ⊎_elim (λ (x : w.rank < from). let h = below.below w.rank x in absurd (omega arith)) (λ (x : from ≤ w.rank). x) (lt_or_ge w.rank from);
        to_lt = ⊎_elim (λ (x : w.rank < to). x) (λ (x : to ≤ w.rank). let h = above.above w.rank x r in absurd (omega arith)) (lt_or_ge w.rank to);
        is = w.is;
      }

  -- and a place with another key has none
  pub rank_outside : (s : ℕ) → (get_or ks s 0 < lo) ⊎ (hi ≤ get_or ks s 0) → (i : ℕ) → from ≤ i → i < to → get_or os i 0 ≡ s → ⊥
  rank_outside s o i a b e =
      let q : key_at ks os i ≡ get_or ks s 0 = ap (λ (x : ℕ). get_or ks x 0) e in
      let w = above.within in
      let x = below.above i a (omega arith) in
      let y = above.below i b in
      ⊎_elim (λ (h : get_or ks s 0 < lo). omega arith) (λ (h : hi ≤ get_or ks s 0). omega arith) o
