-- Slots put back to the pool, one after another.
-- Assumes nothing.
use mathlib.Core.Path.{◌≡◌, refl, sym, ap, ◌∙◌, subst}
use mathlib.Core.Logic.{⊎_elim}
use mathlib.Core.List.{List}
use Prim.Native.Nat.{ℕ, zero, suc, ◌+◌, ◌/◌, ◌%◌, ◌^◌, ◌≤◌, ◌<◌, min}
use native.Mathlib.Numerals.{add-one}
use native.Mathlib.Omega.{arith}
use lib.ListN.{length, get_or, set, take, length-set, get_or-eq_default}
use lib.Seq.{get_or-take, length-take-le}
use Rattle.index.specs.Index.{key_at, Cleared}
use Rattle.index.proofs.Logic.{lt_or_ge}
use Rattle.index.proofs.Removes.{clear_none, clear_more}
use Rattle.store.specs.Mem.{pool_skip_place, slot_count, pool_place, pool_word, pool_skip}
use Rattle.store.specs.Pool.{PoolPart, Pooling}
use Rattle.store.proofs.Parts.{take_set}
use Rattle.pool.specs.Give.{repooled, repooled_all, Repoolable}
use Rattle.pool.proofs.Pools.{changed_long, changed_low, changed_slots, put_step}

-- the words x, after the slots at the ranks from `from` up to, but without, `to` were put back: but for the pool they are as before, and the pool's bits are those of keys that are as before but for these slots
pub record Back (keys words os : List ℕ) (from to : ℕ) (x : List ℕ) : Type 0 where
  pub long : length x ≡ length words
  pub low : (i : ℕ) → i < pool_place words → (i ≡ pool_skip_place → ⊥) → get_or x i 0 ≡ get_or words i 0
  pub slots : slot_count x ≡ slot_count words
  pub left : List ℕ
  pub in_left : slot_count words ≤ length left
  pub pooling : Pooling left x
  pub cleared : Cleared (take (slot_count words) keys) os from to (take (slot_count words) left)

module _ (keys words os : List ℕ) (from to : ℕ) (in_keys : slot_count words ≤ length keys) (p : Pooling keys words)
    (held : (i : ℕ) → from ≤ i → i < to → 0 < key_at (take (slot_count words) keys) os i) (apart : (i j : ℕ) → from ≤ i → i < j → j < to → get_or os i 0 ≡ get_or os j 0 → ⊥) where
  slot_in : (i : ℕ) → from ≤ i → i < to → get_or os i 0 < slot_count words
  slot_in i a b =
      ⊎_elim (λ (l : get_or os i 0 < slot_count words). l)
      (λ (l : slot_count words ≤ get_or os i 0).
      let h = held i a b in
      let c = length-take-le (slot_count words) keys in_keys in
      let z : key_at (take (slot_count words) keys) os i ≡ 0 = get_or-eq_default (take (slot_count words) keys) 0 (omega (arith, l, c)) in
      absurd (omega (arith, h, z)))
      (lt_or_ge (get_or os i 0) (slot_count words))

  -- one more
  module _ (i : ℕ) (a : from ≤ i) (b : i < to) (x : List ℕ) (h : Back keys words os from i x) where
    abbrev s : ℕ
    s = get_or os i 0

    here : s < slot_count x
    here = let l = slot_in i a b in let e = h.slots in omega (arith, l, e)

    still : 0 < get_or h.left s 0
    still =
        let e = h.cleared.kept s (λ j c d q. apart j i c d b q) in
        let k = held i a b in
        let t = get_or-take (slot_count words) h.left s 0 (slot_in i a b) in
        omega (arith, e, k, t)

    step : (pool_word x (s / 64) + 2 ^ (s % 64) < 2 ^ 64) × Pooling (set h.left s 0) (repooled x s)
    step = put_step h.left x h.pooling (let l = h.in_left in let e = h.slots in omega (arith, l, e)) s here still

    pub back_asks : PoolPart x × (s < slot_count x) × (pool_word x (s / 64) + 2 ^ (s % 64) < 2 ^ 64)
    back_asks = (h.pooling.part, here, step.0)

    pub back_more : Back keys words os from (i + 1) (repooled x s)
    back_more =
        let part = h.pooling.part in
        let v = pool_word x (s / 64) + 2 ^ (s % 64) in
        let u = min (s / 64) (pool_skip x) in
        let e = h.slots in
        let n = h.long in
        record {
          long = changed_long x part (s / 64) v u ∙ h.long;
          low = λ j l k. changed_low x part (s / 64) v u j (omega (arith, l, e, n)) k ∙ h.low j l k;
          slots = changed_slots x part (s / 64) v u ∙ h.slots;
          left = set h.left s 0;
          in_left = let q = h.in_left in let r = length-set h.left s 0 in omega (arith, q, r);
          pooling = step.1;
          cleared =
              subst (Cleared (take (slot_count words) keys) os from (i + 1)) (sym (take_set h.left (slot_count words) s 0 (slot_in i a b)))
              (clear_more (take (slot_count words) keys) os (take (slot_count words) h.left) from i a (let c = length-take-le (slot_count words) keys in_keys in let l = slot_in i a b in omega (arith, c, l)) h.cleared);
        }

  pub back : (n : ℕ) → from + n ≤ to → Back keys words os from (from + n) (repooled_all words os from n)
  unfolding repooled_all
  back zero l = record {
    long = refl;
    low = λ i a b. refl;
    slots = refl;
    left = keys;
    in_left = in_keys;
    pooling = p;
    cleared = clear_none (take (slot_count words) keys) os from (from + 0) (omega arith);
  }
  back (suc n) l =
      let e : from + n + 1 ≡ from + suc n = omega arith in
      subst (λ (x : ℕ). Back keys words os from x (repooled_all words os from (suc n))) e
      (back_more (from + n) (omega arith) (omega (arith, l)) (repooled_all words os from n) (back n (omega (arith, l))))

-- ---- the loop of `put_slots`, after n slots
module _ (words os : List ℕ) (from to : ℕ) (r : Repoolable words os from to) (n : ℕ) (l : from + n < to) (x : List ℕ) (e : x ≡ repooled_all words os from n) where
  pub all_asks : PoolPart x × (get_or os (from + n) 0 < slot_count x) × (pool_word x (get_or os (from + n) 0 / 64) + 2 ^ (get_or os (from + n) 0 % 64) < 2 ^ 64)
  all_asks =
      let b = back r.keys words os from to r.in_keys r.pooling r.held r.apart n (omega (arith, l)) in
      rw e (back_asks r.keys words os from to r.in_keys r.pooling r.held r.apart (from + n) (omega arith) l (repooled_all words os from n) b)

pub all_more : (words os x y : List ℕ) (from n : ℕ) → x ≡ repooled_all words os from n → y ≡ repooled x (get_or os (from + n) 0) → y ≡ repooled_all words os from (n + 1)
unfolding repooled_all
all_more words os x y from n e q = rw add-one (q ∙ ap (λ (z : List ℕ). repooled z (get_or os (from + n) 0)) e)
