-- The pool's words after a slot was taken, and after slots were put back: their bits are those of the slots' keys still.
-- Assumes nothing.
use mathlib.Core.Path.{◌≡◌, sym, ap, ◌∙◌}
use mathlib.Core.Logic.{inl, inr, ⊎_elim}
use mathlib.Core.List.{List}
use Prim.Native.Nat.{ℕ, ◌+◌, ◌*◌, ◌-◌, ◌/◌, ◌%◌, ◌^◌, ◌≤◌, ◌<◌, min}
use native.Mathlib.Omega.{arith}
use lib.ListN.{length, get_or, set, take, drop, length-set}
use lib.Seq.{get_or-set_same, get_or-set_other, get_or-take, length-take-le, set-get_or}
use Rattle.index.proofs.Logic.{same_or_not, lt_or_ge}
use Rattle.bits.specs.Bits.{ones_of, lowest_of, free_word}
use Rattle.bits.proofs.Free.{free_lt, free_out, free_put, free_take}
use Rattle.bits.proofs.Words.{lowest_in, lowest_le, lowest_skips, lowest_free}
use Rattle.store.specs.Mem.{head_length, held_place, pool_skip_place, slot_count, pool_length, pool_place, pool_word, pool_words, pool_skip}
use Rattle.store.specs.Pool.{PoolPart, Pooling}
use Rattle.store.proofs.Parts.{take_set, rest_part}
use Rattle.store.proofs.Pool.{pool_at, pool_long, pool_bits, pool_width, pooling_kept}
use Rattle.pool.specs.Hold.{unpooled}
use Rattle.pool.specs.Give.{repooled}

-- the pool's words come after the head
pub pool_high : (w : List ℕ) → PoolPart w → head_length ≤ pool_place w
pool_high w part = let h = part.room in omega (arith, h)

-- ---- the pool's words as calls lend them, from place `at` on
module _ (w : List ℕ) (part : PoolPart w) (at : ℕ) (e : at ≡ pool_place w) where
  abbrev lent : List ℕ
  lent = take (length w - at) (drop at w)

  pub lent_is : lent ≡ pool_words w
  lent_is = rest_part w at ∙ ap (λ (x : ℕ). drop x w) e

  long : length lent ≡ pool_length (slot_count w)
  long = ap length lent_is ∙ pool_long w (let h = part.room in omega (arith, h))

  pub lent_few : length lent ≤ 1024
  lent_few = let h = part.few in let l = long in omega (arith, h, l)

  pub lent_skip : pool_skip w ≤ length lent
  lent_skip = let h = part.skip in let l = long in omega (arith, h, l)

  pub lent_zeros : (i : ℕ) → i < pool_skip w → get_or lent i 0 ≡ 0
  lent_zeros i l = ap (λ (x : List ℕ). get_or x i 0) lent_is ∙ pool_at w i ∙ part.skipped i l

  -- the bit of the lowest pooled slot is cleared
  pub clear_asks : ((i : ℕ) → get_or w i 0 < 2 ^ 64) → 0 < ones_of (pool_words w) → (s : ℕ) → s ≡ lowest_of (pool_words w) → (at + s / 64 < length w) × (2 ^ (s % 64) ≤ get_or w (at + s / 64) 0)
  clear_asks wide some s low =
      let width : (i : ℕ) → get_or (pool_words w) i 0 < 2 ^ 64 = λ i. rw (pool_at w i) (wide (pool_place w + i)) in
      let h = part.room in
      let l = ap length (sym lent_is) ∙ long in
      let a : s / 64 < length (pool_words w) = rw low (lowest_in (pool_words w) width some) in
      let b : 2 ^ (s % 64) ≤ get_or (pool_words w) (s / 64) 0 = rw low (lowest_le (pool_words w) width some) in
      (omega (arith, h, l, a, e), rw e (rw (pool_at w (s / 64)) at b))

  pub cleared : (s : ℕ) (x : List ℕ) → x ≡ set w (at + s / 64) (get_or w (at + s / 64) 0 - 2 ^ (s % 64)) → set x pool_skip_place (s / 64) ≡ unpooled w s
  cleared s x q = ap (λ (y : List ℕ). set y pool_skip_place (s / 64)) q ∙ ap (λ (y : ℕ). set (set w (y + s / 64) (get_or w (y + s / 64) 0 - 2 ^ (s % 64))) pool_skip_place (s / 64)) e

  -- the bit of a held slot is set
  module _ (s : ℕ) (l : s < slot_count w) (fits : pool_word w (s / 64) + 2 ^ (s % 64) < 2 ^ 64) where
    pub put_asks : (at + s / 64 < length w) × (get_or w (at + s / 64) 0 + 2 ^ (s % 64) < 2 ^ 64)
    put_asks = (let h = part.room in omega (arith, h, l, e), rw e fits)

    module _ (x : List ℕ) (q : x ≡ set w (at + s / 64) (get_or w (at + s / 64) 0 + 2 ^ (s % 64))) where
      word_put_lem : x ≡ set w (pool_place w + s / 64) (pool_word w (s / 64) + 2 ^ (s % 64))
      word_put_lem = q ∙ ap (λ (y : ℕ). set w (y + s / 64) (get_or w (y + s / 64) 0 + 2 ^ (s % 64))) e

      skip_was : get_or x pool_skip_place 0 ≡ pool_skip w
      skip_was =
          ap (λ (y : List ℕ). get_or y pool_skip_place 0) word_put_lem
          ∙ get_or-set_other w (pool_place w + s / 64) pool_skip_place (pool_word w (s / 64) + 2 ^ (s % 64)) 0 (λ b. let h = part.room in omega (arith, b, h))

      pub put_less : s / 64 < get_or x pool_skip_place 0 → set x pool_skip_place (s / 64) ≡ repooled w s
      put_less a =
          let k = skip_was in
          let m : s / 64 ≡ min (s / 64) (pool_skip w) = omega (arith, a, k) in
          ap (set x pool_skip_place) m ∙ ap (λ (y : List ℕ). set y pool_skip_place (min (s / 64) (pool_skip w))) word_put_lem

      pub put_same : get_or x pool_skip_place 0 ≤ s / 64 → x ≡ repooled w s
      put_same a =
          let k = skip_was in
          let m : get_or x pool_skip_place 0 ≡ min (s / 64) (pool_skip w) = omega (arith, a, k) in
          sym (set-get_or x pool_skip_place 0) ∙ ap (set x pool_skip_place) m ∙ ap (λ (y : List ℕ). set y pool_skip_place (min (s / 64) (pool_skip w))) word_put_lem

-- ---- how many slots are held is noted
module _ (keys w : List ℕ) (n : ℕ) (p : Pooling keys w) where
  kept : (i : ℕ) → (i ≡ held_place → ⊥) → get_or (set w held_place n) i 0 ≡ get_or w i 0
  kept i l = get_or-set_other w held_place i n 0 l

  pub count_kept : Pooling keys (set w held_place n)
  count_kept =
      let s = kept 6 (λ e. omega (arith, e)) in
      pooling_kept w (set w held_place n) (length-set w held_place n) s (λ i l. let h = pool_high w p.part in kept i (λ e. omega (arith, e, l, h)))
      keys keys (ap (λ (x : ℕ). take x keys) s) (kept pool_skip_place (λ e. omega (arith, e))) p

-- ---- other keys, of which the slots' are the same
pub keys_kept : (keys keys' w : List ℕ) → take (slot_count w) keys' ≡ take (slot_count w) keys → Pooling keys w → Pooling keys' w
keys_kept keys keys' w e p = record { part = p.part; bits = λ i l. p.bits i l ∙ ap (λ (x : List ℕ). free_word x i) (sym e) }

-- ---- a word of the pool is changed, and how many words a search skips
module _ (w : List ℕ) (part : PoolPart w) (j v u : ℕ) where
  abbrev w' : List ℕ
  w' = set (set w (pool_place w + j) v) pool_skip_place u

  pub changed_long : length w' ≡ length w
  changed_long = length-set (set w (pool_place w + j) v) pool_skip_place u ∙ length-set w (pool_place w + j) v

  -- what stands before the pool is as it was
  pub changed_low : (i : ℕ) → i < pool_place w → (i ≡ pool_skip_place → ⊥) → get_or w' i 0 ≡ get_or w i 0
  changed_low i l n = get_or-set_other (set w (pool_place w + j) v) pool_skip_place i u 0 n ∙ get_or-set_other w (pool_place w + j) i v 0 (λ e. omega (arith, e, l))

  pub changed_slots : slot_count w' ≡ slot_count w
  changed_slots = let h = pool_high w part in changed_low 6 (omega (arith, h)) (λ e. omega (arith, e))

  place : pool_place w' ≡ pool_place w
  place = let a = changed_long in let b = changed_slots in omega (arith, a, b)

  skip : pool_skip w' ≡ u
  skip =
      let h = part.room in
      let a = length-set w (pool_place w + j) v in
      get_or-set_same (set w (pool_place w + j) v) pool_skip_place u 0 (omega (arith, h, a))

  word : j < pool_length (slot_count w) → pool_word w' j ≡ v
  word l =
      let h = pool_high w part in
      let r = part.room in
      ap (λ (x : ℕ). get_or w' (x + j) 0) place
      ∙ get_or-set_other (set w (pool_place w + j) v) pool_skip_place (pool_place w + j) u 0 (λ e. omega (arith, e, h))
      ∙ get_or-set_same w (pool_place w + j) v 0 (omega (arith, l, r))

  other : (i : ℕ) → (i ≡ j → ⊥) → pool_word w' i ≡ pool_word w i
  other i n =
      let h = pool_high w part in
      ap (λ (x : ℕ). get_or w' (x + i) 0) place
      ∙ get_or-set_other (set w (pool_place w + j) v) pool_skip_place (pool_place w + i) u 0 (λ e. omega (arith, e, h))
      ∙ get_or-set_other w (pool_place w + j) (pool_place w + i) v 0 (λ e. n (omega (arith, e)))

  -- the words that a search skips are before the changed one, and 0
  changed_part : u ≤ j → j < pool_length (slot_count w) → ((i : ℕ) → i < u → pool_word w i ≡ 0) → PoolPart w'
  changed_part a b f =
      let s = changed_slots in
      let l = changed_long in
      let k = skip in
      record {
        few = let h = part.few in omega (arith, h, s);
        room = let h = part.room in omega (arith, h, s, l);
        skip = omega (arith, a, b, s, k);
        skipped = λ i h. other i (λ e. omega (arith, e, h, a, k)) ∙ f i (omega (arith, h, k));
      }

-- ---- the key of slot s is changed
module _ (keys w : List ℕ) (p : Pooling keys w) (in_keys : slot_count w ≤ length keys) (s : ℕ) (l : s < slot_count w) where
  abbrev ks : List ℕ
  ks = take (slot_count w) keys

  place_in : s < length ks
  place_in = let c = length-take-le (slot_count w) keys in_keys in omega (arith, c, l)

  key_cut : get_or ks s 0 ≡ get_or keys s 0
  key_cut = get_or-take (slot_count w) keys s 0 l

  word_in : s / 64 < pool_length (slot_count w)
  word_in = omega (arith, l)

  bit : s - 64 * (s / 64) ≡ s % 64
  bit = omega arith

  -- the bits are right again where that of the slot is, and where a search skips only words that were 0, before its word
  now_pooling : (k v u : ℕ) → free_word (set ks s k) (s / 64) ≡ v → u ≤ s / 64 → ((i : ℕ) → i < u → pool_word w i ≡ 0) → Pooling (set keys s k) (set (set w (pool_place w + s / 64) v) pool_skip_place u)
  now_pooling k v u e a f =
      let c = changed_slots w p.part (s / 64) v u in
      let t : take (slot_count (set (set w (pool_place w + s / 64) v) pool_skip_place u)) (set keys s k) ≡ set ks s k = ap (λ (x : ℕ). take x (set keys s k)) c ∙ take_set keys (slot_count w) s k l in
      record {
        part = changed_part w p.part (s / 64) v u a word_in f;
        bits = λ i h.
            ⊎_elim
            (λ (q : i ≡ s / 64).
            ap (pool_word (set (set w (pool_place w + s / 64) v) pool_skip_place u)) q ∙ word w p.part (s / 64) v u word_in ∙ sym e
            ∙ ap (free_word (set ks s k)) (sym q) ∙ ap (λ (x : List ℕ). free_word x i) (sym t))
            (λ (n : i ≡ s / 64 → ⊥).
            other w p.part (s / 64) v u i n ∙ p.bits i (omega (arith, h, c)) ∙ sym (apart k i n) ∙ ap (λ (x : List ℕ). free_word x i) (sym t))
            (same_or_not i (s / 64));
      }
    where
      apart : (k i : ℕ) → (i ≡ s / 64 → ⊥) → free_word (set ks s k) i ≡ free_word ks i
      apart k i n = free_out ks (64 * i) 64 s k (⊎_elim (λ (a : s < 64 * i). inl a) (λ (a : 64 * i ≤ s). inr (omega (arith, a, n))) (lt_or_ge s (64 * i)))

  -- a slot that is held is put back
  module _ (held : 0 < get_or keys s 0) where
    put_word : free_word (set ks s 0) (s / 64) ≡ pool_word w (s / 64) + 2 ^ (s % 64)
    put_word =
        let h = key_cut in
        free_put ks (64 * (s / 64)) 64 s (omega arith) (omega arith) place_in (omega (arith, h, held))
        ∙ ap (λ (x : ℕ). free_word ks (s / 64) + 2 ^ x) bit
        ∙ ap (λ (x : ℕ). x + 2 ^ (s % 64)) (sym (p.bits (s / 64) word_in))

    pub put_step : (pool_word w (s / 64) + 2 ^ (s % 64) < 2 ^ 64) × Pooling (set keys s 0) (repooled w s)
    put_step =
        let h = put_word in
        let b = free_lt (set ks s 0) (64 * (s / 64)) 64 in (
          omega (arith, h, b),
          now_pooling 0 (pool_word w (s / 64) + 2 ^ (s % 64)) (min (s / 64) (pool_skip w)) h (omega arith) (λ i a. p.part.skipped i (omega (arith, a))),
        )

-- ---- the lowest pooled slot is taken
module _ (keys w : List ℕ) (p : Pooling keys w) (in_keys : slot_count w ≤ length keys) (some : 0 < ones_of (pool_words w)) (s : ℕ) (low : s ≡ lowest_of (pool_words w)) where
  lowest : (s < length (take (slot_count w) keys)) × (get_or (take (slot_count w) keys) s 0 ≡ 0)
  lowest = rw low (lowest_free (take (slot_count w) keys) (pool_words w) (pool_bits keys w p in_keys) some)

  pub lowest_slot : s < slot_count w
  lowest_slot = let a = lowest.0 in let c = length-take-le (slot_count w) keys in_keys in omega (arith, a, c)

  pub lowest_unheld : get_or keys s 0 ≡ 0
  lowest_unheld = sym (get_or-take (slot_count w) keys s 0 lowest_slot) ∙ lowest.1

  -- the words before its word are 0
  zeros : (i : ℕ) → i < s / 64 → pool_word w i ≡ 0
  zeros i l = sym (pool_at w i) ∙ lowest_skips (pool_words w) (pool_width keys w p in_keys) some i (omega (arith, l, low))

  -- it is given the key k, and any number is noted as that of the held slots
  pub take_step : (k n : ℕ) → 0 < k → Pooling (set keys s k) (set (unpooled w s) held_place n)
  take_step k n pos =
      count_kept (set keys s k) (unpooled w s) n
      (now_pooling keys w p in_keys s lowest_slot k (pool_word w (s / 64) - 2 ^ (s % 64)) (s / 64)
      (let t : free_word (set (take (slot_count w) keys) s k) (s / 64) + 2 ^ (s % 64) ≡ pool_word w (s / 64) =
      ap (λ (x : ℕ). free_word (set (take (slot_count w) keys) s k) (s / 64) + 2 ^ x) (sym (bit keys w p in_keys s lowest_slot))
      ∙ free_take (take (slot_count w) keys) (64 * (s / 64)) 64 s k (omega arith) (omega arith) lowest.0 lowest.1 pos
      ∙ sym (p.bits (s / 64) (word_in keys w p in_keys s lowest_slot)) in
      omega (arith, t))
      (omega arith)
      zeros)
