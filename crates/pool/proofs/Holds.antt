-- Slots by their keys, and what taking one leaves.
-- Assumes nothing.
use mathlib.Core.Path.{◌≡◌, refl, sym, ap, ◌∙◌}
use mathlib.Core.Bool.{true}
use mathlib.Core.List.{List, ◌++◌}
use Prim.Native.Nat.{ℕ, ◌+◌, ◌-◌, ◌/◌, ◌%◌, ◌^◌, ◌≤◌, ◌<◌}
use native.Mathlib.Omega.{arith}
use lib.ListN.{length, get_or, set, take, drop, length-set}
use lib.Seq.{get_or-set_same, get_or-set_other, get_or-take, length-take-le}
use borrow.Author.Tests.{lt-ltb, le-ltb}
use Rattle.index.specs.Index.{indexed, seek, used_count, free_count, LowerBound, Insertable}
use Rattle.index.proofs.Counts.{count_le, used_free}
use Rattle.index.proofs.Orders.{index_count, index_rises}
use Rattle.index.proofs.Places.{place_at}
use Rattle.bits.specs.Bits.{ones_of, lowest_of}
use Rattle.store.specs.Mem.{held_place, pool_skip_place, slot_count, held_now, pool_place, pool_word, pool_words}
use Rattle.store.specs.Indexed.{Indexed, Ranked}
use Rattle.store.specs.Pool.{PoolPart, Pooling}
use Rattle.store.proofs.Slots.{ranked_next}
use Rattle.store.proofs.Parts.{sub_zero, take_front, drop_front, set_part, take_set, put_long}
use Rattle.store.proofs.Pool.{pool_free}
use Rattle.pool.specs.Hold.{lacks, unpooled, Taken, Held}
use Rattle.pool.proofs.Pools.{pool_high, changed_long, changed_low, lowest_slot, lowest_unheld, take_step}

pub lacks_one : (ks : List ℕ) (k : ℕ) → length ks ≤ seek ks k → lacks ks k ≡ 1
unfolding lacks
lacks_one ks k l = rw (le-ltb (seek ks k) (length ks) l)

pub lacks_none : (ks : List ℕ) (k : ℕ) → seek ks k < length ks → lacks ks k ≡ 0
unfolding lacks
lacks_none ks k l = rw (lt-ltb (seek ks k) (length ks) l)

-- the words after slot s was taken and noted as held
module _ (words : List ℕ) (part : PoolPart words) (s n : ℕ) where
  abbrev after : List ℕ
  after = set (unpooled words s) held_place n

  abbrev v : ℕ
  v = pool_word words (s / 64) - 2 ^ (s % 64)

  after_long : length after ≡ length words
  after_long = length-set (unpooled words s) held_place n ∙ changed_long words part (s / 64) v (s / 64)

  after_low : (i : ℕ) → i < pool_place words → (i ≡ held_place → ⊥) → (i ≡ pool_skip_place → ⊥) → get_or after i 0 ≡ get_or words i 0
  after_low i l a b = get_or-set_other (unpooled words s) held_place i n 0 a ∙ changed_low words part (s / 64) v (s / 64) i l b

  after_slots : slot_count after ≡ slot_count words
  after_slots = let h = pool_high words part in after_low 6 (omega (arith, h)) (λ e. omega (arith, e)) (λ e. omega (arith, e))

  after_held : held_now after ≡ n
  after_held = get_or-set_same (unpooled words s) held_place n 0 (let h = pool_high words part in let l = changed_long words part (s / 64) v (s / 64) in omega (arith, h, l))

-- what taking leaves of the words
module _ (k : ℕ) (keys order words : List ℕ) (part : PoolPart words) (s : ℕ) (keys' order' words' : List ℕ) (t : Taken k keys order words s keys' order' words') where
  pub taken_long : length words' ≡ length words
  taken_long = ap length t.words_are ∙ after_long words part s (held_now words + 1)

  pub taken_head : (i : ℕ) → i < pool_place words → (i ≡ held_place → ⊥) → (i ≡ pool_skip_place → ⊥) → get_or words' i 0 ≡ get_or words i 0
  taken_head i l a b = ap (λ (x : List ℕ). get_or x i 0) t.words_are ∙ after_low words part s (held_now words + 1) i l a b

  pub taken_slots : slot_count words' ≡ slot_count words
  taken_slots = ap slot_count t.words_are ∙ after_slots words part s (held_now words + 1)

  pub taken_held : held_now words' ≡ held_now words + 1
  taken_held = ap held_now t.words_are ∙ after_held words part s (held_now words + 1)

module _ (keys order words : List ℕ) (ix : Indexed keys order words) where
  pub cut_keys : length (take (slot_count words) keys) ≡ slot_count words
  cut_keys = length-take-le (slot_count words) keys ix.in_keys

  pub cut_order : length (take (slot_count words) order) ≡ slot_count words
  cut_order = length-take-le (slot_count words) order ix.in_order

  pub used_is : used_count (take (slot_count words) keys) ≡ held_now words
  used_is = index_count (take (slot_count words) keys) (take (slot_count words) order) (held_now words) ix.index

  pub held_le : held_now words ≤ slot_count words
  held_le = let l = cut_keys in let n = used_is in let h = count_le (take (slot_count words) keys) in omega arith

  pub pool_rest : slot_count words - held_now words ≡ free_count (take (slot_count words) keys)
  pool_rest = let l = cut_keys in let n = used_is in let h = used_free (take (slot_count words) keys) in omega arith

  module _ (p : Pooling keys words) where
    -- the slots that are not held are pooled
    pub pool_size : ones_of (pool_words words) ≡ slot_count words - held_now words
    pool_size = pool_free keys words p ix.in_keys ∙ sym pool_rest

    -- s is the lowest pooled slot
    module _ (some : 0 < ones_of (pool_words words)) (s : ℕ) (low : s ≡ lowest_of (pool_words words)) where
      pub free_in : s < slot_count words
      free_in = lowest_slot keys words p ix.in_keys some s low

      pub free_key : get_or keys s 0 ≡ 0
      free_key = lowest_unheld keys words p ix.in_keys some s low

      module _ (k : ℕ) (pos : 0 < k) (none : slot_count words ≤ seek (take (slot_count words) keys) k) where
        pub insertable : Insertable (take (slot_count words - 0) keys) (take (slot_count words - 0) order) (held_now words) s k
        insertable = rw (sub_zero (slot_count words)) record {
          index = ix.index;
          room = let l = cut_order in let h = pool_size in omega arith;
          place = let l = cut_keys in let f = free_in in omega arith;
          free = get_or-take (slot_count words) keys s 0 free_in ∙ free_key;
          key = pos;
          new = let l = cut_keys in omega arith;
        }

        module _ (e₁ e₂ : List ℕ) (len : length e₂ ≡ length (take (slot_count words - 0) order)) (q : e₁ ≡ set (take (slot_count words - 0) keys) s k)
            (words' : List ℕ) (w : words' ≡ set (unpooled words s) held_place (held_now words + 1)) where
          keys_set : e₁ ≡ set (take (slot_count words) keys) s k
          keys_set = q ∙ ap (λ (x : ℕ). set (take x keys) s k) (sub_zero (slot_count words))

          keys_long : length e₁ ≡ slot_count words
          keys_long = ap length keys_set ∙ length-set (take (slot_count words) keys) s k ∙ cut_keys

          order_long : length e₂ ≡ slot_count words
          order_long = len ∙ ap (λ (x : ℕ). length (take x order)) (sub_zero (slot_count words)) ∙ cut_order

          six : slot_count words' ≡ slot_count words
          six = ap slot_count w ∙ after_slots words p.part s (held_now words + 1)

          nine : held_now words' ≡ held_now words + 1
          nine = ap held_now w ∙ after_held words p.part s (held_now words + 1)

          keys_now : e₁ ++ drop (slot_count words) keys ≡ set keys s k
          keys_now = rw keys_set (set_part keys (slot_count words) s k free_in)

          front_keys : take (slot_count words) (e₁ ++ drop (slot_count words) keys) ≡ e₁
          front_keys = take_front e₁ (drop (slot_count words) keys) (slot_count words) keys_long

          front_order : take (slot_count words) (e₂ ++ drop (slot_count words) order) ≡ e₂
          front_order = take_front e₂ (drop (slot_count words) order) (slot_count words) order_long

          pub taken : indexed e₁ e₂ (held_now words + 1) ≡ true
              → Taken k keys order words s (e₁ ++ drop (slot_count words - 0) keys) (e₂ ++ drop (slot_count words - 0) order) words'
          taken i =
              let lk : length (e₁ ++ drop (slot_count words) keys) ≡ length keys = put_long keys e₁ (slot_count words) keys_long ix.in_keys in
              let lo : length (e₂ ++ drop (slot_count words) order) ≡ length order = put_long order e₂ (slot_count words) order_long ix.in_order in
              let g = six in
              let lw : length words' ≡ length words = ap length w ∙ after_long words p.part s (held_now words + 1) in
              rw (sub_zero (slot_count words)) record {
                slot_in = free_in;
                lowest = low;
                unheld = free_key;
                keys_are = keys_now;
                words_are = w;
                order_rest = drop_front e₂ (drop (slot_count words) order) (slot_count words) order_long;
                order_long = lo;
                indexed_still = record {
                  head = let h = ix.head in omega (arith, h, lw);
                  few = let h = ix.few in omega (arith, h, g);
                  in_keys = let h = ix.in_keys in omega (arith, h, g, lk);
                  in_order = let h = ix.in_order in omega (arith, h, g, lo);
                  index = rw (six, nine, front_keys, front_order) i;
                };
                pooling_still = rw (keys_now, w) (take_step keys words p ix.in_keys some s low k (held_now words + 1) pos);
              }

          pub taken_rank : (at : ℕ) → LowerBound e₁ e₂ (held_now words + 1) k at → Ranked (e₁ ++ drop (slot_count words - 0) keys) (e₂ ++ drop (slot_count words - 0) order) words' k at
          taken_rank at r = rw (sub_zero (slot_count words), six, nine, front_keys, front_order) r

  module _ (k : ℕ) (pos : 0 < k) where
    pub lacking : slot_count words ≤ seek (take (slot_count words) keys) k → lacks (take (slot_count words) keys) k ≤ ones_of (pool_words words) → 0 < ones_of (pool_words words)
    lacking none l = let h = lacks_one (take (slot_count words) keys) k (let c = cut_keys in omega arith) in omega arith

    pub held_was : (s : ℕ) → s ≡ seek (take (slot_count words) keys) k → s < slot_count words → Held k keys order words s keys order words
    held_was s e l = record { slot = e; slot_in = l; was = λ _. (refl, refl, refl); new = λ m. absurd (omega arith) }

    -- the key was given a slot
    module _ (part : PoolPart words) (s : ℕ) (keys' order' words' : List ℕ) (t : Taken k keys order words s keys' order' words') where
      slots : slot_count words' ≡ slot_count words
      slots = taken_slots k keys order words part s keys' order' words' t

      pub taken_slot : seek (take (slot_count words) keys') k ≡ s
      taken_slot =
          let ix' : indexed (take (slot_count words) keys') (take (slot_count words) order') (held_now words') ≡ true = rw slots at t.indexed_still.index in
          let l = cut_keys in
          let le : length (take (slot_count words) keys') ≡ slot_count words = ap (λ (x : List ℕ). length (take (slot_count words) x)) t.keys_are ∙ ap length (take_set keys (slot_count words) s k t.slot_in) ∙ length-set (take (slot_count words) keys) s k ∙ cut_keys in
          let m = t.slot_in in
          place_at (take (slot_count words) keys') (take (slot_count words) order') (held_now words') (index_rises _ _ _ ix') (index_count _ _ _ ix') k pos s (omega arith)
          (get_or-take (slot_count words) keys' s 0 t.slot_in ∙ ap (λ (x : List ℕ). get_or x s 0) t.keys_are ∙ get_or-set_same keys s k 0 (let h = ix.in_keys in omega arith))

      -- and the next key's rank
      pub next_rank : (at : ℕ) → Ranked keys' order' words' k at → Ranked keys' order' words' (k + 1) (at + 1)
      next_rank at r =
          let e = slots in
          let h : seek (take (slot_count words') keys') k ≡ s = ap (λ (x : ℕ). seek (take x keys') k) slots ∙ taken_slot in
          ranked_next keys' order' words' t.indexed_still k at pos r (let l = t.slot_in in omega (arith, e, h, l))

      pub held_new : slot_count words ≤ seek (take (slot_count words) keys) k → Held k keys order words s keys' order' words'
      held_new none = record {
        slot = sym taken_slot;
        slot_in = t.slot_in;
        was = λ h. absurd (omega (arith, h, none));
        new = λ h. t;
      }
