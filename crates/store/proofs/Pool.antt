-- The pool's words: what its bits say, and what keeps them.
-- Assumes nothing.
use Rattle.std.proofs.Common.{◌≡◌, ℕ, ◌+◌, ◌*◌, ◌/◌, ◌%◌, ◌^◌, ◌<◌, ◌≤◌, List, length, get_or, take, sym, ap, ◌∙◌, ⊎_elim, arith, length-drop, length-take-le, get_or-drop, ext_get_or}
use native.Mathlib.Nat.{zero-div}
use lib.ListN.{get_or-eq_default}
use Rattle.index.specs.Index.{free_count}
use Rattle.index.proofs.Logic.{lt_or_ge}
use Rattle.bits.specs.Bits.{bit_of, ones_of, free_bit, free_word}
use Rattle.bits.proofs.Free.{free_lt, free_none}
use Rattle.bits.proofs.Words.{Bits, ones_free, bit_free}
use Rattle.store.specs.Mem.{slot_count, pool_length, pool_place, pool_word, pool_words, pool_skip}
use Rattle.store.specs.Pool.{PoolPart, Pooling}

module _ (words : List ℕ) where
  pub pool_at : (i : ℕ) → get_or (pool_words words) i 0 ≡ pool_word words i
  pool_at i = get_or-drop (pool_place words) words i 0

  pub pool_long : pool_length (slot_count words) ≤ length words → length (pool_words words) ≡ pool_length (slot_count words)
  pool_long l = length-drop (pool_place words) words ∙ omega arith

  -- a word past the pool is none
  pub pool_end : pool_length (slot_count words) ≤ length words → (i : ℕ) → pool_length (slot_count words) ≤ i → pool_word words i ≡ 0
  pool_end l i h = get_or-eq_default words 0 (omega arith)

module _ (keys words : List ℕ) (p : Pooling keys words) (in_keys : slot_count words ≤ length keys) where
  abbrev ks : List ℕ
  ks = take (slot_count words) keys

  ks_long : length ks ≡ slot_count words
  ks_long = length-take-le (slot_count words) keys in_keys

  fits : pool_length (slot_count words) ≤ length words
  fits = let h = p.part.room in omega arith

  long : length (pool_words words) ≡ pool_length (slot_count words)
  long = pool_long words fits

  pub pool_bits : Bits ks (pool_words words)
  pool_bits i l = let e = long in pool_at words i ∙ p.bits i (omega arith)

  pub pool_width : (i : ℕ) → get_or (pool_words words) i 0 < 2 ^ 64
  pool_width i =
      ⊎_elim
      (λ (l : i < pool_length (slot_count words)). let h = free_lt ks (64 * i) 64 in let e = p.bits i l in let q = pool_at words i in omega arith)
      (λ (l : pool_length (slot_count words) ≤ i). let q = pool_at words i in let e = pool_end words fits i l in omega arith)
      (lt_or_ge i (pool_length (slot_count words)))

  -- the pool's size is the count of the slots that hold no chunk
  pub pool_free : ones_of (pool_words words) ≡ free_count ks
  pool_free = ones_free ks (pool_words words) pool_bits (let e = long in let k = ks_long in omega arith)

  -- each bit, past the pool's words too
  pub pool_bit : (s : ℕ) → bit_of (pool_words words) s ≡ free_bit ks s
  pool_bit s =
      ⊎_elim
      (λ (l : s / 64 < length (pool_words words)). bit_free ks (pool_words words) pool_bits s l)
      (λ (l : length (pool_words words) ≤ s / 64).
      let z : get_or (pool_words words) (s / 64) 0 ≡ 0 = get_or-eq_default (pool_words words) 0 l in
      let e = long in
      let k = ks_long in
      ap (λ (x : ℕ). x / 2 ^ (s % 64) % 2) z ∙ none (2 ^ (s % 64)) ∙ sym (free_none ks s (omega arith)))
      (lt_or_ge (s / 64) (length (pool_words words)))
    where
      none : (d : ℕ) → 0 / d % 2 ≡ 0
      none d = ap (λ (x : ℕ). x % 2) (zero-div d)

-- ---- words that differ elsewhere
module _ (words words' : List ℕ) (long : length words' ≡ length words) (slots : slot_count words' ≡ slot_count words) (same : (i : ℕ) → pool_place words ≤ i → get_or words' i 0 ≡ get_or words i 0) where
  place_same : pool_place words' ≡ pool_place words
  place_same = let l = long in let s = slots in omega arith

  word_same : (i : ℕ) → pool_word words' i ≡ pool_word words i
  word_same i = ap (λ (x : ℕ). get_or words' (x + i) 0) place_same ∙ same (pool_place words + i) (omega arith)

  pub pool_kept : pool_words words' ≡ pool_words words
  pool_kept =
      ext_get_or 0 (pool_words words') (pool_words words)
      (length-drop (pool_place words') words' ∙ (let l = long in let p = place_same in omega arith) ∙ sym (length-drop (pool_place words) words))
      (λ i l. pool_at words' i ∙ word_same i ∙ sym (pool_at words i))

  pub part_kept : pool_skip words' ≡ pool_skip words → PoolPart words → PoolPart words'
  part_kept e p = record {
    few = let h = p.few in let s = slots in omega arith;
    room = let h = p.room in let s = slots in let l = long in omega arith;
    skip = let h = p.skip in let s = slots in omega arith;
    skipped = λ i l. word_same i ∙ p.skipped i (omega arith);
  }

  pub pooling_kept : (keys keys' : List ℕ) → take (slot_count words') keys' ≡ take (slot_count words) keys → pool_skip words' ≡ pool_skip words → Pooling keys words → Pooling keys' words'
  pooling_kept keys keys' k e p = record {
    part = part_kept e p.part;
    bits = λ i l. word_same i ∙ p.bits i (let s = slots in omega arith) ∙ ap (λ (x : List ℕ). free_word x i) (sym k);
  }
