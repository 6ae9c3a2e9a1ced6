-- The counts of a memory, the lengths of its buffers and of their parts.
-- Assumes nothing.
use mathlib.Core.Path.{◌≡◌}
use mathlib.Core.Bool.{Bool, true, ◌&&◌, and_assoc}
use mathlib.Core.List.{List}
use Prim.Native.Nat.{ℕ, zero, suc, ◌+◌, ◌*◌, ◌≤◌, ◌<◌}
use native.Mathlib.Omega.{arith}
use lib.Dec.{leb, eqb}
use lib.ListN.{length, get_or, length-drop}
use lib.Seq.{length-take-le}
use borrow.Author.Tests.{le-leb, eq-eqb, leb-true, eqb-true}
use Rattle.index.specs.Index.{all}
use Rattle.index.proofs.Logic.{and_left, and_right, and_both}
use Rattle.store.specs.Mem.{Mem, slot_count, page_count, journal_words, dynamic_length, holders, entries, chunk_bytes}
use Rattle.formed.specs.Buffers.{bytes_for, keys_for, order_for, words_for, counts_fit, lengths_are, lengths_fit, LengthsFit}
use Rattle.formed.specs.Formed.{sized, fits, narrow}
use Rattle.formed.specs.WellFormed.{Lengths}

-- 01: no buffer is longer; the lower bounds of the counts are not needed
pub counts_bound : (c p j : ℕ) → c ≤ 65536 → p ≤ 4096 → j ≤ 65536
    → (bytes_for c j ≤ 33554432) × (keys_for c p ≤ 33554432) × (order_for c p ≤ 33554432) × (words_for c j ≤ 33554432)
counts_bound c p j x y z = (omega arith, omega arith, omega arith, omega arith)

module _ (b k o w c p j : ℕ) where
  abbrev S₃ : Bool
  S₃ = eqb o (order_for c p) && eqb w (words_for c j)

  abbrev S₂ : Bool
  S₂ = eqb k (keys_for c p) && S₃

  abbrev P₂ : Bool
  P₂ = leb 1 p && leb p 4096

  abbrev P₁ : Bool
  P₁ = leb 1 c && leb c 65536

  pub fit_are : lengths_fit b k o w c p j ≡ true → LengthsFit b k o w c p j
  fit_are s =
      let counts = and_left (counts_fit c p j) (lengths_are b k o w c p j) s in
      let chunks = and_left P₁ (P₂ && leb j 65536) counts in
      let rest = and_right P₁ (P₂ && leb j 65536) counts in
      let pages = and_left P₂ (leb j 65536) rest in
      let s₁ = and_right (counts_fit c p j) (lengths_are b k o w c p j) s in
      let s₂ = and_right (eqb b (bytes_for c j)) S₂ s₁ in
      let s₃ = and_right (eqb k (keys_for c p)) S₃ s₂ in
      record {
        chunks_lo = leb-true 1 c (and_left (leb 1 c) (leb c 65536) chunks);
        chunks_hi = leb-true c 65536 (and_right (leb 1 c) (leb c 65536) chunks);
        pages_lo = leb-true 1 p (and_left (leb 1 p) (leb p 4096) pages);
        pages_hi = leb-true p 4096 (and_right (leb 1 p) (leb p 4096) pages);
        journal_hi = leb-true j 65536 (and_right P₂ (leb j 65536) rest);
        in_bytes = eqb-true b (bytes_for c j) (and_left (eqb b (bytes_for c j)) S₂ s₁);
        in_keys = eqb-true k (keys_for c p) (and_left (eqb k (keys_for c p)) S₃ s₂);
        in_order = eqb-true o (order_for c p) (and_left (eqb o (order_for c p)) (eqb w (words_for c j)) s₃);
        in_words = eqb-true w (words_for c j) (and_right (eqb o (order_for c p)) (eqb w (words_for c j)) s₃);
      }

  pub fit_test : LengthsFit b k o w c p j → lengths_fit b k o w c p j ≡ true
  fit_test r =
      and_both (counts_fit c p j) (lengths_are b k o w c p j)
      (and_both P₁ (P₂ && leb j 65536) (and_both (leb 1 c) (leb c 65536) (le-leb 1 c r.chunks_lo) (le-leb c 65536 r.chunks_hi))
      (and_both P₂ (leb j 65536) (and_both (leb 1 p) (leb p 4096) (le-leb 1 p r.pages_lo) (le-leb p 4096 r.pages_hi)) (le-leb j 65536 r.journal_hi)))
      (and_both (eqb b (bytes_for c j)) S₂ (eq-eqb b (bytes_for c j) r.in_bytes)
      (and_both (eqb k (keys_for c p)) S₃ (eq-eqb k (keys_for c p) r.in_keys)
      (and_both (eqb o (order_for c p)) (eqb w (words_for c j)) (eq-eqb o (order_for c p) r.in_order) (eq-eqb w (words_for c j) r.in_words))))

  -- the same of a test that passed
  pub lengths_bound : LengthsFit b k o w c p j → (b ≤ 33554432) × (k ≤ 33554432) × (o ≤ 33554432) × (w ≤ 33554432)
  lengths_bound r = (omega arith, omega arith, omega arith, omega arith)

-- the counts, and the lengths of the buffers
module _ (m : Mem) where
  abbrev fits_them : Bool
  fits_them = lengths_fit (length m.bytes) (length m.keys) (length m.order) (length m.words) (slot_count m.words) (page_count m.words) (journal_words m.words)

  pub lengths_are_lem : sized (length m.bytes) (length m.keys) (length m.order) m.words ≡ true → Lengths m
  unfolding sized
  lengths_are_lem s = fit_are _ _ _ _ _ _ _ (and_right (leb 16 (length m.words)) fits_them s)

  pub sized_test : Lengths m → sized (length m.bytes) (length m.keys) (length m.order) m.words ≡ true
  unfolding sized
  sized_test r = let long = r.in_words in and_both (leb 16 (length m.words)) fits_them (le-leb 16 (length m.words) (omega arith)) (fit_test _ _ _ _ _ _ _ r)

-- the lengths of the parts
module _ (m : Mem) (r : Lengths m) where
  pub holders_long : length (holders m) ≡ slot_count m.words
  holders_long = length-take-le (slot_count m.words) m.keys (let h = r.in_keys in omega arith)

  pub entries_long : length (entries m) ≡ page_count m.words + 4
  entries_long = let h = r.in_keys in let d = length-drop (slot_count m.words) m.keys in omega arith

  pub chunks_long : length (chunk_bytes m) ≡ 256 * slot_count m.words
  chunks_long = length-take-le (256 * slot_count m.words) m.bytes (let h = r.in_bytes in omega arith)

-- the numbers of the head that have 32 bits
module _ (w : List ℕ) where
  abbrev N₆ : Bool
  N₆ = fits (dynamic_length w)

  abbrev N₅ : Bool
  N₅ = fits (get_or w 5 0) && N₆

  abbrev N₄ : Bool
  N₄ = fits (get_or w 4 0) && N₅

  abbrev N₃ : Bool
  N₃ = fits (get_or w 3 0) && N₄

  abbrev N₂ : Bool
  N₂ = fits (get_or w 2 0) && N₃

  abbrev N₁ : Bool
  N₁ = fits (get_or w 1 0) && N₂

  module _ (n : narrow w ≡ true) where
    n₁ : N₁ ≡ true
    unfolding narrow
    n₁ = and_right (fits (get_or w 0 0)) N₁ n

    n₂ : N₂ ≡ true
    n₂ = and_right (fits (get_or w 1 0)) N₂ n₁

    n₃ : N₃ ≡ true
    n₃ = and_right (fits (get_or w 2 0)) N₃ n₂

    n₄ : N₄ ≡ true
    n₄ = and_right (fits (get_or w 3 0)) N₄ n₃

    n₅ : N₅ ≡ true
    n₅ = and_right (fits (get_or w 4 0)) N₅ n₄

    pub width_length : dynamic_length w ≤ 4294967295
    width_length = leb-true (dynamic_length w) 4294967295 (and_right (fits (get_or w 5 0)) N₆ n₅)

    pub width_head : (i : ℕ) → i < 6 → get_or w i 0 ≤ 4294967295
    unfolding narrow
    width_head zero l = leb-true (get_or w 0 0) 4294967295 (and_left (fits (get_or w 0 0)) N₁ n)
    width_head (suc zero) l = leb-true (get_or w 1 0) 4294967295 (and_left (fits (get_or w 1 0)) N₂ n₁)
    width_head (suc (suc zero)) l = leb-true (get_or w 2 0) 4294967295 (and_left (fits (get_or w 2 0)) N₃ n₂)
    width_head (suc (suc (suc zero))) l = leb-true (get_or w 3 0) 4294967295 (and_left (fits (get_or w 3 0)) N₄ n₃)
    width_head (suc (suc (suc (suc zero)))) l = leb-true (get_or w 4 0) 4294967295 (and_left (fits (get_or w 4 0)) N₅ n₄)
    width_head (suc (suc (suc (suc (suc zero))))) l = leb-true (get_or w 5 0) 4294967295 (and_left (fits (get_or w 5 0)) N₆ n₅)
    width_head (suc (suc (suc (suc (suc (suc i)))))) l = absurd (omega arith)

  pub narrow_by : get_or w 0 0 ≤ 4294967295 → get_or w 1 0 ≤ 4294967295 → get_or w 2 0 ≤ 4294967295 → get_or w 3 0 ≤ 4294967295 → get_or w 4 0 ≤ 4294967295 → get_or w 5 0 ≤ 4294967295
      → dynamic_length w ≤ 4294967295 → narrow w ≡ true
  unfolding narrow
  narrow_by a b c d e f g =
      rw (
        le-leb (get_or w 0 0) 4294967295 a,
        le-leb (get_or w 1 0) 4294967295 b,
        le-leb (get_or w 2 0) 4294967295 c,
        le-leb (get_or w 3 0) 4294967295 d,
        le-leb (get_or w 4 0) 4294967295 e,
        le-leb (get_or w 5 0) 4294967295 f,
        le-leb (dynamic_length w) 4294967295 g,
      )

  pub narrow_test : ((i : ℕ) → i < 6 → get_or w i 0 ≤ 4294967295) → dynamic_length w ≤ 4294967295 → narrow w ≡ true
  narrow_test h d = narrow_by (h 0 (omega arith)) (h 1 (omega arith)) (h 2 (omega arith)) (h 3 (omega arith)) (h 4 (omega arith)) (h 5 (omega arith)) d

  -- the first six as one test
  pub narrow_is : (all (λ i. fits (get_or w i 0)) 6 && fits (dynamic_length w)) ≡ narrow w
  unfolding all narrow
  narrow_is = simp and_assoc

-- ---- buffers of the same lengths and counts: whoever changes a memory cites this
pub record SameSizes (m m' : Mem) : Type 0 where
  pub slots : slot_count m'.words ≡ slot_count m.words
  pub pages : page_count m'.words ≡ page_count m.words
  pub journals : journal_words m'.words ≡ journal_words m.words
  pub bytes_long : length m'.bytes ≡ length m.bytes
  pub keys_long : length m'.keys ≡ length m.keys
  pub order_long : length m'.order ≡ length m.order
  pub words_long : length m'.words ≡ length m.words

pub lengths_kept : (m m' : Mem) → SameSizes m m' → Lengths m → Lengths m'
lengths_kept m m' e l =
    let c = e.slots in
    let p = e.pages in
    let j = e.journals in
    record {
      chunks_lo = let h = l.chunks_lo in omega arith;
      chunks_hi = let h = l.chunks_hi in omega arith;
      pages_lo = let h = l.pages_lo in omega arith;
      pages_hi = let h = l.pages_hi in omega arith;
      journal_hi = let h = l.journal_hi in omega arith;
      in_bytes = let h = l.in_bytes in let k = e.bytes_long in omega arith;
      in_keys = let h = l.in_keys in let k = e.keys_long in omega arith;
      in_order = let h = l.in_order in let k = e.order_long in omega arith;
      in_words = let h = l.in_words in let k = e.words_long in omega arith;
    }
