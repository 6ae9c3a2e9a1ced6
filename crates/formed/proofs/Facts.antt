-- The facts of a well-formed memory, each said once: the form in which a step shows that it keeps a memory well formed.
-- Assumes nothing.
use mathlib.Core.Path.{◌≡◌, sym, ◌∙◌}
use mathlib.Core.Logic.{⊎_elim}
use mathlib.Core.List.{List}
use mathlib.Core.Bool.{true, not, ◌&&◌}
use Prim.Native.Nat.{ℕ, ◌+◌, ◌*◌, ◌-◌, ◌≤◌, ◌<◌}
use native.Mathlib.Omega.{arith}
use lib.Dec.{leb, eqb}
use lib.ListN.{length, get_or, take, drop}
use borrow.Author.Tests.{lt-ltb, le-ltb, le-leb, eq-eqb}
use Rattle.store.specs.Keys.{key_of, key_entry, key_chunk}
use Rattle.page_ids.specs.Decode.{bad_layout}
use Rattle.index.specs.Index.{all, indexed}
use Rattle.index.proofs.Logic.{and_both, same_or_not, lt_or_ge}
use Rattle.index.proofs.All.{all_intro}
use Rattle.bits.specs.Bits.{free_word}
use Rattle.store.specs.Mem.{Mem, layout_of, slot_count, journal_words, journal_length, held_now, in_use, dynamic_length, pool_length, pool_word, pool_skip, holders, entries, slot_order, page_order, chunk_bytes}
use Rattle.store.specs.Pool.{Pooling}
use Rattle.formed.specs.Pages.{LayoutRule, dynamic, group, journal_count, journal_place}
use Rattle.formed.specs.Formed.{chunk, slot_at, sized, narrow, head_right, entry_right, pool_right, noted, journal_right, contents, well_formed}
use Rattle.formed.specs.WellFormed.{holder, slot_byte, Lengths, NotedRight}
use Rattle.formed.proofs.Bools.{or_left}
use Rattle.formed.proofs.Sizes.{sized_test, holders_long, narrow_test}
use Rattle.formed.proofs.Pages.{layout_test, page_test}
use Rattle.formed.proofs.Slots.{zero_chunk, zero_tail, held_test, slot_pooled, slot_held}
use Rattle.formed.proofs.Noted.{noted_test}

-- an entry past the fixed ones, in use with the number x, lists a page that is dynamic and below the dynamic length
pub record PageRight (w : List ℕ) (x : ℕ) : Type 0 where
  pub width : x ≤ 4294967296
  pub kind : dynamic (layout_of w) (x - 1) ≡ true
  pub below : group (layout_of w) (x - 1) < dynamic_length w

-- slot s, held by the key k: its entry is in use, its chunk number not above the last, and the last chunk zero past byte 30
pub record SlotRight (m : Mem) (s k : ℕ) : Type 0 where
  pub entry : 0 < get_or (entries m) (key_entry k) 0
  pub top : key_chunk k ≤ 16777216
  pub tail : key_chunk k ≡ 16777216 → (r : ℕ) → 31 ≤ r → r < 256 → slot_byte m s r ≡ 0

pub record Facts (m : Mem) : Type 0 where
  pub lengths : Lengths m
  pub layout : LayoutRule (layout_of m.words)
  pub layout_width : (i : ℕ) → i < 6 → get_or m.words i 0 ≤ 4294967295
  pub length_width : dynamic_length m.words ≤ 4294967295
  pub slots : indexed (holders m) (slot_order m) (held_now m.words) ≡ true
  pub pages : indexed (entries m) (page_order m) (in_use m.words) ≡ true
  pub fixed_four : (e : ℕ) → e < 4 → get_or (entries m) e 0 ≡ get_or m.words e 0 + 1
  pub listed : (e : ℕ) → 4 ≤ e → 0 < get_or (entries m) e 0 → PageRight m.words (get_or (entries m) e 0)
  pub pooled : (s : ℕ) → s < slot_count m.words → holder m s ≡ 0 → (r : ℕ) → r < 256 → slot_byte m s r ≡ 0
  pub held : (s : ℕ) → 0 < holder m s → SlotRight m s (holder m s)
  pub pool : Pooling m.keys m.words
  pub in_capacity : (j : ℕ) → j < journal_count → journal_length m.words j ≤ journal_words m.words
  pub notes : (j i : ℕ) → j < journal_count → i < journal_length m.words j → NotedRight m j i

-- they pass the test
module _ (m : Mem) (f : Facts m) where
  entry_pass : (e : ℕ) → e < length (entries m) → entry_right m.words (entries m) e ≡ true
  unfolding entry_right
  entry_pass e l =
      ⊎_elim
      (λ (lt : e < 4). rw (lt-ltb e 4 lt) (eq-eqb (get_or (entries m) e 0) (get_or m.words e 0 + 1) (f.fixed_four e lt)))
      (λ (ge : 4 ≤ e).
      rw (le-ltb e 4 ge)
      (⊎_elim
      (λ (z : get_or (entries m) e 0 ≡ 0). or_left (eqb (get_or (entries m) e 0) 0) _ (eq-eqb (get_or (entries m) e 0) 0 z))
      (λ (n : get_or (entries m) e 0 ≡ 0 → ⊥).
      let q : get_or (entries m) e 0 ≡ get_or (entries m) e 0 - 1 + 1 = omega arith in
      let h = f.listed e ge (omega arith) in
      let w = h.width in
      page_test (layout_of m.words) (dynamic_length m.words) (get_or (entries m) e 0) (get_or (entries m) e 0 - 1) q (omega arith) h.kind h.below)
      (same_or_not (get_or (entries m) e 0) 0)))
      (lt_or_ge e 4)

  slot_pass : (s : ℕ) → s < length (holders m) → slot_at (entries m) (holders m) (chunk_bytes m) s ≡ true
  slot_pass s l =
      let h = holders_long m f.lengths in
      ⊎_elim
      (λ (z : holder m s ≡ 0). sym (slot_pooled (entries m) (holder m s) (chunk (chunk_bytes m) s) z) ∙ zero_chunk (chunk_bytes m) s (f.pooled s (omega arith) z))
      (λ (n : holder m s ≡ 0 → ⊥).
      let r = f.held s (omega arith) in
      sym (slot_held (entries m) (holder m s) (chunk (chunk_bytes m) s) n)
      ∙ held_test (entries m) (holder m s) (chunk (chunk_bytes m) s) r.entry r.top (λ e. zero_tail (chunk_bytes m) s (r.tail e)))
      (same_or_not (holder m s) 0)

  pool_pass : pool_right (holders m) m.words ≡ true
  unfolding pool_right
  pool_pass =
      let n = pool_length (slot_count m.words) in
      let t = pool_skip m.words in
      and_both (all (λ i. eqb (pool_word m.words i) (free_word (holders m) i)) n) _
      (all_intro (λ i. eqb (pool_word m.words i) (free_word (holders m) i)) n (λ i l. eq-eqb (pool_word m.words i) (free_word (holders m) i) (f.pool.bits i l)))
      (and_both (leb t n) _ (le-leb t n f.pool.part.skip)
      (all_intro (λ i. eqb (pool_word m.words i) 0) t (λ i l. eq-eqb (pool_word m.words i) 0 (f.pool.part.skipped i l))))

  journal_pass : (j : ℕ) → j < journal_count → journal_right (holders m) m.words j ≡ true
  unfolding journal_right
  journal_pass j l =
      let c = f.in_capacity j l in
      and_both (leb (journal_length m.words j) (journal_words m.words)) _ (le-leb (journal_length m.words j) (journal_words m.words) c)
      (all_intro (noted (holders m) (take (3 * journal_words m.words) (drop (16 + 3 * journal_words m.words * j) m.words)) (key_of (journal_place j) 0)) (journal_length m.words j)
      (λ i h. noted_test m j i (omega arith) (f.notes j i l h)))

  pub facts_pass : well_formed m ≡ true
  unfolding well_formed head_right contents
  facts_pass =
      and_both (sized (length m.bytes) (length m.keys) (length m.order) m.words) _ (sized_test m f.lengths)
      (and_both (narrow m.words && not (bad_layout (layout_of m.words))) _
      (and_both (narrow m.words) (not (bad_layout (layout_of m.words))) (narrow_test m.words f.layout_width f.length_width) (layout_test (layout_of m.words) f.layout))
      (and_both (indexed (holders m) (slot_order m) (held_now m.words) && indexed (entries m) (page_order m) (in_use m.words)) _
      (and_both (indexed (holders m) (slot_order m) (held_now m.words)) (indexed (entries m) (page_order m) (in_use m.words)) f.slots f.pages)
      (and_both (all (entry_right m.words (entries m)) (length (entries m))) _ (all_intro (entry_right m.words (entries m)) (length (entries m)) entry_pass)
      (and_both (all (slot_at (entries m) (holders m) (chunk_bytes m)) (length (holders m))) _ (all_intro (slot_at (entries m) (holders m) (chunk_bytes m)) (length (holders m)) slot_pass)
      (and_both (pool_right (holders m) m.words) _ pool_pass
      (all_intro (journal_right (holders m) m.words) journal_count journal_pass))))))
