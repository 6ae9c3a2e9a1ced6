-- The test of a well-formed memory means 01's sentence, and 01's sentence passes the test.
-- Assumes nothing.
use mathlib.Core.Path.{◌≡◌, refl, sym, ap, ◌∙◌}
use mathlib.Core.Logic.{◌⊎◌, inl, inr, ⊎_elim}
use mathlib.Core.Bool.{Bool, true, false, not, ◌&&◌, false≢true}
use Prim.Native.Nat.{ℕ, ◌+◌, ◌*◌, ◌-◌, ◌/◌, ◌%◌, ◌^◌, ◌≤◌, ◌<◌}
use native.Mathlib.Omega.{arith}
use lib.Dec.{leb, eqb}
use lib.ListN.{length, get_or, take, drop, get_or-eq_default}
use borrow.Author.Tests.{lt-ltb, le-ltb, le-leb, lt-leb, leb-true, eqb-true}
use Rattle.store.specs.Keys.{key_of, key_entry, key_chunk}
use Rattle.page_ids.specs.Decode.{bad_layout}
use Rattle.index.specs.Index.{all, indexed, seek}
use Rattle.index.proofs.Logic.{and_left, and_right, same_or_not, lt_or_ge}
use Rattle.index.proofs.All.{all_at}
use Rattle.index.proofs.Places.{seek_hit, seek_upto}
use Rattle.index.proofs.Meaning.{index_means, index_test, once}
use Rattle.bits.specs.Bits.{bit_of, free_bit, free_word}
use Rattle.bits.proofs.Free.{free_lt, free_on, free_off, free_none, free_means, free_is}
use Rattle.store.specs.Pool.{Pooling}
use Rattle.store.proofs.Pool.{pool_at, pool_bit}
use Rattle.store.specs.Mem.{Mem, layout_of, slot_count, page_count, journal_words, journal_length, held_now, in_use, dynamic_length, pool_length, pool_word, pool_words, pool_skip, holders, entries, slot_order, page_order, chunk_bytes}
use Rattle.formed.specs.Pages.{LayoutRule, fixed_id, dynamic, group, fixed, journal_count, journal_place, journal_page}
use Rattle.formed.specs.Parts.{entry_of, slot_of_chunk, holds, byte_at, note_address, note_first, note_last}
use Rattle.formed.specs.Formed.{zeros, chunk, slot_at, sized, narrow, head_right, entry_right, pool_right, noted, journal_right, contents, well_formed}
use Rattle.formed.specs.WellFormed.{holder, slot_byte, Pooled, HeldAt, OnePlace, HeldOnce, PooledOnce, ListedAt, ListedPage, Lengths, NotedRight, WellFormed}
use Rattle.formed.proofs.Bools.{refute}
use Rattle.formed.proofs.Sizes.{lengths_are_lem, holders_long, entries_long, chunks_long, width_head, width_length}
use Rattle.formed.proofs.Pages.{layout_rule, fixed_id_lem, is_fixed_lem, place_lt, page_means}
use Rattle.formed.proofs.Keys.{le_or_gt, in_table, seek_is, same_key, key_chunk_lem, key_again}
use Rattle.formed.proofs.Slots.{chunk_zero, tail_zero, held_means, slot_pool, slot_hold}
use Rattle.formed.proofs.Noted.{noted_means}
use Rattle.formed.proofs.Facts.{SlotRight, Facts, facts_pass}

-- ---- THE TEST MEANS THE SENTENCE
module _ (m : Mem) (f : well_formed m ≡ true) where
  abbrev U₁ : Bool
  U₁ = sized (length m.bytes) (length m.keys) (length m.order) m.words

  abbrev U₂ : Bool
  U₂ = head_right m.words

  abbrev X₁ : Bool
  X₁ = indexed (holders m) (slot_order m) (held_now m.words)

  abbrev X₂ : Bool
  X₂ = indexed (entries m) (page_order m) (in_use m.words)

  abbrev T₁ : Bool
  T₁ = all (entry_right m.words (entries m)) (length (entries m))

  abbrev T₂ : Bool
  T₂ = all (slot_at (entries m) (holders m) (chunk_bytes m)) (length (holders m))

  abbrev T₃ : Bool
  T₃ = pool_right (holders m) m.words

  abbrev T₄ : Bool
  T₄ = all (journal_right (holders m) m.words) journal_count

  len : Lengths m
  unfolding well_formed
  len = lengths_are_lem m (and_left U₁ (U₂ && ((X₁ && X₂) && contents m)) f)

  u₂ : U₂ && ((X₁ && X₂) && contents m) ≡ true
  unfolding well_formed
  u₂ = and_right U₁ (U₂ && ((X₁ && X₂) && contents m)) f

  rule : LayoutRule (layout_of m.words)
  unfolding head_right
  rule = layout_rule (layout_of m.words) (and_right (narrow m.words) (not (bad_layout (layout_of m.words))) (and_left U₂ ((X₁ && X₂) && contents m) u₂))

  thin : narrow m.words ≡ true
  unfolding head_right
  thin = and_left (narrow m.words) (not (bad_layout (layout_of m.words))) (and_left U₂ ((X₁ && X₂) && contents m) u₂)

  u₃ : (X₁ && X₂) && contents m ≡ true
  u₃ = and_right U₂ ((X₁ && X₂) && contents m) u₂

  x₁ : X₁ ≡ true
  x₁ = and_left X₁ X₂ (and_left (X₁ && X₂) (contents m) u₃)

  x₂ : X₂ ≡ true
  x₂ = and_right X₁ X₂ (and_left (X₁ && X₂) (contents m) u₃)

  t₁ : T₁ ≡ true
  unfolding contents
  t₁ = and_left T₁ (T₂ && (T₃ && T₄)) (and_right (X₁ && X₂) (contents m) u₃)

  rest : T₂ && (T₃ && T₄) ≡ true
  unfolding contents
  rest = and_right T₁ (T₂ && (T₃ && T₄)) (and_right (X₁ && X₂) (contents m) u₃)

  t₂ : T₂ ≡ true
  t₂ = and_left T₂ (T₃ && T₄) rest

  t₃ : T₃ ≡ true
  t₃ = and_left T₃ T₄ (and_right T₂ (T₃ && T₄) rest)

  t₄ : T₄ ≡ true
  t₄ = and_right T₃ T₄ (and_right T₂ (T₃ && T₄) rest)

  slots_once : (s t : ℕ) → 0 < holder m s → holder m s ≡ holder m t → s ≡ t
  slots_once = once (holders m) (slot_order m) (held_now m.words) x₁

  pages_once : (e g : ℕ) → 0 < get_or (entries m) e 0 → get_or (entries m) e 0 ≡ get_or (entries m) g 0 → e ≡ g
  pages_once = once (entries m) (page_order m) (in_use m.words) x₂

  hs_long : length (holders m) ≡ slot_count m.words
  hs_long = holders_long m len

  es_long : length (entries m) ≡ page_count m.words + 4
  es_long = entries_long m len

  bs_long : length (chunk_bytes m) ≡ 256 * slot_count m.words
  bs_long = chunks_long m len

  -- the slots
  slot_right_lem : (s : ℕ) → s < slot_count m.words → slot_at (entries m) (holders m) (chunk_bytes m) s ≡ true
  slot_right_lem s l = all_at (slot_at (entries m) (holders m) (chunk_bytes m)) (length (holders m)) s t₂ (let h = hs_long in omega arith)

  held_in : (s : ℕ) → 0 < holder m s → s < slot_count m.words
  held_in s p = let l = in_table (holders m) s p in let h = hs_long in omega arith

  facts : (s : ℕ) → 0 < holder m s → (0 < get_or (entries m) (key_entry (holder m s)) 0) × (key_chunk (holder m s) ≤ 16777216) × (key_chunk (holder m s) ≡ 16777216 → zeros (drop 31 (chunk (chunk_bytes m) s)) ≡ true)
  facts s p = held_means (entries m) (holder m s) (chunk (chunk_bytes m) s) (slot_hold (entries m) (holders m) (chunk_bytes m) s (slot_right_lem s (held_in s p)) p)

  -- the pool
  abbrev P₁ : ℕ → Bool
  P₁ i = eqb (pool_word m.words i) (free_word (holders m) i)

  abbrev P₂ : ℕ → Bool
  P₂ i = eqb (pool_word m.words i) 0

  abbrev n : ℕ
  n = pool_length (slot_count m.words)

  abbrev t : ℕ
  t = pool_skip m.words

  pool_rest : leb t n && all P₂ t ≡ true
  unfolding pool_right
  pool_rest = and_right (all P₁ n) (leb t n && all P₂ t) t₃

  pooling : Pooling m.keys m.words
  unfolding pool_right
  pooling = record {
    part = record {
      few = len.chunks_hi;
      room = let h = len.in_words in omega arith;
      skip = leb-true t n (and_left (leb t n) (all P₂ t) pool_rest);
      skipped = λ i l. eqb-true (pool_word m.words i) 0 (all_at P₂ t i (and_right (leb t n) (all P₂ t) pool_rest) l);
    };
    bits = λ i l. eqb-true (pool_word m.words i) (free_word (holders m) i) (all_at P₁ n i (and_left (all P₁ n) (leb t n && all P₂ t) t₃) l);
  }

  in_keys : slot_count m.words ≤ length m.keys
  in_keys = let h = len.in_keys in omega arith

  -- a slot is pooled exactly where it holds nothing
  pooled_unheld : (s : ℕ) → Pooled m s → (s < slot_count m.words) × (holder m s ≡ 0)
  pooled_unheld s b =
      let h = free_means (holders m) s (sym (pool_bit m.keys m.words pooling in_keys s) ∙ b) in
      let l = hs_long in
      let i = h.0 in
      (omega arith, h.1)

  unheld_pooled : (s : ℕ) → s < slot_count m.words → holder m s ≡ 0 → Pooled m s
  unheld_pooled s l z = pool_bit m.keys m.words pooling in_keys s ∙ free_on (holders m) s (let h = hs_long in omega arith) z

  each : (s : ℕ) → s < slot_count m.words → HeldOnce m s ⊎ PooledOnce m s
  each s l =
      ⊎_elim
      (λ (z : holder m s ≡ 0). inr (record { pooled = unheld_pooled s l z; unheld = z }))
      (λ (n : holder m s ≡ 0 → ⊥).
      let p : 0 < holder m s = omega arith in
      let g = (facts s p).0 in
      inl (record {
        place = record {
          page = get_or (entries m) (key_entry (holder m s)) 0 - 1;
          chunk = key_chunk (holder m s);
          there = record { held = p; page = omega arith; chunk = refl };
          only = λ q k h. (let e = h.page in omega arith, sym h.chunk);
        };
        not_pooled = λ b. n (pooled_unheld s b).1;
      }))
      (same_or_not (holder m s) 0)

  two : (s t p k : ℕ) → HeldAt m s p k → HeldAt m t p k → s ≡ t
  two s t p k a b =
      let e : key_entry (holder m s) ≡ key_entry (holder m t) = pages_once (key_entry (holder m s)) (key_entry (holder m t)) (facts s a.held).0 (a.page ∙ sym b.page) in
      slots_once s t a.held (same_key (holder m s) (holder m t) a.held b.held e (a.chunk ∙ sym b.chunk))

  past : (p a : ℕ) → 4294967326 < a → byte_at m p a ≡ 0
  unfolding byte_at slot_of_chunk
  past p a lo =
      ⊎_elim
      (λ (top : a / 256 ≤ 16777216).
      let t : a / 256 ≡ 16777216 = omega arith in
      rw (le-leb (a / 256) 16777216 top)
      (⊎_elim
      (λ (l : seek (holders m) (key_of (entry_of m p) (a / 256)) < length (holders m)).
      let hit = seek_hit (holders m) (key_of (entry_of m p) (a / 256)) l in
      let pos : 0 < holder m (seek (holders m) (key_of (entry_of m p) (a / 256))) = omega arith in
      let c : key_chunk (holder m (seek (holders m) (key_of (entry_of m p) (a / 256)))) ≡ 16777216 = ap key_chunk hit ∙ key_chunk_lem (entry_of m p) (a / 256) (omega arith) ∙ t in
      tail_zero (chunk_bytes m) (seek (holders m) (key_of (entry_of m p) (a / 256))) ((facts (seek (holders m) (key_of (entry_of m p) (a / 256))) pos).2 c) (a % 256) (omega arith) (omega arith))
      (λ (l : length (holders m) ≤ seek (holders m) (key_of (entry_of m p) (a / 256))).
      let h = hs_long in
      let b = bs_long in
      get_or-eq_default (chunk_bytes m) 0 (omega arith))
      (lt_or_ge (seek (holders m) (key_of (entry_of m p) (a / 256))) (length (holders m)))))
      (λ (far : 16777216 < a / 256).
      let b = bs_long in
      rw (lt-leb (a / 256) 16777216 far) (get_or-eq_default (chunk_bytes m) 0 (omega arith)))
      (le_or_gt (a / 256) 16777216)

  clean : (s r : ℕ) → s < slot_count m.words → Pooled m s → r < 256 → slot_byte m s r ≡ 0
  clean s r l z h = chunk_zero (chunk_bytes m) s (slot_pool (entries m) (holders m) (chunk_bytes m) s (slot_right_lem s l) (pooled_unheld s z).1) r h

  -- the pages
  entry_right_lem : (e : ℕ) → e < page_count m.words + 4 → entry_right m.words (entries m) e ≡ true
  entry_right_lem e l = all_at (entry_right m.words (entries m)) (length (entries m)) e t₁ (let h = es_long in omega arith)

  four : (e : ℕ) → e < 4 → get_or (entries m) e 0 ≡ fixed_id (layout_of m.words) e + 1
  unfolding entry_right
  four e l =
      let r = entry_right_lem e (omega arith) in
      let q : eqb (get_or (entries m) e 0) (get_or m.words e 0 + 1) ≡ true = rw (lt-ltb e 4 l) at r in
      let i = fixed_id_lem m.words e l in
      let v = eqb-true (get_or (entries m) e 0) (get_or m.words e 0 + 1) q in
      omega arith

  page_facts : (e p : ℕ) → ListedAt m e p → (p ≤ 4294967295) × (dynamic (layout_of m.words) p ≡ true) × (group (layout_of m.words) p < dynamic_length m.words)
  unfolding entry_right
  page_facts e p h =
      let i = in_table (entries m) e (let q = h.there in omega arith) in
      let g = es_long in
      let r = entry_right_lem e (omega arith) in
      page_means (layout_of m.words) (dynamic_length m.words) (get_or (entries m) e 0) p h.there (rw (le-ltb e 4 h.past_fixed) at r)

  known : (s p k : ℕ) → HeldAt m s p k → (fixed (layout_of m.words) p ≡ true) ⊎ ListedPage m p
  known s p k h =
      ⊎_elim
      (λ (l : key_entry (holder m s) < 4). let q = four (key_entry (holder m s)) l in let g = h.page in inl (is_fixed_lem (layout_of m.words) p (key_entry (holder m s)) l (omega arith)))
      (λ (l : 4 ≤ key_entry (holder m s)). inr (record { entry = key_entry (holder m s); there = record { past_fixed = l; there = h.page } }))
      (lt_or_ge (key_entry (holder m s)) 4)

  -- the journals
  journal_right_lem : (j : ℕ) → j < journal_count → journal_right (holders m) m.words j ≡ true
  journal_right_lem j l = all_at (journal_right (holders m) m.words) journal_count j t₄ l

  abbrev J₂ : ℕ → Bool
  J₂ j = all (noted (holders m) (take (3 * journal_words m.words) (drop (16 + 3 * journal_words m.words * j) m.words)) (key_of (journal_place j) 0)) (journal_length m.words j)

  room : (j : ℕ) → j < journal_count → journal_length m.words j ≤ journal_words m.words
  unfolding journal_right
  room j l = leb-true (journal_length m.words j) (journal_words m.words) (and_left (leb (journal_length m.words j) (journal_words m.words)) (J₂ j) (journal_right_lem j l))

  note : (j i : ℕ) → j < journal_count → i < journal_length m.words j → NotedRight m j i
  unfolding journal_right
  note j i l h =
      let c = room j l in
      noted_means m j i (omega arith)
      (all_at (noted (holders m) (take (3 * journal_words m.words) (drop (16 + 3 * journal_words m.words * j) m.words)) (key_of (journal_place j) 0)) (journal_length m.words j) i
      (and_right (leb (journal_length m.words j) (journal_words m.words)) (J₂ j) (journal_right_lem j l)) h)

  held_by : (j k s : ℕ) → j < journal_count → k ≤ 16777216 → holder m s ≡ key_of (journal_place j) k → holds m (journal_page (layout_of m.words) j) k ≡ true
  unfolding holds slot_of_chunk
  held_by j k s l top e =
      let e₁ : entry_of m (journal_page (layout_of m.words) j) ≡ journal_place j = seek_is (entries m) (journal_page (layout_of m.words) j + 1) (journal_place j) pages_once (omega arith) (four (journal_place j) (place_lt j l)) in
      let i = held_in s (omega arith) in
      let h = hs_long in
      let u = seek_upto (holders m) (key_of (journal_place j) k) s (omega arith) e in
      rw (le-leb k 16777216 top, e₁) (lt-ltb (seek (holders m) (key_of (journal_place j) k)) (slot_count m.words) (omega arith))

  word : (j i x : ℕ) → j < journal_count → i < journal_length m.words j → x < 32 → holds m (journal_page (layout_of m.words) j) ((note_address m j i + x) / 256) ≡ true
  word j i x l h lx =
      let n = note j i l h in
      let small = n.address in
      let top : (note_address m j i + x) / 256 ≤ 16777216 = omega arith in
      ⊎_elim
      (λ (e : (note_address m j i + x) / 256 ≡ note_address m j i / 256). held_by j ((note_address m j i + x) / 256) (note_first m j i) l top (n.first ∙ ap (key_of (journal_place j)) (sym e)))
      (λ (ne : (note_address m j i + x) / 256 ≡ note_address m j i / 256 → ⊥).
      let e : (note_address m j i + 31) / 256 ≡ (note_address m j i + x) / 256 = omega arith in
      held_by j ((note_address m j i + x) / 256) (note_last m j i) l top (n.last ∙ ap (key_of (journal_place j)) e))
      (same_or_not ((note_address m j i + x) / 256) (note_address m j i / 256))

  pub well_formed_means : WellFormed m
  well_formed_means = record {
    lengths = len;
    layout = rule;
    each_once = each;
    none_past = λ s l b. let i = (pooled_unheld s b).0 in omega arith;
    no_two = two;
    none_above = λ s p k h. let l = (facts s h.held).1 in let e = h.chunk in omega arith;
    zero_past = past;
    pooled_zero = clean;
    pages_distinct = λ e g p a b. pages_once e g (let q = a.there in omega arith) (a.there ∙ sym b.there);
    pages_dynamic = λ e p h. (page_facts e p h).1;
    pages_below = λ e p h. (page_facts e p h).2;
    holders_known = known;
    in_capacity = room;
    words_held = word;
    encoded = record {
      slots = index_means (holders m) (slot_order m) (held_now m.words) x₁;
      pages = index_means (entries m) (page_order m) (in_use m.words) x₂;
      fixed_four = four;
      notes = note;
      layout_width = width_head m.words thin;
      length_width = width_length m.words thin;
      page_width = λ e p h. (page_facts e p h).0;
      pool_width = λ i l. let e = pooling.bits i l in let h = free_lt (holders m) (64 * i) 64 in omega arith;
      pool_skip_lem = pooling.part.skip;
      pool_skipped = pooling.part.skipped;
    };
  }

-- ---- THE SENTENCE PASSES THE TEST
module _ (m : Mem) (f : WellFormed m) where
  pub slots_index : indexed (holders m) (slot_order m) (held_now m.words) ≡ true
  slots_index = index_test (holders m) (slot_order m) (held_now m.words) f.encoded.slots

  pub pages_index : indexed (entries m) (page_order m) (in_use m.words) ≡ true
  pages_index = index_test (entries m) (page_order m) (in_use m.words) f.encoded.pages

  pub slot_once : (s t : ℕ) → 0 < holder m s → holder m s ≡ holder m t → s ≡ t
  slot_once = once (holders m) (slot_order m) (held_now m.words) slots_index

  pub page_once : (e g : ℕ) → 0 < get_or (entries m) e 0 → get_or (entries m) e 0 ≡ get_or (entries m) g 0 → e ≡ g
  page_once = once (entries m) (page_order m) (in_use m.words) pages_index

  -- the slots
  module _ (s : ℕ) (p : 0 < holder m s) (o : OnePlace m s) where
    entry_is : entry_of m o.page ≡ key_entry (holder m s)
    entry_is = seek_is (entries m) (o.page + 1) (key_entry (holder m s)) page_once (omega arith) o.there.page

    slot_is : key_chunk (holder m s) ≡ 16777216 → (r : ℕ) → r < 256 → slot_of_chunk m o.page ((4294967296 + r) / 256) ≡ s
    unfolding slot_of_chunk
    slot_is e r l =
        let c : (4294967296 + r) / 256 ≡ key_chunk (holder m s) = omega arith in
        let k : holder m s ≡ key_of (key_entry (holder m s)) (key_chunk (holder m s)) = sym (key_again (holder m s) p) in
        rw (c, le-leb (key_chunk (holder m s)) 16777216 (omega arith), entry_is) (seek_is (holders m) (key_of (key_entry (holder m s)) (key_chunk (holder m s))) s slot_once (omega arith) k)

    tail : key_chunk (holder m s) ≡ 16777216 → (r : ℕ) → 31 ≤ r → r < 256 → slot_byte m s r ≡ 0
    unfolding byte_at
    tail e r lo l =
        let q : (4294967296 + r) % 256 ≡ r = omega arith in
        let z = f.zero_past o.page (4294967296 + r) (omega arith) in
        let i : 256 * s + r ≡ 256 * slot_of_chunk m o.page ((4294967296 + r) / 256) + (4294967296 + r) % 256 = let g = slot_is e r l in omega arith in
        ap (λ (x : ℕ). get_or (chunk_bytes m) x 0) i ∙ z

    held_right_lem : SlotRight m s (holder m s)
    held_right_lem = record {
      entry = let g = o.there.page in omega arith;
      top = f.none_above s o.page (key_chunk (holder m s)) (record { held = p; page = o.there.page; chunk = refl });
      tail = tail;
    }

  slot_right_of : (s : ℕ) → 0 < holder m s → SlotRight m s (holder m s)
  slot_right_of s p =
      let h = holders_long m f.lengths in
      let l = in_table (holders m) s p in
      ⊎_elim (λ (o : HeldOnce m s). held_right_lem s p o.place) (λ (o : PooledOnce m s). absurd (let z = o.unheld in omega arith)) (f.each_once s (omega arith))

  -- the pool: each bit of its words is that of the slot's key
  in_table_keys : slot_count m.words ≤ length m.keys
  in_table_keys = let h = f.lengths.in_keys in omega arith

  no_bit : (s : ℕ) → (Pooled m s → ⊥) → bit_of (pool_words m.words) s ≡ 0
  no_bit s n = let g : bit_of (pool_words m.words) s < 2 = omega arith in omega arith

  bit_is : (s : ℕ) → bit_of (pool_words m.words) s ≡ free_bit (holders m) s
  bit_is s =
      let h = holders_long m f.lengths in
      ⊎_elim
      (λ (l : s < slot_count m.words).
      ⊎_elim
      (λ (o : HeldOnce m s). no_bit s o.not_pooled ∙ sym (free_off (holders m) s o.place.there.held))
      (λ (o : PooledOnce m s). o.pooled ∙ sym (free_on (holders m) s (omega arith) o.unheld))
      (f.each_once s l))
      (λ (l : slot_count m.words ≤ s). no_bit s (f.none_past s l) ∙ sym (free_none (holders m) s (omega arith)))
      (lt_or_ge s (slot_count m.words))

  pub pooling_of : Pooling m.keys m.words
  pooling_of = record {
    part = record {
      few = f.lengths.chunks_hi;
      room = let h = f.lengths.in_words in omega arith;
      skip = f.encoded.pool_skip_lem;
      skipped = f.encoded.pool_skipped;
    };
    bits = λ i l.
        free_is (holders m) (64 * i) 64 (pool_word m.words i) (f.encoded.pool_width i l)
        (λ r lr.
        let q : (64 * i + r) / 64 ≡ i = omega arith in
        let e : (64 * i + r) % 64 ≡ r = omega arith in
        ap (λ (x : ℕ). x / 2 ^ r % 2) (sym (pool_at m.words i)) ∙ sym (rw (q, e)) ∙ bit_is (64 * i + r));
  }

  unheld_pool : (s : ℕ) → s < slot_count m.words → holder m s ≡ 0 → Pooled m s
  unheld_pool s l z = bit_is s ∙ free_on (holders m) s (let h = holders_long m f.lengths in omega arith) z

  -- the facts, each once
  pub facts_of : Facts m
  facts_of = record {
    lengths = f.lengths;
    layout = f.layout;
    layout_width = f.encoded.layout_width;
    length_width = f.encoded.length_width;
    slots = slots_index;
    pages = pages_index;
    fixed_four = λ e l. f.encoded.fixed_four e l ∙ ap (λ (x : ℕ). x + 1) (fixed_id_lem m.words e l);
    listed = λ e ge p.
        let q : get_or (entries m) e 0 ≡ get_or (entries m) e 0 - 1 + 1 = omega arith in
        let h : ListedAt m e (get_or (entries m) e 0 - 1) = record { past_fixed = ge; there = q } in
        record { width = let w = f.encoded.page_width e (get_or (entries m) e 0 - 1) h in omega arith; kind = f.pages_dynamic e (get_or (entries m) e 0 - 1) h; below = f.pages_below e (get_or (entries m) e 0 - 1) h };
    pooled = λ s l z r lr. f.pooled_zero s r l (unheld_pool s l z) lr;
    held = slot_right_of;
    pool = pooling_of;
    in_capacity = f.in_capacity;
    notes = f.encoded.notes;
  }

  pub well_formed_passes : well_formed m ≡ true
  well_formed_passes = facts_pass m facts_of

-- a memory with these facts is well formed
pub formed_by : (m : Mem) → Facts m → WellFormed m
formed_by m f = well_formed_means m (facts_pass m f)

-- ---- REFUSAL 3 is that the sentence does not hold
pub ill_formed : (m : Mem) → (WellFormed m → ⊥) → well_formed m ≡ false
ill_formed m n = sym (refute (well_formed m) (λ e. n (well_formed_means m e)))

pub ill_means : (m : Mem) → well_formed m ≡ false → WellFormed m → ⊥
ill_means m e f = false≢true (sym e ∙ well_formed_passes m f)
