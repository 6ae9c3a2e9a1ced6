-- Slots and entries against what they stand for, in a well-formed memory.
-- Assumes nothing.
use mathlib.Core.Path.{◌≡◌, refl, sym, ap, ◌∙◌}
use mathlib.Core.Logic.{◌⊎◌, inl, inr, ⊎_elim}
use mathlib.Core.Bool.{true, false, false≢true}
use Prim.Native.Nat.{ℕ, ◌+◌, ◌*◌, ◌/◌, ◌%◌, ◌≤◌, ◌<◌}
use native.Mathlib.Omega.{arith}
use lib.Dec.{ltb}
use lib.ListN.{length, get_or, get_or-eq_default}
use borrow.Author.Tests.{lt-ltb, le-leb, lt-leb, ltb-true, ltb-false}
use Rattle.page_ids.specs.Decode.{Page, none, page, decoded, is_none, is_dynamic, is_fixed}
use Rattle.store.specs.Keys.{key_of, key_entry, key_chunk}
use Rattle.index.specs.Index.{seek, free_count}
use Rattle.index.proofs.Logic.{lt_or_ge}
use Rattle.index.proofs.Counts.{used_free}
use Rattle.index.proofs.Orders.{index_count}
use Rattle.index.proofs.Places.{seek_hit, seek_upto}
use Rattle.store.specs.Mem.{Mem, layout_of, slot_count, page_count, held_now, in_use, holders, entries, slot_order, page_order, chunk_bytes}
use Rattle.store.proofs.Pool.{pool_free}
use Rattle.formed.specs.Pages.{fixed, dynamic}
use Rattle.formed.specs.Parts.{entry_of, allocated, entries_left, slot_of_chunk, holds, pool, byte_at}
use Rattle.formed.specs.WellFormed.{holder, slot_byte, HeldAt, HeldOnce, PooledOnce, ListedPage, WellFormed}
use Rattle.formed.proofs.Bools.{refute}
use Rattle.formed.proofs.Sizes.{holders_long, entries_long, chunks_long}
use Rattle.formed.proofs.Pages.{is_fixed_lem, fixed_at}
use Rattle.formed.proofs.Keys.{le_or_gt, in_table, seek_is, key_entry_lem, key_chunk_lem, key_again}
use Rattle.formed.proofs.Meaning.{slots_index, pages_index, slot_once, page_once, pooling_of}

no_kind : (d : Page) → is_none d ≡ true → (is_fixed d ≡ false) × (is_dynamic d ≡ false)
no_kind none u = (refl, refl)
no_kind (page k g) u = absurd (false≢true u)

-- the chunks
module _ (m : Mem) (p k : ℕ) where
  pub slot_near : k ≤ 16777216 → slot_of_chunk m p k ≡ seek (holders m) (key_of (entry_of m p) k)
  unfolding slot_of_chunk
  slot_near l = rw (le-leb k 16777216 l)

  pub slot_far : 16777216 < k → slot_of_chunk m p k ≡ slot_count m.words
  unfolding slot_of_chunk
  slot_far l = rw (lt-leb k 16777216 l)

-- up to the last address the view is a look into the table
pub holds_near : (m : Mem) (p k : ℕ) → k ≤ 16777216 → holds m p k ≡ ltb (seek (holders m) (key_of (entry_of m p) k)) (slot_count m.words)
unfolding holds
holds_near m p k l = rw (slot_near m p k l)

module _ (m : Mem) (f : WellFormed m) where
  -- the bits set are those of the slots that hold nothing
  pub pool_count : pool m ≡ free_count (holders m)
  pool_count = pool_free m.keys m.words (pooling_of m f) (let h = f.lengths.in_keys in omega arith)

  pub pool_is : pool m + held_now m.words ≡ slot_count m.words
  pool_is =
      let p = pool_count in
      let a = used_free (holders m) in
      let b = index_count (holders m) (slot_order m) (held_now m.words) (slots_index m f) in
      let c = holders_long m f.lengths in
      omega arith

  pub left_is : entries_left m + in_use m.words ≡ page_count m.words + 4
  left_is =
      let a = used_free (entries m) in
      let b = index_count (entries m) (page_order m) (in_use m.words) (pages_index m f) in
      let c = entries_long m f.lengths in
      omega arith

  -- a place that is held has its slot
  pub held_slot : (s p k : ℕ) → HeldAt m s p k → slot_of_chunk m p k ≡ s
  held_slot s p k h =
      let e : entry_of m p ≡ key_entry (holder m s) = seek_is (entries m) (p + 1) (key_entry (holder m s)) (page_once m f) (omega arith) h.page in
      let q : key_of (entry_of m p) k ≡ holder m s = ap (λ (x : ℕ). key_of x k) e ∙ ap (key_of (key_entry (holder m s))) (sym h.chunk) ∙ key_again (holder m s) h.held in
      slot_near m p k (f.none_above s p k h) ∙ seek_is (holders m) (key_of (entry_of m p) k) s (slot_once m f) (omega arith) (sym q)

  pub held_holds : (s p k : ℕ) → HeldAt m s p k → holds m p k ≡ true
  unfolding holds
  held_holds s p k h =
      let e = held_slot s p k h in
      let i = in_table (holders m) s h.held in
      let l = holders_long m f.lengths in
      lt-ltb (slot_of_chunk m p k) (slot_count m.words) (omega arith)

  pub holds_held : (p k : ℕ) → holds m p k ≡ true → HeldAt m (slot_of_chunk m p k) p k
  unfolding holds
  holds_held p k h =
      let lt = ltb-true (slot_of_chunk m p k) (slot_count m.words) h in
      let len = holders_long m f.lengths in
      ⊎_elim
      (λ (top : k ≤ 16777216).
      let e = slot_near m p k top in
      let v : seek (holders m) (key_of (entry_of m p) k) < length (holders m) = omega arith in
      let hit : holder m (slot_of_chunk m p k) ≡ key_of (entry_of m p) k = ap (holder m) e ∙ seek_hit (holders m) (key_of (entry_of m p) k) v in
      let pos : 0 < holder m (slot_of_chunk m p k) = omega arith in
      let n : key_entry (holder m (slot_of_chunk m p k)) ≡ entry_of m p = ap key_entry hit ∙ key_entry_lem (entry_of m p) k (omega arith) in
      let g : 0 < get_or (entries m) (key_entry (holder m (slot_of_chunk m p k))) 0 = ⊎_elim (λ (o : HeldOnce m (slot_of_chunk m p k)). let w = o.place.there.page in omega arith) (λ (o : PooledOnce m (slot_of_chunk m p k)). absurd (let z = o.unheld in omega arith)) (f.each_once (slot_of_chunk m p k) lt) in
      let i : key_entry (holder m (slot_of_chunk m p k)) < length (entries m) = in_table (entries m) (key_entry (holder m (slot_of_chunk m p k))) g in
      record {
        held = pos;
        page = ap (λ (x : ℕ). get_or (entries m) x 0) n ∙ seek_hit (entries m) (p + 1) (omega arith);
        chunk = ap key_chunk hit ∙ key_chunk_lem (entry_of m p) k (omega arith);
      })
      (λ (far : 16777216 < k). let e = slot_far m p k far in absurd (omega arith))
      (le_or_gt k 16777216)

  -- its bytes are the slot's; where no slot holds the chunk, they are zero
  pub held_byte : (s p k r : ℕ) → HeldAt m s p k → r < 256 → byte_at m p (256 * k + r) ≡ slot_byte m s r
  unfolding byte_at
  held_byte s p k r h l =
      let a : (256 * k + r) / 256 ≡ k = omega arith in
      let b : (256 * k + r) % 256 ≡ r = omega arith in
      rw (a, b, held_slot s p k h)

  pub unheld_byte : (p a : ℕ) → holds m p (a / 256) ≡ false → byte_at m p a ≡ 0
  unfolding byte_at holds
  unheld_byte p a h =
      let l = ltb-false (slot_of_chunk m p (a / 256)) (slot_count m.words) h in
      let b = chunks_long m f.lengths in
      get_or-eq_default (chunk_bytes m) 0 (omega arith)

  -- the pages: allocated are the fixed and the listed
  pub allocated_is : (p : ℕ) → allocated m p ≡ true → (fixed (layout_of m.words) p ≡ true) ⊎ ListedPage m p
  unfolding allocated
  allocated_is p h =
      let l = ltb-true (entry_of m p) (length (entries m)) h in
      let q = seek_hit (entries m) (p + 1) l in
      ⊎_elim
      (λ (low : entry_of m p < 4). let v = f.encoded.fixed_four (entry_of m p) low in inl (is_fixed_lem (layout_of m.words) p (entry_of m p) low (omega arith)))
      (λ (high : 4 ≤ entry_of m p). inr (record { entry = entry_of m p; there = record { past_fixed = high; there = q } }))
      (lt_or_ge (entry_of m p) 4)

  pub in_table_allocated : (e p : ℕ) → get_or (entries m) e 0 ≡ p + 1 → allocated m p ≡ true
  unfolding allocated
  in_table_allocated e p q =
      let i = in_table (entries m) e (omega arith) in
      let u = seek_upto (entries m) (p + 1) e i q in
      lt-ltb (entry_of m p) (length (entries m)) (omega arith)

  pub listed_allocated : (p : ℕ) → ListedPage m p → allocated m p ≡ true
  listed_allocated p h = in_table_allocated h.entry p h.there.there

  pub fixed_allocated : (p : ℕ) → fixed (layout_of m.words) p ≡ true → allocated m p ≡ true
  fixed_allocated p h =
      let w = fixed_at (layout_of m.words) p h in
      let q = w.there in
      let v = f.encoded.fixed_four w.place w.small in
      in_table_allocated w.place p (omega arith)

  -- a page that is not allocated holds nothing
  pub unlisted_holds : (p k : ℕ) → allocated m p ≡ false → holds m p k ≡ false
  unlisted_holds p k n =
      sym (refute (holds m p k) (λ h.
      ⊎_elim
      (λ (x : fixed (layout_of m.words) p ≡ true). false≢true (sym n ∙ fixed_allocated p x))
      (λ (x : ListedPage m p). false≢true (sym n ∙ listed_allocated p x))
      (f.holders_known (slot_of_chunk m p k) p k (holds_held p k h))))

  -- and reads zero at every address
  pub unlisted_byte : (p a : ℕ) → allocated m p ≡ false → byte_at m p a ≡ 0
  unlisted_byte p a n = unheld_byte p a (unlisted_holds p (a / 256) n)

  -- an undecodable page is not allocated: it is neither fixed nor dynamic
  pub undecodable_unlisted : (p : ℕ) → is_none (decoded (layout_of m.words) p) ≡ true → allocated m p ≡ false
  unfolding fixed dynamic
  undecodable_unlisted p u =
      sym (refute (allocated m p) (λ h.
      ⊎_elim
      (λ (x : fixed (layout_of m.words) p ≡ true). false≢true (sym (no_kind (decoded (layout_of m.words) p) u).0 ∙ x))
      (λ (x : ListedPage m p). false≢true (sym (no_kind (decoded (layout_of m.words) p) u).1 ∙ f.pages_dynamic x.entry p x.there))
      (allocated_is p h)))
