-- Two laws of every well-formed memory: each slot is in the pool or holds the chunk of a pair of page and chunk number, and each entry past
-- those of the fixed pages is left or has an allocated dynamic page.
-- Assumes nothing.
use mathlib.Core.Path.{◌≡◌, refl, sym, ap, ◌∙◌}
use mathlib.Core.Logic.{⊎_elim}
use mathlib.Core.List.{List}
use mathlib.Core.Bool.{Bool, true, false, ◌&&◌, false≢true}
use Prim.Native.Nat.{ℕ, ◌+◌, ◌*◌, ◌-◌, ◌/◌, ◌%◌, ◌≤◌, ◌<◌}
use native.Mathlib.Omega.{arith}
use lib.ListN.{get_or, drop}
use lib.Seq.{get_or-drop}
use borrow.Author.Tests.{le-ltb, leb-true}
use Rattle.store.specs.Keys.{key_of, key_entry, key_chunk}
use Rattle.page_ids.specs.Decode.{Page, none, page, decoded, is_dynamic, is_fixed}
use Rattle.page_ids.specs.declared.Layout.{Layout}
use Rattle.index.specs.Index.{used_count}
use Rattle.index.proofs.Logic.{and_left, and_right, and_both}
use Rattle.index.proofs.Counts.{count_held, used_free}
use Rattle.store.specs.Mem.{Mem, layout_of, slot_count, page_count, holders, entries}
use Rattle.formed.specs.Pages.{fixed, dynamic}
use Rattle.formed.specs.Parts.{entry_of, allocated, entries_left, slot_of_chunk, holds, pool}
use Rattle.formed.specs.WellFormed.{holder, HeldAt, OnePlace, HeldOnce, PooledOnce, ListedAt, ListedPage, WellFormed}
use Rattle.formed.proofs.Sizes.{holders_long, entries_long}
use Rattle.formed.proofs.Pages.{fixed_id_lem, fixed_at}
use Rattle.formed.proofs.Keys.{in_table, seek_is, key_again}
use Rattle.formed.proofs.Meaning.{slot_once, page_once}
use Rattle.formed.proofs.Sense.{pool_count, held_holds, holds_held, allocated_is, listed_allocated}
use Rattle.view.specs.Steps.{count, pairs}
use Rattle.view.proofs.Counting.{Stands, Numbered, used_is}

-- a fixed page is not dynamic
pub fixed_only : (l : Layout) (p : ℕ) → fixed l p ≡ true → dynamic l p ≡ false
unfolding fixed dynamic
fixed_only l p = go (decoded l p)
  where
    go : (d : Page) → is_fixed d ≡ true → is_dynamic d ≡ false
    go none e = refl
    go (page kind group) e = le-ltb kind 3 (leb-true 3 kind e)

module _ (m : Mem) (f : WellFormed m) where
  -- ---- slots
  -- the key of a chunk that is held is its slot's
  held_key : (s p k : ℕ) → HeldAt m s p k → key_of (entry_of m p) k ≡ holder m s
  held_key s p k h =
      let e : entry_of m p ≡ key_entry (holder m s) = seek_is (entries m) (p + 1) (key_entry (holder m s)) (page_once m f) (omega arith) h.page in
      ap (λ (x : ℕ). key_of x k) e ∙ ap (key_of (key_entry (holder m s))) (sym h.chunk) ∙ key_again (holder m s) h.held

  -- a page that holds a chunk has an id of 32 bits
  page_small : (s p k : ℕ) → HeldAt m s p k → p ≤ 4294967295
  page_small s p k h =
      ⊎_elim
      (λ (y : fixed (layout_of m.words) p ≡ true).
      let w = fixed_at (layout_of m.words) p y in
      let small = w.small in
      let e = w.there in
      let i = fixed_id_lem m.words w.place small in
      let b = f.encoded.layout_width w.place (omega arith) in
      omega arith)
      (λ (w : ListedPage m p). f.encoded.page_width w.entry p w.there)
      (f.holders_known s p k h)

  -- a pair as a number, its key, and the number of a key
  abbrev pair_held : ℕ → Bool
  pair_held x = holds m (x / 33554432) (x % 33554432)

  abbrev pair_key : ℕ → ℕ
  pair_key x = key_of (entry_of m (x / 33554432)) (x % 33554432)

  abbrev pair_of : ℕ → ℕ
  pair_of k = (get_or (entries m) (key_entry k) 0 - 1) * 33554432 + key_chunk k

  pair_key_lem : (x : ℕ) → pair_held x ≡ true → pair_key x ≡ holder m (slot_of_chunk m (x / 33554432) (x % 33554432))
  pair_key_lem x t = held_key (slot_of_chunk m (x / 33554432) (x % 33554432)) (x / 33554432) (x % 33554432) (holds_held m f (x / 33554432) (x % 33554432) t)

  pair_again : (x : ℕ) → pair_held x ≡ true → pair_of (pair_key x) ≡ x
  pair_again x t =
      let h = holds_held m f (x / 33554432) (x % 33554432) t in
      let p = h.page in
      let c = h.chunk in
      ap pair_of (pair_key_lem x t) ∙ omega arith

  -- the place of a slot in use
  slot_place : (s : ℕ) → 0 < holder m s → OnePlace m s
  slot_place s p =
      let l = in_table (holders m) s p in
      let n = holders_long m f.lengths in
      ⊎_elim (λ (o : HeldOnce m s). o.place) (λ (o : PooledOnce m s). absurd (let z = o.unheld in omega arith)) (f.each_once s (omega arith))

  slot_number : (s : ℕ) (o : OnePlace m s) → pair_of (holder m s) ≡ o.page * 33554432 + o.chunk
  slot_number s o = let p = o.there.page in let c = o.there.chunk in omega arith

  slot_page_lem : (s : ℕ) (o : OnePlace m s) → pair_of (holder m s) / 33554432 ≡ o.page
  slot_page_lem s o = let n = slot_number s o in let t = f.none_above s o.page o.chunk o.there in omega arith

  slot_chunk : (s : ℕ) (o : OnePlace m s) → pair_of (holder m s) % 33554432 ≡ o.chunk
  slot_chunk s o = let n = slot_number s o in let t = f.none_above s o.page o.chunk o.there in omega arith

  slots_numbered : Numbered (holders m) pair_held 144115188075855872 pair_key pair_of
  slots_numbered = record {
    once = slot_once m f;
    used = λ x l t. omega arith;
    stands = λ x l t. record { place = slot_of_chunk m (x / 33554432) (x % 33554432); there = sym (pair_key_lem x t) };
    again = λ x l t. pair_again x t;
    below = λ s p.
        let o = slot_place s p in
        let n = slot_number s o in
        let a = page_small s o.page o.chunk o.there in
        let b = f.none_above s o.page o.chunk o.there in
        omega arith;
    passes = λ s p. let o = slot_place s p in rw (slot_page_lem s o, slot_chunk s o) (held_holds m f s o.page o.chunk o.there);
    back = λ s p. let o = slot_place s p in rw (slot_page_lem s o, slot_chunk s o) (held_key s o.page o.chunk o.there);
  }

  pub pool_pairs : pool m + pairs (holds m) ≡ slot_count m.words
  unfolding pairs
  pool_pairs =
      let p = pool_count m f in
      let a = used_is (holders m) pair_held 144115188075855872 pair_key pair_of slots_numbered in
      let b = used_free (holders m) in
      let c = holders_long m f.lengths in
      omega arith

  -- ---- entries
  -- those past the fixed pages'
  abbrev past : List ℕ
  past = drop 4 (entries m)

  past_at : (s : ℕ) → get_or past s 0 ≡ get_or (entries m) (4 + s) 0
  past_at s = get_or-drop 4 (entries m) s 0

  abbrev page_here : ℕ → Bool
  page_here p = allocated m p && dynamic (layout_of m.words) p

  -- the entry that lists it
  page_entry : (p : ℕ) → page_here p ≡ true → ListedPage m p
  page_entry p t =
      ⊎_elim
      (λ (y : fixed (layout_of m.words) p ≡ true).
      absurd (false≢true (sym (fixed_only (layout_of m.words) p y) ∙ and_right (allocated m p) (dynamic (layout_of m.words) p) t)))
      (λ (w : ListedPage m p). w)
      (allocated_is m f p (and_left (allocated m p) (dynamic (layout_of m.words) p) t))

  page_stands : (p : ℕ) → page_here p ≡ true → Stands past (p + 1)
  page_stands p t =
      let w = page_entry p t in
      let g = w.there.past_fixed in
      let e : 4 + (w.entry - 4) ≡ w.entry = omega arith in
      record { place = w.entry - 4; there = past_at (w.entry - 4) ∙ ap (λ (i : ℕ). get_or (entries m) i 0) e ∙ w.there.there }

  past_lists : (s : ℕ) → 0 < get_or past s 0 → ListedAt m (4 + s) (get_or past s 0 - 1)
  past_lists s p = record { past_fixed = omega arith; there = let e = past_at s in omega arith }

  pages_numbered : Numbered past page_here 4294967296 (λ p. p + 1) (λ k. k - 1)
  pages_numbered = record {
    once = λ s t p e. let q = page_once m f (4 + s) (4 + t) (rw (past_at s) at p) (sym (past_at s) ∙ e ∙ past_at t) in omega arith;
    used = λ p l t. omega arith;
    stands = λ p l t. page_stands p t;
    again = λ p l t. omega arith;
    below = λ s p. let w = f.encoded.page_width (4 + s) (get_or past s 0 - 1) (past_lists s p) in omega arith;
    passes = λ s p.
        and_both (allocated m (get_or past s 0 - 1)) (dynamic (layout_of m.words) (get_or past s 0 - 1))
        (listed_allocated m f (get_or past s 0 - 1) (record { entry = 4 + s; there = past_lists s p }))
        (f.pages_dynamic (4 + s) (get_or past s 0 - 1) (past_lists s p));
    back = λ s p. omega arith;
  }

  -- the fixed pages have four
  fixed_used : (i : ℕ) → i < 4 → used_count (drop (i + 1) (entries m)) + 1 ≡ used_count (drop i (entries m))
  fixed_used i l =
      let n = entries_long m f.lengths in
      count_held (entries m) i (omega arith) (λ z. let e = f.encoded.fixed_four i l in omega arith)

  pub entries_pages : entries_left m + count (λ p. allocated m p && dynamic (layout_of m.words) p) 4294967296 ≡ page_count m.words
  entries_pages =
      let a = used_is past page_here 4294967296 (λ p. p + 1) (λ k. k - 1) pages_numbered in
      let b = used_free (entries m) in
      let c = entries_long m f.lengths in
      let u₀ : used_count (drop 1 (entries m)) + 1 ≡ used_count (entries m) = fixed_used 0 (omega arith) in
      let u₁ : used_count (drop 2 (entries m)) + 1 ≡ used_count (drop 1 (entries m)) = fixed_used 1 (omega arith) in
      let u₂ : used_count (drop 3 (entries m)) + 1 ≡ used_count (drop 2 (entries m)) = fixed_used 2 (omega arith) in
      let u₃ : used_count past + 1 ≡ used_count (drop 3 (entries m)) = fixed_used 3 (omega arith) in
      omega arith
