-- A page is allocated: a memory where it was already, and one where it is given an entry.
-- Assumes nothing.
use mathlib.Core.Path.{◌≡◌, refl, sym, ap, ◌∙◌, subst, fun_ext}
use mathlib.Core.Logic.{⊎_elim}
use mathlib.Core.Bool.{true, false, cond, ◌||◌, false≢true}
use mathlib.Core.List.{List, []}
use Prim.Native.Nat.{ℕ, ◌+◌, ◌*◌, ◌-◌, ◌/◌, ◌%◌, ◌≤◌, ◌<◌, max}
use native.Mathlib.Nat.{div-le_of_le-mul}
use native.Mathlib.Omega.{arith}
use lib.Dec.{ltb, eqb}
use lib.ListN.{length, get_or, set, take, drop, length-set, length-drop, get_or-eq_default}
use lib.Seq.{get_or-set_same, get_or-set_other}
use borrow.Author.Tests.{lt-ltb, le-ltb, ltb-false, eq-eqb, ne_eqb}
use Rattle.store.specs.Keys.{key_of, key_entry}
use Rattle.page_ids.specs.declared.Layout.{Layout}
use Rattle.index.specs.Index.{indexed, seek, free_count}
use Rattle.index.proofs.Logic.{same_or_not, lt_or_ge}
use Rattle.index.proofs.Counts.{used_free, count_fill}
use Rattle.index.proofs.Places.{seek_hit, seek_le, seek_other}
use Rattle.index.proofs.Meaning.{once}
use Rattle.bits.specs.Bits.{ones_of}
use Rattle.store.specs.Mem.{Mem, mem, layout_of, slot_count, page_count, journal_words, journal_length, in_use, dynamic_length, holders, entries, slot_order, page_order, chunk_bytes, pool_place}
use Rattle.store.proofs.Pool.{pool_kept, pooling_kept}
use Rattle.formed.specs.Pages.{LayoutRule, fixed, dynamic, group, journal_place}
use Rattle.formed.specs.Parts.{Note, tab, entry_of, allocated, entries_left, slot_of_chunk, holds, byte_at, note_place, note_address, note_first, note_last, old_place, journal}
use Rattle.formed.specs.WellFormed.{WellFormed, Lengths, ListedPage, NotedRight, holder}
use Rattle.formed.proofs.Bools.{refute, or_off}
use Rattle.formed.proofs.Keys.{le_or_gt, seek_is, key_entry_lem}
use Rattle.formed.proofs.Asks.{pages_asked}
use Rattle.formed.proofs.Sizes.{entries_long, lengths_kept}
use Rattle.formed.proofs.Same.{layout_same}
use Rattle.formed.proofs.Above.{dynamic_above}
use Rattle.formed.proofs.Facts.{PageRight, SlotRight, Facts}
use Rattle.formed.proofs.Meaning.{facts_of, formed_by}
use Rattle.formed.proofs.Sense.{slot_near, slot_far, left_is, allocated_is, fixed_allocated}
use Rattle.view.specs.View.{view_of, setting_of}
use Rattle.view.proofs.Counts.{fixed_only}
use Rattle.view.specs.Does.{Shows}
use Rattle.view.specs.Inner.{listing, ListAsks}
use Rattle.pages.specs.Entry.{EntryAsks, EntryTaken}
use Rattle.pages.proofs.Views.{listing_by}

-- ---- numbers and pages
max_low : (d g : ℕ) → d ≤ max d g
max_low d g = omega arith

max_high : (d g : ℕ) → g ≤ max d g
max_high d g = omega arith

max_upto : (d g n : ℕ) → d ≤ n → g ≤ n → max d g ≤ n
max_upto d g n a b = omega arith

max_same : (d g : ℕ) → g ≤ d → d ≡ max d g
max_same d g l = omega arith

-- word i of journal j
abbrev note_of : Mem → ℕ → ℕ → Note
note_of m j i = record { address = note_address m j i; old = tab 32 (λ k. get_or m.bytes (old_place m.words j i + k) 0) }

-- ---- no slot has a key of an entry that is free or past the table
module _ (m : Mem) (f : WellFormed m) where
  nobody : (e k : ℕ) → get_or (entries m) e 0 ≡ 0 → k ≤ 16777216 → seek (holders m) (key_of e k) ≡ length (holders m)
  nobody e k z l =
      let u = seek_le (holders m) (key_of e k) in
      ⊎_elim
      (λ (h : seek (holders m) (key_of e k) < length (holders m)).
      let at = seek_hit (holders m) (key_of e k) h in
      let g = ((facts_of m f).held (seek (holders m) (key_of e k)) (omega arith)).entry in
      let v : get_or (entries m) (key_entry (holder m (seek (holders m) (key_of e k)))) 0 ≡ 0 = ap (λ (x : ℕ). get_or (entries m) (key_entry x) 0) at ∙ ap (λ (x : ℕ). get_or (entries m) x 0) (key_entry_lem e k (omega arith)) ∙ z in
      absurd (omega arith))
      (λ (h : length (holders m) ≤ seek (holders m) (key_of e k)). omega arith)
      (lt_or_ge (seek (holders m) (key_of e k)) (length (holders m)))

-- ---- what the calls ask
module _ (m : Mem) (p : ℕ) (a : ListAsks m p) where
  -- the page is allocated already
  module _ (l : entry_of m p < page_count m.words + 4) where
    was : allocated m p ≡ true
    unfolding allocated
    was = lt-ltb (entry_of m p) (length (entries m)) (let n = entries_long m a.formed.lengths in omega arith)

    was_pages : (q : ℕ) → allocated m q ≡ (eqb q p || allocated m q)
    was_pages q = ⊎_elim (λ (e : q ≡ p). rw (eq-eqb q p e) (ap (allocated m) e ∙ was)) (λ (n : q ≡ p → ⊥). rw (ne_eqb q p n)) (same_or_not q p)

    was_high : dynamic_length m.words ≡ cond (dynamic (layout_of m.words) p) (max (dynamic_length m.words) (group (layout_of m.words) p + 1)) (dynamic_length m.words)
    was_high =
        ⊎_elim
        (λ (x : fixed (layout_of m.words) p ≡ true). rw (fixed_only (layout_of m.words) p x))
        (λ (x : ListedPage m p).
        let b = a.formed.pages_below x.entry p x.there in
        rw (a.formed.pages_dynamic x.entry p x.there) (max_same (dynamic_length m.words) (group (layout_of m.words) p + 1) (omega arith)))
        (allocated_is m a.formed p was)

    pub listed_already : Shows (setting_of m) (listing m p) m
    listed_already = record {
      formed = a.formed;
      setting = refl;
      view = listing_by (layout_of m.words) p (view_of m) (view_of m) (λ q b. refl) (λ q k. refl) refl was_pages (rw was) was_high (λ j. refl);
    }

  -- it is not
  pub no_entry : allocated m p ≡ false → page_count m.words + 4 ≤ entry_of m p
  unfolding allocated
  no_entry n = let h = ltb-false (entry_of m p) (length (entries m)) n in let l = entries_long m a.formed.lengths in omega arith

  module _ (l : page_count m.words + 4 ≤ entry_of m p) where
    pub not_listed : allocated m p ≡ false
    unfolding allocated
    not_listed = le-ltb (entry_of m p) (length (entries m)) (let n = entries_long m a.formed.lengths in omega arith)

    pub listed_dynamic_lem : dynamic (layout_of m.words) p ≡ true
    listed_dynamic_lem =
        or_off (fixed (layout_of m.words) p) (dynamic (layout_of m.words) p)
        (sym (refute (fixed (layout_of m.words) p) (λ x. false≢true (sym not_listed ∙ fixed_allocated m a.formed p x)))) a.decodable

    pub entry_asks : EntryAsks m.keys m.order m.words p
    entry_asks =
        let s = a.formed.lengths in
        let n = entries_long m s in
        let o = length-drop (slot_count m.words) m.order in
        let r = a.entry not_listed in
        let i = left_is m a.formed in
        let t = a.formed.layout.stride in
        record {
          pages = pages_asked m a.formed;
          few = omega arith;
          none = omega arith;
          room = omega arith;
          order_room = omega arith;
          above = dynamic_above (layout_of m.words) p listed_dynamic_lem;
          stride = omega arith;
        }

    -- ---- it is given an entry
    module _ (keys' order' words' : List ℕ) (lk : length keys' ≡ length m.keys) (lo : length order' ≡ length m.order) {entry : ℕ} (t : EntryTaken p entry m.keys m.order m.words keys' order' words') where
      abbrev m' : Mem
      m' = mem m.bytes keys' order' words'

      f : Facts m
      f = facts_of m a.formed

      -- the head
      abbrev high : ℕ
      high = max (dynamic_length m.words) (group (layout_of m.words) p + 1)

      words_long : length words' ≡ length m.words
      words_long = ap length t.words_are ∙ length-set (set m.words 10 (in_use m.words + 1)) 11 high ∙ length-set m.words 10 (in_use m.words + 1)

      head : (i : ℕ) → (i ≡ 10 → ⊥) → (i ≡ 11 → ⊥) → get_or words' i 0 ≡ get_or m.words i 0
      head i x y = ap (λ (w : List ℕ). get_or w i 0) t.words_are ∙ get_or-set_other (set m.words 10 (in_use m.words + 1)) 11 i high 0 y ∙ get_or-set_other m.words 10 i (in_use m.words + 1) 0 x

      low : (i : ℕ) → i < 10 → get_or words' i 0 ≡ get_or m.words i 0
      low i x = head i (λ e. omega arith) (λ e. omega arith)

      past : (i : ℕ) → 12 ≤ i → get_or words' i 0 ≡ get_or m.words i 0
      past i x = head i (λ e. omega arith) (λ e. omega arith)

      in_head : 16 ≤ length m.words
      in_head = (pages_asked m a.formed).head

      ten : in_use words' ≡ in_use m.words + 1
      ten =
          ap in_use t.words_are ∙ get_or-set_other (set m.words 10 (in_use m.words + 1)) 11 10 high 0 (λ e. omega arith)
          ∙ get_or-set_same m.words 10 (in_use m.words + 1) 0 (let h = in_head in omega arith)

      eleven : dynamic_length words' ≡ high
      eleven =
          ap dynamic_length t.words_are
          ∙ get_or-set_same (set m.words 10 (in_use m.words + 1)) 11 high 0 (let h = in_head in let g = length-set m.words 10 (in_use m.words + 1) in omega arith)

      six : slot_count words' ≡ slot_count m.words
      six = low 6 (omega arith)

      eight : journal_words words' ≡ journal_words m.words
      eight = low 8 (omega arith)

      pool_after : (i : ℕ) → pool_place m.words ≤ i → get_or words' i 0 ≡ get_or m.words i 0
      pool_after i l = past i (let h = a.formed.lengths.in_words in omega arith)

      layout_kept : layout_of words' ≡ layout_of m.words
      layout_kept = layout_same m.words words' (λ i x. low i (omega arith))

      -- the parts
      holders_kept : holders m' ≡ holders m
      holders_kept = ap (λ (x : ℕ). take x keys') six ∙ t.holders_are

      chunks_kept : chunk_bytes m' ≡ chunk_bytes m
      chunks_kept = ap (λ (x : ℕ). take (256 * x) m.bytes) six

      order_kept : slot_order m' ≡ slot_order m
      order_kept = ap (λ (x : ℕ). take x order') six ∙ t.slots_order

      entries_new : entries m' ≡ set (entries m) entry (p + 1)
      entries_new = ap (λ (x : ℕ). drop x keys') six ∙ t.entries_are

      pages_new : indexed (entries m') (page_order m') (in_use words') ≡ true
      pages_new = ap (λ (x : ℕ). indexed (drop x keys') (drop x order') (in_use words')) six ∙ ap (indexed (drop (slot_count m.words) keys') (drop (slot_count m.words) order')) ten ∙ t.index

      entry_new : get_or (entries m') entry 0 ≡ p + 1
      entry_new = ap (λ (x : List ℕ). get_or x entry 0) entries_new ∙ get_or-set_same (entries m) entry (p + 1) 0 t.entry_in

      entry_other : (x : ℕ) → (x ≡ entry → ⊥) → get_or (entries m') x 0 ≡ get_or (entries m) x 0
      entry_other x n = ap (λ (y : List ℕ). get_or y x 0) entries_new ∙ get_or-set_other (entries m) entry x (p + 1) 0 n

      entry_used : (x : ℕ) → 0 < get_or (entries m) x 0 → get_or (entries m') x 0 ≡ get_or (entries m) x 0
      entry_used x u = entry_other x (λ e. let z : get_or (entries m) x 0 ≡ 0 = ap (λ (y : ℕ). get_or (entries m) y 0) e ∙ t.free in omega arith)

      -- ---- it is well formed
      page_right : (x : ℕ) → x ≤ 4294967296 → dynamic (layout_of m.words) (x - 1) ≡ true → group (layout_of m.words) (x - 1) < high → PageRight words' x
      page_right x w y b = record {
        width = w;
        kind = ap (λ (o : Layout). dynamic o (x - 1)) layout_kept ∙ y;
        below = let e = eleven in let g = subst (λ (o : Layout). group o (x - 1) < high) (sym layout_kept) b in omega arith;
      }

      listed_right : (x : ℕ) → 4 ≤ x → 0 < get_or (entries m') x 0 → PageRight words' (get_or (entries m') x 0)
      listed_right x ge u =
          ⊎_elim
          (λ (e : x ≡ entry).
          let q : p + 1 - 1 ≡ p = omega arith in
          let h = max_high (dynamic_length m.words) (group (layout_of m.words) p + 1) in
          let g : group (layout_of m.words) p < high = omega arith in
          let w = a.page in
          let r : PageRight words' (p + 1) = page_right (p + 1) (omega arith) (ap (dynamic (layout_of m.words)) q ∙ listed_dynamic_lem) (subst (λ (o : ℕ). group (layout_of m.words) o < high) (sym q) g) in
          subst (PageRight words') (sym (ap (λ (y : ℕ). get_or (entries m') y 0) e ∙ entry_new)) r)
          (λ (n : x ≡ entry → ⊥).
          let q = entry_other x n in
          let r = f.listed x ge (omega arith) in
          let g = max_low (dynamic_length m.words) (group (layout_of m.words) p + 1) in
          let b = r.below in
          subst (PageRight words') (sym q) (page_right (get_or (entries m) x 0) r.width r.kind (omega arith)))
          (same_or_not x entry)

      slot_right_lem : (s : ℕ) → 0 < holder m' s → SlotRight m' s (holder m' s)
      slot_right_lem s u =
          let q : holder m' s ≡ holder m s = ap (λ (x : List ℕ). get_or x s 0) holders_kept in
          let r = f.held s (omega arith) in
          let g = r.entry in
          let o = entry_used (key_entry (holder m s)) g in
          subst (SlotRight m' s) (sym q) record { entry = omega arith; top = r.top; tail = λ e b lo hi. ap (λ (x : List ℕ). get_or x (256 * s + b) 0) chunks_kept ∙ r.tail e b lo hi }

      note_place_lem : (j i : ℕ) → note_place m'.words j i ≡ note_place m.words j i
      note_place_lem j i = ap (λ (r : ℕ). 16 + 3 * (r * j + i)) eight

      note_number : (j i : ℕ) → note_address m' j i ≡ note_address m j i
      note_number j i = ap (λ (x : ℕ). get_or words' x 0) (note_place_lem j i) ∙ past (note_place m.words j i) (omega arith)

      note_slot : (j i x : ℕ) → get_or words' (note_place m'.words j i + x) 0 ≡ get_or m.words (note_place m.words j i + x) 0
      note_slot j i x = ap (λ (y : ℕ). get_or words' (y + x) 0) (note_place_lem j i) ∙ past (note_place m.words j i + x) (omega arith)

      held_note : (s s' k k' : ℕ) → s' ≡ s → k' ≡ k → holder m s ≡ k → holder m' s' ≡ k'
      held_note s s' k k' q e h = ap (λ (x : List ℕ). get_or x s' 0) holders_kept ∙ ap (holder m) q ∙ h ∙ sym e

      note_right : (j i : ℕ) → NotedRight m j i → NotedRight m' j i
      note_right j i n = record {
        address = let e = note_number j i in let l = n.address in omega arith;
        first = held_note (note_first m j i) (note_first m' j i) _ _ (note_slot j i 1) (ap (λ (x : ℕ). key_of (journal_place j) (x / 256)) (note_number j i)) n.first;
        last = held_note (note_last m j i) (note_last m' j i) _ _ (note_slot j i 2) (ap (λ (x : ℕ). key_of (journal_place j) ((x + 31) / 256)) (note_number j i)) n.last;
      }

      journal_long : (j : ℕ) → journal_length words' j ≡ journal_length m.words j
      journal_long j = past (12 + j) (omega arith)

      lengths' : Lengths m'
      lengths' =
          lengths_kept m m' (record { slots = six; pages = low 7 (omega arith); journals = eight; bytes_long = refl; keys_long = lk; order_long = lo; words_long = words_long }) a.formed.lengths

      high_width : high ≤ 4294967295
      high_width =
          let s = a.formed.layout.stride in
          let w = a.page in
          max_upto (dynamic_length m.words) (group (layout_of m.words) p + 1) 4294967295 f.length_width (group_width (p - (layout_of m.words).base.0) (layout_of m.words).stride (omega arith) s)
        where
          group_width : (x s : ℕ) → x ≤ 4294967295 → 4 ≤ s → x / s + 1 ≤ 4294967295
          group_width x s l g = let h = div-le_of_le-mul s {m = x} {n = 1073741824} (omega arith) in omega arith

      new_facts : Facts m'
      new_facts = record {
        lengths = lengths';
        layout = subst LayoutRule (sym layout_kept) f.layout;
        layout_width = λ i x. let h = low i (omega arith) in let w = f.layout_width i x in omega arith;
        length_width = let e = eleven in let w = high_width in omega arith;
        slots = rw (holders_kept, order_kept, low 9 (omega arith)) f.slots;
        pages = pages_new;
        fixed_four = λ e x. let v = f.fixed_four e x in entry_used e (omega arith) ∙ v ∙ ap (λ (y : ℕ). y + 1) (sym (low e (omega arith)));
        listed = listed_right;
        pooled = λ s x z b r. ap (λ (y : List ℕ). get_or y (256 * s + b) 0) chunks_kept ∙ f.pooled s (let h = six in omega arith) (sym (ap (λ (y : List ℕ). get_or y s 0) holders_kept) ∙ z) b r;
        held = slot_right_lem;
        pool = pooling_kept m.words words' words_long six pool_after m.keys keys' holders_kept (past 15 (omega arith)) f.pool;
        in_capacity = λ j x. let c = f.in_capacity j x in let h = journal_long j in let g = eight in omega arith;
        notes = λ j i x y. note_right j i (f.notes j i x (let h = journal_long j in omega arith));
      }

      -- ---- what it shows
      pub listed_entry : entry_of m' p ≡ entry
      listed_entry = seek_is (entries m') (p + 1) entry (once (entries m') (page_order m') (in_use words') pages_new) (omega arith) entry_new

      place_kept : (q : ℕ) → (q ≡ p → ⊥) → entry_of m' q ≡ entry_of m q
      place_kept q n = ap (λ (x : List ℕ). seek x (q + 1)) entries_new ∙ seek_other (entries m) entry (p + 1) (q + 1) t.free (omega arith) (λ e. n (omega arith))

      slot_near_kept : (q k : ℕ) → k ≤ 16777216 → seek (holders m) (key_of (entry_of m' q) k) ≡ seek (holders m) (key_of (entry_of m q) k)
      slot_near_kept q k x =
          ⊎_elim
          (λ (e : q ≡ p).
          let n : get_or (entries m) (entry_of m' q) 0 ≡ 0 = ap (λ (y : ℕ). get_or (entries m) (entry_of m' y) 0) e ∙ ap (λ (y : ℕ). get_or (entries m) y 0) listed_entry ∙ t.free in
          let o : get_or (entries m) (entry_of m q) 0 ≡ 0 = ap (λ (y : ℕ). get_or (entries m) (entry_of m y) 0) e ∙ get_or-eq_default (entries m) 0 entry_asks.none in
          nobody m a.formed (entry_of m' q) k n x ∙ sym (nobody m a.formed (entry_of m q) k o x))
          (λ (n : q ≡ p → ⊥). ap (λ (y : ℕ). seek (holders m) (key_of y k)) (place_kept q n))
          (same_or_not q p)

      slot_kept : (q k : ℕ) → slot_of_chunk m' q k ≡ slot_of_chunk m q k
      slot_kept q k =
          ⊎_elim
          (λ (x : k ≤ 16777216). slot_near m' q k x ∙ ap (λ (y : List ℕ). seek y (key_of (entry_of m' q) k)) holders_kept ∙ slot_near_kept q k x ∙ sym (slot_near m q k x))
          (λ (x : 16777216 < k). slot_far m' q k x ∙ six ∙ sym (slot_far m q k x))
          (le_or_gt k 16777216)

      bytes_kept_lem : (q b : ℕ) → byte_at m' q b ≡ byte_at m q b
      unfolding byte_at
      bytes_kept_lem q b = ap (λ (y : List ℕ). get_or y (256 * slot_of_chunk m' q (b / 256) + b % 256) 0) chunks_kept ∙ ap (λ (y : ℕ). get_or (chunk_bytes m) (256 * y + b % 256) 0) (slot_kept q (b / 256))

      holds_kept : (q k : ℕ) → holds m' q k ≡ holds m q k
      unfolding holds
      holds_kept q k = ap (ltb (slot_of_chunk m' q k)) six ∙ ap (λ (y : ℕ). ltb y (slot_count m.words)) (slot_kept q k)

      entries_length : length (entries m') ≡ length (entries m)
      entries_length = ap length entries_new ∙ length-set (entries m) entry (p + 1)

      pages_shown : (q : ℕ) → allocated m' q ≡ (eqb q p || allocated m q)
      unfolding allocated
      pages_shown q =
          ap (ltb (entry_of m' q)) entries_length
          ∙ ⊎_elim
          (λ (e : q ≡ p). rw (eq-eqb q p e) (let n : entry_of m' q ≡ entry = ap (entry_of m') e ∙ listed_entry in let i = t.entry_in in lt-ltb (entry_of m' q) (length (entries m)) (omega arith)))
          (λ (n : q ≡ p → ⊥). rw (ne_eqb q p n) (ap (λ (y : ℕ). ltb y (length (entries m))) (place_kept q n)))
          (same_or_not q p)

      one_less : free_count (entries m') ≡ entries_left m - 1
      one_less =
          let x = used_free (entries m) in
          let y = used_free (set (entries m) entry (p + 1)) in
          let c = count_fill (entries m) entry (p + 1) t.entry_in t.free (omega arith) in
          let n = length-set (entries m) entry (p + 1) in
          ap free_count entries_new ∙ (let h : free_count (set (entries m) entry (p + 1)) ≡ free_count (entries m) - 1 = omega arith in h)

      note_kept : (j i : ℕ) → note_of m' j i ≡ note_of m j i
      note_kept j i = rw (note_number j i, six, eight)

      journal_kept : (j : ℕ) → journal m' j ≡ journal m j
      unfolding journal
      journal_kept j = rw (journal_long j) (ap (tab (journal_length m.words j)) (fun_ext (note_kept j)))

      pub listed_now : Shows (setting_of m) (listing m p) m'
      listed_now = record {
        formed = formed_by m' new_facts;
        setting = rw (layout_kept, six, low 7 (omega arith), eight);
        view = listing_by (layout_of m.words) p (view_of m) (view_of m') bytes_kept_lem holds_kept (ap ones_of (pool_kept m.words words' words_long six pool_after)) pages_shown (rw not_listed one_less) (rw listed_dynamic_lem eleven)
            (λ j. ap (λ (x : List Note). cond (ltb j 2) x []) (journal_kept j));
      }
