-- A memory whose keys and order are as they were, as are the first 12 numbers of its head, its pool and the bytes of its chunks: all that changes is its journals.
-- Assumes nothing.
use mathlib.Core.Path.{◌≡◌, sym, ap, ◌∙◌, subst, refl}
use mathlib.Core.Bool.{cond}
use mathlib.Core.List.{List}
use Prim.Native.Nat.{ℕ, ◌+◌, ◌*◌, ◌-◌, ◌/◌, ◌%◌, ◌≤◌, ◌<◌}
use native.Mathlib.Omega.{arith}
use lib.Dec.{ltb, leb}
use lib.ListN.{length, get_or, take, drop}
use lib.Seq.{get_or-take, length-take-le, ext_get_or}
use Rattle.formed.proofs.Sizes.{lengths_kept}
use Rattle.store.specs.Keys.{key_of, key_entry}
use Rattle.page_ids.specs.declared.Layout.{Layout}
use Rattle.index.specs.Index.{indexed, seek, free_count}
use Rattle.bits.specs.Bits.{ones_of}
use Rattle.store.specs.Mem.{Mem, mem, layout_of, slot_count, journal_words, journal_length, held_now, in_use, dynamic_length, pool_place, pool_skip, holders, entries, slot_order, page_order, chunk_bytes}
use Rattle.store.proofs.Pool.{pool_kept, pooling_kept}
use Rattle.formed.specs.Pages.{LayoutRule, dynamic, group, journal_count, journal_place}
use Rattle.formed.specs.Parts.{tab, Note, byte_at, slot_of_chunk, holds, pool, allocated, entries_left, journal, note_address, note_first, note_last, note_place}
use Rattle.formed.specs.WellFormed.{holder, Lengths, NotedRight}
use Rattle.formed.proofs.Facts.{Facts, SlotRight, PageRight}
use Rattle.view.specs.View.{View, setting_of, view_of}
use Rattle.view.proofs.Equal.{view_by}
use Rattle.formed.proofs.Same.{tab_upto}

-- words' are words except for the journals
pub record JournalsAlone (words words' : List ℕ) : Type 0 where
  pub head : (i : ℕ) → i < 12 → get_or words' i 0 ≡ get_or words i 0
  pub skip : pool_skip words' ≡ pool_skip words
  pub pool : (i : ℕ) → pool_place words ≤ i → get_or words' i 0 ≡ get_or words i 0

-- word i of journal j, of a memory with c slots and room for r words in each journal
abbrev pub note_in : List ℕ → List ℕ → ℕ → ℕ → ℕ → ℕ → Note
note_in bs ws c r j i = record { address = get_or ws (16 + 3 * (r * j + i)) 0; old = tab 32 (λ k. get_or bs (256 * c + 32 * (r * j + i) + k) 0) }

-- one address and the same bytes are one note
pub note_same : (a a' : ℕ) (f g : ℕ → ℕ) → a ≡ a' → ((k : ℕ) → k < 32 → f k ≡ g k) → ◌≡◌ {A = Note} (record { address = a; old = tab 32 f }) (record { address = a'; old = tab 32 g })
note_same a a' f g e h = let t = tab_upto 32 f g h in λ k. record { address = e k; old = t k }

module _ (bytes keys order words bytes' words' : List ℕ) (f : Facts (mem bytes keys order words))
    (lb : length bytes' ≡ length bytes) (lw : length words' ≡ length words)
    (alone : JournalsAlone words words')
    (body : (b : ℕ) → b < 256 * slot_count words → get_or bytes' b 0 ≡ get_or bytes b 0) where
  abbrev m : Mem
  m = mem bytes keys order words

  abbrev m' : Mem
  m' = mem bytes' keys order words'

  c : slot_count words' ≡ slot_count words
  c = alone.head 6 (omega arith)

  r : journal_words words' ≡ journal_words words
  r = alone.head 8 (omega arith)

  big : 256 * slot_count words ≤ length bytes
  big = let h = f.lengths.in_bytes in omega arith

  same_body : take (256 * slot_count words) bytes' ≡ take (256 * slot_count words) bytes
  same_body =
      let b = big in
      let l = length-take-le (256 * slot_count words) bytes' (omega arith) in
      let k = length-take-le (256 * slot_count words) bytes (omega arith) in
      ext_get_or 0 (take (256 * slot_count words) bytes') (take (256 * slot_count words) bytes) (l ∙ sym k)
      (λ i li. get_or-take (256 * slot_count words) bytes' i 0 (omega arith) ∙ body i (omega arith) ∙ sym (get_or-take (256 * slot_count words) bytes i 0 (omega arith)))

  same_chunks : chunk_bytes m' ≡ chunk_bytes m
  same_chunks = ap (λ (x : ℕ). take (256 * x) bytes') c ∙ same_body

  same_holders : holders m' ≡ holders m
  same_holders = ap (λ (x : ℕ). take x keys) c

  same_entries : entries m' ≡ entries m
  same_entries = ap (λ (x : ℕ). drop x keys) c

  pub same_layout : layout_of words' ≡ layout_of words
  same_layout = λ k. record {
    static_memory = record { 0 = alone.head 0 (omega arith) k };
    calldata = record { 0 = alone.head 1 (omega arith) k };
    bootloader_heap = record { 0 = alone.head 2 (omega arith) k };
    bootloader_aux = record { 0 = alone.head 3 (omega arith) k };
    base = record { 0 = alone.head 4 (omega arith) k };
    stride = alone.head 5 (omega arith) k;
  }

  pub same_setting : setting_of m' ≡ setting_of m
  same_setting = let l = same_layout in λ k. record { layout = l k; chunks = c k; pages = alone.head 7 (omega arith) k; journal_words = r k }

  -- ---- the view but for the journals
  pub same_byte : (p a : ℕ) → byte_at m' p a ≡ byte_at m p a
  unfolding byte_at slot_of_chunk
  same_byte p a =
      ap (λ (x : ℕ). get_or (take (256 * x) bytes') (256 * cond (leb (a / 256) 16777216) (seek (take x keys) (key_of (seek (drop x keys) (p + 1)) (a / 256))) x + a % 256) 0) c
      ∙ ap (λ (x : List ℕ). get_or x (256 * cond (leb (a / 256) 16777216) (seek (holders m) (key_of (seek (entries m) (p + 1)) (a / 256))) (slot_count words) + a % 256) 0) same_body

  pub same_holds : (p k : ℕ) → holds m' p k ≡ holds m p k
  unfolding holds slot_of_chunk
  same_holds p k = ap (λ (x : ℕ). ltb (cond (leb k 16777216) (seek (take x keys) (key_of (seek (drop x keys) (p + 1)) k)) x) x) c

  pub same_allocated : (p : ℕ) → allocated m' p ≡ allocated m p
  unfolding allocated
  same_allocated p = ap (λ (x : ℕ). ltb (seek (drop x keys) (p + 1)) (length (drop x keys))) c

  -- a view that has these parts, and the journals told
  pub same_view : (v : View) → ((p a : ℕ) → byte_at m p a ≡ v.bytes p a) → ((p k : ℕ) → holds m p k ≡ v.held p k) → pool m ≡ v.pool → ((p : ℕ) → allocated m p ≡ v.allocated p)
      → entries_left m ≡ v.entries_left → dynamic_length words ≡ v.dynamic_length → ((j : ℕ) → (view_of m').journal j ≡ v.journal j) → view_of m' ≡ v
  same_view v b h p a e d j =
      view_by (view_of m') v (λ q x. same_byte q x ∙ b q x) (λ q k. same_holds q k ∙ h q k) (ap ones_of (pool_kept words words' lw c alone.pool) ∙ p) (λ q. same_allocated q ∙ a q) (ap free_count same_entries ∙ e) (alone.head 11 (omega arith) ∙ d) j

  pub journal_is : (j : ℕ) → journal m' j ≡ tab (journal_length words' j) (note_in bytes' words' (slot_count words) (journal_words words) j)
  unfolding journal
  journal_is j =
      ap (λ (x : ℕ). tab (journal_length words' j) (note_in bytes' words' x (journal_words words') j)) c
      ∙ ap (λ (x : ℕ). tab (journal_length words' j) (note_in bytes' words' (slot_count words) x j)) r

  pub journal_same : (j : ℕ) → journal_length words' j ≡ journal_length words j
      → ((i : ℕ) → i < journal_length words j → note_in bytes' words' (slot_count words) (journal_words words) j i ≡ note_in bytes words (slot_count words) (journal_words words) j i)
      → journal m' j ≡ journal m j
  unfolding journal
  journal_same j e h =
      journal_is j
      ∙ ap (λ (x : ℕ). tab x (note_in bytes' words' (slot_count words) (journal_words words) j)) e
      ∙ tab_upto (journal_length words j) (note_in bytes' words' (slot_count words) (journal_words words) j) (note_in bytes words (slot_count words) (journal_words words) j) h

  -- ---- the facts, from those of the journals
  pub noted_by : (j i a s t : ℕ) → get_or words' (note_place words j i) 0 ≡ a → get_or words' (note_place words j i + 1) 0 ≡ s → get_or words' (note_place words j i + 2) 0 ≡ t
      → a ≤ 4294967295 → holder m s ≡ key_of (journal_place j) (a / 256) → holder m t ≡ key_of (journal_place j) ((a + 31) / 256) → NotedRight m' j i
  noted_by j i a s t ea es et la hs ht =
      let qa : note_address m' j i ≡ a = ap (λ (x : ℕ). get_or words' (16 + 3 * (x * j + i)) 0) r ∙ ea in
      let qs : note_first m' j i ≡ s = ap (λ (x : ℕ). get_or words' (16 + 3 * (x * j + i) + 1) 0) r ∙ es in
      let qt : note_last m' j i ≡ t = ap (λ (x : ℕ). get_or words' (16 + 3 * (x * j + i) + 2) 0) r ∙ et in
      record {
        address = omega arith;
        first = ap (λ (x : List ℕ). get_or x (note_first m' j i) 0) same_holders ∙ ap (holder m) qs ∙ hs ∙ ap (λ (x : ℕ). key_of (journal_place j) (x / 256)) (sym qa);
        last = ap (λ (x : List ℕ). get_or x (note_last m' j i) 0) same_holders ∙ ap (holder m) qt ∙ ht ∙ ap (λ (x : ℕ). key_of (journal_place j) ((x + 31) / 256)) (sym qa);
      }

  same_lengths_lem : Lengths m'
  same_lengths_lem =
      lengths_kept m m' (record { slots = c; pages = alone.head 7 (omega arith); journals = r; bytes_long = lb; keys_long = refl; order_long = refl; words_long = lw }) f.lengths

  same_slot : (s k : ℕ) → SlotRight m s k → SlotRight m' s k
  same_slot s k h = record {
    entry = subst (λ (x : List ℕ). 0 < get_or x (key_entry k) 0) (sym same_entries) h.entry;
    top = h.top;
    tail = λ e x lo hi. ap (λ (y : List ℕ). get_or y (256 * s + x) 0) same_chunks ∙ h.tail e x lo hi;
  }

  same_page : (x : ℕ) → PageRight words x → PageRight words' x
  same_page x h = record {
    width = h.width;
    kind = ap (λ (l : Layout). dynamic l (x - 1)) same_layout ∙ h.kind;
    below = subst (λ (l : Layout). group l (x - 1) < dynamic_length words') (sym same_layout) (let d = alone.head 11 (omega arith) in let g = h.below in omega arith);
  }

  pub same_facts : ((j : ℕ) → j < journal_count → journal_length words' j ≤ journal_words words) → ((j i : ℕ) → j < journal_count → i < journal_length words' j → NotedRight m' j i) → Facts m'
  same_facts cap notes = record {
    lengths = same_lengths_lem;
    layout = subst LayoutRule (sym same_layout) f.layout;
    layout_width = λ i l. let h = alone.head i (omega arith) in let g = f.layout_width i l in omega arith;
    length_width = let h = alone.head 11 (omega arith) in let g = f.length_width in omega arith;
    slots = ap (λ (x : ℕ). indexed (take x keys) (take x order) (held_now words')) c ∙ ap (indexed (holders m) (slot_order m)) (alone.head 9 (omega arith)) ∙ f.slots;
    pages = ap (λ (x : ℕ). indexed (drop x keys) (drop x order) (in_use words')) c ∙ ap (indexed (entries m) (page_order m)) (alone.head 10 (omega arith)) ∙ f.pages;
    fixed_four = λ e l. ap (λ (x : List ℕ). get_or x e 0) same_entries ∙ f.fixed_four e l ∙ ap (λ (x : ℕ). x + 1) (sym (alone.head e (omega arith)));
    listed = λ e ge p.
        let q : get_or (entries m') e 0 ≡ get_or (entries m) e 0 = ap (λ (x : List ℕ). get_or x e 0) same_entries in
        subst (PageRight words') (sym q) (same_page (get_or (entries m) e 0) (f.listed e ge (omega arith)));
    pooled = λ s l z x lx.
        let cc = c in
        ap (λ (y : List ℕ). get_or y (256 * s + x) 0) same_chunks ∙ f.pooled s (omega arith) (ap (λ (y : List ℕ). get_or y s 0) (sym same_holders) ∙ z) x lx;
    held = λ s p.
        let q : holder m' s ≡ holder m s = ap (λ (x : List ℕ). get_or x s 0) same_holders in
        subst (SlotRight m' s) (sym q) (same_slot s (holder m s) (f.held s (omega arith)));
    pool = pooling_kept words words' lw c alone.pool keys keys same_holders alone.skip f.pool;
    in_capacity = λ j l. let h = cap j l in let rr = r in omega arith;
    notes = notes;
  }
