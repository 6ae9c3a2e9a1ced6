-- A memory where a chunk was given a slot if it had none: it is well formed, and its view is as before but that the chunk is held.
-- Assumes nothing.
use mathlib.Core.Path.{◌≡◌, refl, sym, ap, ◌∙◌, subst}
use mathlib.Core.Logic.{⊎_elim}
use mathlib.Core.Bool.{true, cond, ◌&&◌, ◌||◌}
use mathlib.Core.List.{List, []}
use Prim.Native.Nat.{ℕ, ◌+◌, ◌*◌, ◌-◌, ◌/◌, ◌%◌, ◌≤◌, ◌<◌}
use native.Mathlib.Omega.{arith}
use lib.Dec.{ltb, leb, eqb}
use lib.ListN.{length, get_or, set, take, drop, length-set, get_or-eq_default}
use lib.Seq.{get_or-take}
use borrow.Author.Tests.{lt-ltb, le-ltb, eq-eqb, ne_eqb, ltb-true}
use Rattle.store.specs.Keys.{key_of, key_entry, key_chunk}
use Rattle.view.proofs.Missing.{missing_one}
use Rattle.index.specs.Index.{indexed, seek, free_count}
use Rattle.index.proofs.Logic.{same_or_not, lt_or_ge, lt_by}
use Rattle.index.proofs.Places.{seek_hit}
use Rattle.page_ids.specs.declared.Layout.{Layout}
use Rattle.store.specs.Mem.{Mem, mem, layout_of, slot_count, page_count, journal_words, journal_length, held_now, in_use, dynamic_length, pool_place, holders, entries, chunk_bytes}
use Rattle.store.specs.Indexed.{Indexed}
use Rattle.store.specs.Pool.{Pooling}
use Rattle.pool.specs.Hold.{lacks, Taken, Held}
use Rattle.store.proofs.Parts.{take_set, drop_set}
use Rattle.pool.proofs.Holds.{cut_keys, taken_head, taken_long}
use Rattle.formed.specs.Pages.{LayoutRule, dynamic, group, journal_count, journal_place}
use Rattle.formed.specs.Parts.{tab, Note, entry_of, allocated, slot_of_chunk, holds, pool, byte_at, journal, note_place, note_address, note_first, note_last, old_place}
use Rattle.formed.specs.WellFormed.{WellFormed, Lengths, NotedRight, holder, slot_byte}
use Rattle.formed.proofs.Sizes.{holders_long, chunks_long, lengths_kept}
use Rattle.formed.proofs.Same.{layout_same, tab_upto}
use Rattle.formed.proofs.Numbers.{number_lt}
use Rattle.formed.proofs.Keys.{le_or_gt, in_table}
use Rattle.formed.proofs.Facts.{Facts, PageRight, SlotRight}
use Rattle.formed.proofs.Meaning.{facts_of, formed_by}
use Rattle.formed.proofs.Sense.{pool_count, slot_near, slot_far, holds_near}
use Rattle.view.specs.View.{view_of, setting_of}
use Rattle.view.specs.Steps.{missing}
use Rattle.view.specs.Does.{Shows}
use Rattle.view.specs.Inner.{holding}
use Rattle.view.proofs.Equal.{view_by}
use Rattle.chunks.proofs.Asks.{lacks_is}
use Rattle.chunks.proofs.Grown.{Grown, grown_was, grown_new}
use Rattle.chunks.proofs.Ranges.{only}

-- what is as it was, and what grew
pub record Took (k : ℕ) (keys order words keys' order' words' : List ℕ) : Type 0 where
  pub head : (i : ℕ) → i < pool_place words → (i ≡ 9 → ⊥) → (i ≡ 15 → ⊥) → get_or words' i 0 ≡ get_or words i 0
  pub words_long : length words' ≡ length words
  pub keys_long : length keys' ≡ length keys
  pub order_long : length order' ≡ length order
  pub pages : drop (slot_count words') keys' ≡ drop (slot_count words) keys
  pub page_order_lem : drop (slot_count words') order' ≡ drop (slot_count words) order
  pub grown : Grown k (take (slot_count words) keys) (take (slot_count words') keys')
  pub index : indexed (take (slot_count words') keys') (take (slot_count words') order') (held_now words') ≡ true
  pub pool : Pooling keys' words'

module _ (k : ℕ) (keys order words : List ℕ) (ix : Indexed keys order words) (pl : Pooling keys words) where
  took_was : seek (take (slot_count words) keys) k < slot_count words → Took k keys order words keys order words
  took_was l = record {
    head = λ i l n e. refl;
    words_long = refl;
    keys_long = refl;
    order_long = refl;
    pages = refl;
    page_order_lem = refl;
    grown = grown_was k (take (slot_count words) keys) (let c = cut_keys keys order words ix in omega arith);
    index = ix.index;
    pool = pl;
  }

  took_new : 0 < k → slot_count words ≤ seek (take (slot_count words) keys) k → (s : ℕ) (keys' order' words' : List ℕ) → s ≡ seek (take (slot_count words) keys') k
      → Taken k keys order words s keys' order' words' → Took k keys order words keys' order' words'
  took_new pos none s keys' order' words' at t =
      let cut = cut_keys keys order words ix in
      let room = pl.part.room in
      let hd : (i : ℕ) → i < pool_place words → (i ≡ 9 → ⊥) → (i ≡ 15 → ⊥) → get_or words' i 0 ≡ get_or words i 0 = taken_head k keys order words pl.part s keys' order' words' t in
      let c : slot_count words' ≡ slot_count words = hd 6 (omega arith) (λ e. omega arith) (λ e. omega arith) in
      let h : take (slot_count words) keys' ≡ set (take (slot_count words) keys) s k = ap (take (slot_count words)) t.keys_are ∙ take_set keys (slot_count words) s k t.slot_in in
      let l = t.slot_in in
      let z : get_or (take (slot_count words) keys) s 0 ≡ 0 = get_or-take (slot_count words) keys s 0 l ∙ t.unheld in
      let g : Grown k (take (slot_count words) keys) (set (take (slot_count words) keys) s k) = grown_new k (take (slot_count words) keys) pos (omega arith) s (omega arith) z (ap (λ (x : List ℕ). seek x k) (sym h) ∙ sym at) in
      record {
        head = hd;
        words_long = taken_long k keys order words pl.part s keys' order' words' t;
        keys_long = ap length t.keys_are ∙ length-set keys s k;
        order_long = t.order_long;
        pages = ap (λ (x : ℕ). drop x keys') c ∙ ap (drop (slot_count words)) t.keys_are ∙ drop_set keys (slot_count words) s k l;
        page_order_lem = ap (λ (x : ℕ). drop x order') c ∙ t.order_rest;
        grown = subst (Grown k (take (slot_count words) keys)) (sym (ap (λ (x : ℕ). take x keys') c ∙ h)) g;
        index = t.indexed_still.index;
        pool = t.pooling_still;
      }

  pub took : 0 < k → (s : ℕ) (keys' order' words' : List ℕ) → Held k keys order words s keys' order' words' → Took k keys order words keys' order' words'
  took pos s keys' order' words' h =
      ⊎_elim
      (λ (l : seek (take (slot_count words) keys) k < slot_count words). let q = h.was l in rw (q.0, q.1, q.2) (took_was l))
      (λ (l : slot_count words ≤ seek (take (slot_count words) keys) k). took_new pos l s keys' order' words' h.slot (h.new l))
      (lt_or_ge (seek (take (slot_count words) keys) k) (slot_count words))

module _ (bytes keys order words keys' order' words' : List ℕ) (f : WellFormed (mem bytes keys order words)) (k : ℕ) (pos : 0 < k)
    (used : 0 < get_or (drop (slot_count words) keys) (key_entry k) 0) (low : key_chunk k ≤ 16777216) (t : Took k keys order words keys' order' words') where
  abbrev m : Mem
  m = mem bytes keys order words

  abbrev m' : Mem
  m' = mem bytes keys' order' words'

  facts : Facts m
  facts = facts_of m f

  -- the head and the journals lie before the pool
  before : 16 + 6 * journal_words words ≡ pool_place words
  before = let h = f.lengths.in_words in omega arith

  head_same : (i : ℕ) → i < 15 → (i ≡ 9 → ⊥) → get_or words' i 0 ≡ get_or words i 0
  head_same i l n = t.head i (let h = before in omega arith) n (λ e. omega arith)

  slots_same : slot_count words' ≡ slot_count words
  slots_same = head_same 6 (omega arith) (λ e. omega arith)

  pages_same : page_count words' ≡ page_count words
  pages_same = head_same 7 (omega arith) (λ e. omega arith)

  room_same : journal_words words' ≡ journal_words words
  room_same = head_same 8 (omega arith) (λ e. omega arith)

  layouts_same : layout_of words' ≡ layout_of words
  layouts_same = layout_same words words' (λ i l. head_same i (omega arith) (λ e. omega arith))

  dynamic_same : dynamic_length words' ≡ dynamic_length words
  dynamic_same = head_same 11 (omega arith) (λ e. omega arith)

  length_same : (j : ℕ) → j < journal_count → journal_length words' j ≡ journal_length words j
  length_same j l = head_same (12 + j) (omega arith) (λ e. omega arith)

  byte_same : (s r : ℕ) → slot_byte m' s r ≡ slot_byte m s r
  byte_same s r = ap (λ (x : ℕ). get_or (take (256 * x) bytes) (256 * s + r) 0) slots_same

  cut : length (holders m) ≡ slot_count words
  cut = holders_long m f.lengths

  -- ---- it is well formed
  lengths' : Lengths m'
  lengths' =
      lengths_kept m m' (record { slots = slots_same; pages = pages_same; journals = room_same; bytes_long = refl; keys_long = t.keys_long; order_long = t.order_long; words_long = t.words_long }) f.lengths

  listed' : (e : ℕ) → 4 ≤ e → 0 < get_or (entries m') e 0 → PageRight words' (get_or (entries m') e 0)
  listed' e ge p =
      let q : get_or (entries m') e 0 ≡ get_or (entries m) e 0 = ap (λ (x : List ℕ). get_or x e 0) t.pages in
      let h = facts.listed e ge (omega arith) in
      record {
        width = let w = h.width in omega arith;
        kind = ap (λ (l : Layout). dynamic l (get_or (entries m') e 0 - 1)) layouts_same ∙ ap (λ (x : ℕ). dynamic (layout_of words) (x - 1)) q ∙ h.kind;
        below = lt_by (ap (λ (l : Layout). group l (get_or (entries m') e 0 - 1)) layouts_same ∙ ap (λ (x : ℕ). group (layout_of words) (x - 1)) q) dynamic_same h.below;
      }

  pooled' : (s : ℕ) → s < slot_count words' → holder m' s ≡ 0 → (r : ℕ) → r < 256 → slot_byte m' s r ≡ 0
  pooled' s l z r lr =
      let c = slots_same in
      ⊎_elim
      (λ (y : holder m s ≡ 0). byte_same s r ∙ facts.pooled s (omega arith) y r lr)
      (λ (n : holder m s ≡ 0 → ⊥). let h = t.grown.kept s (omega arith) in absurd (omega arith))
      (same_or_not (holder m s) 0)

  held' : (s : ℕ) → 0 < holder m' s → SlotRight m' s (holder m' s)
  held' s p =
      let i = in_table (holders m') s p in
      let g = t.grown.long in
      let c = cut in
      ⊎_elim
      (λ (z : holder m s ≡ 0).
      ⊎_elim
      (λ (e : holder m' s ≡ 0). absurd (omega arith))
      (λ (e : holder m' s ≡ k).
      subst (λ (x : ℕ). SlotRight m' s x) (sym e) (record {
        entry = subst (λ (x : List ℕ). 0 < get_or x (key_entry k) 0) (sym t.pages) used;
        top = low;
        tail = λ q r lo hi. byte_same s r ∙ facts.pooled s (omega arith) z r hi;
      }))
      (t.grown.new s z))
      (λ (n : holder m s ≡ 0 → ⊥).
      let h = facts.held s (omega arith) in
      subst (λ (x : ℕ). SlotRight m' s x) (sym (t.grown.kept s (omega arith))) (record {
        entry = subst (λ (x : List ℕ). 0 < get_or x (key_entry (holder m s)) 0) (sym t.pages) h.entry;
        top = h.top;
        tail = λ q r lo hi. byte_same s r ∙ h.tail q r lo hi;
      }))
      (same_or_not (holder m s) 0)

  -- number x of word i of journal j
  note_same : (j i x : ℕ) → j < journal_count → i < journal_words words → x < 3 → get_or words' (note_place m'.words j i + x) 0 ≡ get_or words (note_place m.words j i + x) 0
  note_same j i x lj li lx =
      ap (λ (r : ℕ). get_or words' (16 + 3 * (r * j + i) + x) 0) room_same
      ∙ t.head (note_place m.words j i + x) (let n = number_lt (journal_words words) j i journal_count lj li in let h = before in omega arith) (λ e. omega arith) (λ e. omega arith)

  address_same : (j i : ℕ) → j < journal_count → i < journal_words words → note_address m' j i ≡ note_address m j i
  address_same j i lj li =
      let z : note_place m'.words j i ≡ note_place m'.words j i + 0 = omega arith in
      let y : note_place m.words j i + 0 ≡ note_place m.words j i = omega arith in
      ap (λ (x : ℕ). get_or words' x 0) z ∙ note_same j i 0 lj li (omega arith) ∙ ap (λ (x : ℕ). get_or words x 0) y

  notes' : (j i : ℕ) → j < journal_count → i < journal_length words' j → NotedRight m' j i
  notes' j i lj li =
      let l = length_same j lj in
      let n = facts.notes j i lj (omega arith) in
      let c = facts.in_capacity j lj in
      let a = address_same j i lj (omega arith) in
      record {
        address = let h = n.address in omega arith;
        first = ap (holder m') (note_same j i 1 lj (omega arith) (omega arith)) ∙ t.grown.kept (note_first m j i) (let h = n.first in omega arith) ∙ n.first ∙ ap (λ (x : ℕ). key_of (journal_place j) (x / 256)) (sym a);
        last = ap (holder m') (note_same j i 2 lj (omega arith) (omega arith)) ∙ t.grown.kept (note_last m j i) (let h = n.last in omega arith) ∙ n.last ∙ ap (λ (x : ℕ). key_of (journal_place j) ((x + 31) / 256)) (sym a);
      }

  pub took_formed : WellFormed m'
  took_formed = formed_by m' (record {
    lengths = lengths';
    layout = subst LayoutRule (sym layouts_same) f.layout;
    layout_width = λ i l. let h = facts.layout_width i l in let e = head_same i (omega arith) (λ e. omega arith) in omega arith;
    length_width = let h = facts.length_width in let e = dynamic_same in omega arith;
    slots = t.index;
    pages =
        ap (λ (x : List ℕ). indexed x (drop (slot_count words') order') (in_use words')) t.pages ∙ ap (λ (x : List ℕ). indexed (drop (slot_count words) keys) x (in_use words')) t.page_order_lem
        ∙ ap (indexed (drop (slot_count words) keys) (drop (slot_count words) order)) (head_same 10 (omega arith) (λ e. omega arith)) ∙ facts.pages;
    fixed_four = λ e l. ap (λ (x : List ℕ). get_or x e 0) t.pages ∙ facts.fixed_four e l ∙ ap (λ (x : ℕ). x + 1) (sym (head_same e (omega arith) (λ q. omega arith)));
    listed = listed';
    pooled = pooled';
    held = held';
    pool = t.pool;
    in_capacity = λ j l. let h = facts.in_capacity j l in let a = length_same j l in let b = room_same in omega arith;
    notes = notes';
  })

  pub took_setting : setting_of m' ≡ setting_of m
  took_setting = rw (layouts_same, slots_same, pages_same, room_same)

  -- ---- its view
  entry_same : (q : ℕ) → entry_of m' q ≡ entry_of m q
  entry_same q = ap (λ (x : List ℕ). seek x (q + 1)) t.pages

  key_byte : (j r : ℕ) → 0 < j → r < 256 → slot_byte m (seek (holders m') j) r ≡ slot_byte m (seek (holders m) j) r
  key_byte j r pj lr =
      let c = cut in
      let b = chunks_long m f.lengths in
      ⊎_elim
      (λ (e : j ≡ k).
      ⊎_elim
      (λ (same : seek (holders m') k ≡ seek (holders m) k). ap (λ (x : ℕ). slot_byte m x r) (ap (seek (holders m')) e ∙ same ∙ ap (seek (holders m)) (sym e)))
      (λ (new : (get_or (holders m) (seek (holders m') k) 0 ≡ 0) × (length (holders m) ≤ seek (holders m) k)).
      let i = t.grown.inside in
      let past : length (holders m) ≤ seek (holders m) j = subst (λ (x : ℕ). length (holders m) ≤ seek (holders m) x) (sym e) new.1 in
      ap (λ (x : ℕ). slot_byte m (seek (holders m') x) r) e ∙ facts.pooled (seek (holders m') k) (omega arith) new.0 r lr ∙ sym (get_or-eq_default (chunk_bytes m) 0 (omega arith)))
      t.grown.place)
      (λ (n : j ≡ k → ⊥). ap (λ (x : ℕ). slot_byte m x r) (t.grown.others j pj n))
      (same_or_not j k)

  pub took_bytes : (q a : ℕ) → byte_at m' q a ≡ byte_at m q a
  unfolding byte_at
  took_bytes q a =
      byte_same (slot_of_chunk m' q (a / 256)) (a % 256)
      ∙ ⊎_elim
      (λ (near : a / 256 ≤ 16777216).
      ap (λ (x : ℕ). slot_byte m x (a % 256)) (slot_near m' q (a / 256) near ∙ ap (λ (x : ℕ). seek (holders m') (key_of x (a / 256))) (entry_same q))
      ∙ key_byte (key_of (entry_of m q) (a / 256)) (a % 256) (omega arith) (omega arith) ∙ ap (λ (x : ℕ). slot_byte m x (a % 256)) (sym (slot_near m q (a / 256) near)))
      (λ (far : 16777216 < a / 256). ap (λ (x : ℕ). slot_byte m x (a % 256)) (slot_far m' q (a / 256) far ∙ slots_same ∙ sym (slot_far m q (a / 256) far)))
      (le_or_gt (a / 256) 16777216)

  -- every other chunk has the slot that it had
  slot_other : (q j : ℕ) → (j ≤ 16777216 → key_of (entry_of m q) j ≡ k → ⊥) → slot_of_chunk m' q j ≡ slot_of_chunk m q j
  slot_other q j n =
      ⊎_elim
      (λ (near : j ≤ 16777216).
      slot_near m' q j near ∙ ap (λ (x : ℕ). seek (holders m') (key_of x j)) (entry_same q) ∙ t.grown.others (key_of (entry_of m q) j) (omega arith) (n near) ∙ sym (slot_near m q j near))
      (λ (far : 16777216 < j). slot_far m' q j far ∙ slots_same ∙ sym (slot_far m q j far))
      (le_or_gt j 16777216)

  took_other : (q j : ℕ) → (j ≤ 16777216 → key_of (entry_of m q) j ≡ k → ⊥) → holds m' q j ≡ holds m q j
  unfolding holds
  took_other q j n = ap (λ (x : ℕ). ltb x (slot_count words')) (slot_other q j n) ∙ ap (ltb (slot_of_chunk m q j)) slots_same

  pub took_allocated : (q : ℕ) → allocated m' q ≡ allocated m q
  unfolding allocated
  took_allocated q = ap (λ (x : List ℕ). ltb (seek x (q + 1)) (length x)) t.pages

  pub took_entries : free_count (entries m') ≡ free_count (entries m)
  took_entries = ap free_count t.pages

  abbrev note_of : ℕ → ℕ → Note
  note_of a at = record { address = a; old = tab 32 (λ x. get_or bytes (at + x) 0) }

  took_journal : (j : ℕ) → j < journal_count → journal m' j ≡ journal m j
  unfolding journal
  took_journal j lj =
      ap (λ (n : ℕ). tab n (λ i. note_of (note_address m' j i) (old_place m'.words j i))) (length_same j lj)
      ∙ tab_upto (journal_length words j) _ (λ i. note_of (note_address m j i) (old_place m.words j i))
      (λ i li.
      let cap = facts.in_capacity j lj in
      ap (λ (x : ℕ). note_of x (old_place m'.words j i)) (address_same j i lj (omega arith)) ∙ ap (note_of (note_address m j i)) (let c = slots_same in let r = ap (λ (x : ℕ). x * j) room_same in omega arith))

  view_journal : (j : ℕ) → (view_of m').journal j ≡ (view_of m).journal j
  view_journal j =
      ⊎_elim
      (λ (l : j < journal_count). ap (λ (x : List Note). cond (ltb j journal_count) x []) (took_journal j l))
      (λ (l : journal_count ≤ j). rw (le-ltb j journal_count l) refl)
      (lt_or_ge j journal_count)

  -- ---- where the key is that of chunk n of page p
  module _ (p n : ℕ) (listed : allocated m p ≡ true) (near : n ≤ 16777216) (is : k ≡ key_of (entry_of m p) n) where
    page_in : entry_of m p < length (entries m)
    unfolding allocated
    page_in = ltb-true (entry_of m p) (length (entries m)) listed

    page_same_lem : (q : ℕ) → entry_of m q ≡ entry_of m p → q ≡ p
    page_same_lem q e =
        let l = page_in in
        let a = seek_hit (entries m) (p + 1) l in
        let b = seek_hit (entries m) (q + 1) (omega arith) in
        let d : get_or (entries m) (entry_of m q) 0 ≡ get_or (entries m) (entry_of m p) 0 = ap (λ (x : ℕ). get_or (entries m) x 0) e in
        omega arith

    took_now : holds m' p n ≡ true
    took_now =
        let c = cut in
        let s = slots_same in
        let i = t.grown.inside in
        holds_near m' p n near ∙ ap (λ (x : ℕ). ltb (seek (holders m') (key_of x n)) (slot_count words')) (entry_same p) ∙ ap (λ (x : ℕ). ltb (seek (holders m') x) (slot_count words')) (sym is)
        ∙ lt-ltb (seek (holders m') k) (slot_count words') (omega arith)

    took_held : (q j : ℕ) → holds m' q j ≡ ((eqb q p && (leb n j && ltb j (n + 1))) || holds m q j)
    took_held q j =
        rw (only n j)
        (⊎_elim
        (λ (e : q ≡ p).
        rw (eq-eqb q p e)
        (⊎_elim
        (λ (d : j ≡ n). rw (eq-eqb j n d) (rw (e, d) took_now))
        (λ (d : j ≡ n → ⊥). rw (ne_eqb j n d) (took_other q j (λ l h. d (let g = ap (entry_of m) e in omega arith))))
        (same_or_not j n)))
        (λ (e : q ≡ p → ⊥). rw (ne_eqb q p e) (took_other q j (λ l h. e (page_same_lem q (omega arith)))))
        (same_or_not q p))

    pub took_pool : pool m' ≡ pool m - missing (holds m p) n 1
    took_pool =
        let before = pool_count m f in
        let after = pool_count m' took_formed in
        let a = t.grown.left in
        let b = missing_one (holds m p) n in
        let d : lacks (holders m) k ≡ cond (holds m p n) 0 1 = ap (lacks (holders m)) is ∙ lacks_is m f p n near in
        omega arith

    pub took_shows : Shows (setting_of m) (holding p n 1 (view_of m)) m'
    took_shows = record {
      formed = took_formed;
      setting = took_setting;
      view =
          view_by (view_of m') (holding p n 1 (view_of m)) took_bytes took_held took_pool took_allocated took_entries dynamic_same view_journal;
    }
