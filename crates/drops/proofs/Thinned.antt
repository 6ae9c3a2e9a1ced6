-- A memory of which some slots were pooled and some entries freed: it is well formed, and its view is as before without their chunks and pages.
-- Assumes nothing.
use mathlib.Core.Path.{◌≡◌, refl, sym, ap, ◌∙◌, subst, fun_ext}
use mathlib.Core.Bool.{Bool, true, false, cond, not, ◌&&◌, false≢true}
use mathlib.Core.Logic.{⊎_elim}
use mathlib.Core.List.{List, []}
use Prim.Native.Nat.{ℕ, ◌+◌, ◌*◌, ◌-◌, ◌/◌, ◌%◌, ◌≤◌, ◌<◌}
use native.Mathlib.Omega.{arith}
use lib.Dec.{ltb}
use lib.ListN.{length, get_or}
use borrow.Author.Tests.{ltb-true, le-ltb}
use Rattle.store.specs.Keys.{key_of, key_entry, key_chunk}
use Rattle.index.proofs.Logic.{not_held, lt_or_ge}
use Rattle.index.specs.Index.{indexed}
use Rattle.index.proofs.Places.{seek_hit}
use Rattle.page_ids.specs.declared.Layout.{Layout}
use Rattle.store.specs.Mem.{Mem, layout_of, slot_count, journal_words, journal_length, held_now, in_use, dynamic_length, pool_place, holders, entries, slot_order, page_order}
use Rattle.store.specs.Pool.{Pooling}
use Rattle.formed.specs.Pages.{LayoutRule, dynamic, group, journal_count, journal_place}
use Rattle.formed.specs.Parts.{Note, tab, entry_of, allocated, slot_of_chunk, holds, byte_at, journal, note_place, note_address, note_first, note_last, old_place}
use Rattle.formed.specs.WellFormed.{WellFormed, Lengths, NotedRight, HeldAt, holder, slot_byte}
use Rattle.formed.proofs.Sizes.{holders_long, lengths_kept}
use Rattle.formed.proofs.Same.{layout_same, tab_same, tab_upto}
use Rattle.formed.proofs.Numbers.{number_lt}
use Rattle.formed.proofs.Keys.{in_table, key_entry_lem}
use Rattle.formed.proofs.Pages.{place_lt}
use Rattle.formed.proofs.Facts.{Facts, PageRight, SlotRight}
use Rattle.formed.proofs.Meaning.{facts_of, formed_by}
use Rattle.formed.proofs.Sense.{held_slot, held_holds, holds_held, held_byte, unheld_byte, in_table_allocated}
use Rattle.view.specs.View.{view_of, setting_of}
use Rattle.view.specs.Steps.{without}
use Rattle.view.specs.Does.{Shows}
use Rattle.view.proofs.Dropping.{without_shows}

-- m' is m with the slots pooled whose keys the test P tells, and the entries free whose numbers the test U tells. Neither is of a fixed page,
-- and no slot that is held still has such an entry
pub record Thinned (P U : ℕ → Bool) (m m' : Mem) : Type 0 where
  pub head : (i : ℕ) → i < pool_place m.words → (i ≡ 9 → ⊥) → (i ≡ 10 → ⊥) → (i ≡ 15 → ⊥) → get_or m'.words i 0 ≡ get_or m.words i 0
  pub bytes_long : length m'.bytes ≡ length m.bytes
  pub keys_long : length m'.keys ≡ length m.keys
  pub order_long : length m'.order ≡ length m.order
  pub words_long : length m'.words ≡ length m.words
  pub slots : (s : ℕ) → holder m' s ≡ cond (P (holder m s)) 0 (holder m s)
  pub pages : (e : ℕ) → get_or (entries m') e 0 ≡ cond (U (get_or (entries m) e 0)) 0 (get_or (entries m) e 0)
  pub chunk : (s r : ℕ) → s < slot_count m.words → r < 256 → slot_byte m' s r ≡ cond (P (holder m s)) 0 (slot_byte m s r)
  pub rest : (x : ℕ) → 256 * slot_count m.words ≤ x → get_or m'.bytes x 0 ≡ get_or m.bytes x 0
  pub slots_index : indexed (holders m') (slot_order m') (held_now m'.words) ≡ true
  pub pages_index : indexed (entries m') (page_order m') (in_use m'.words) ≡ true
  pub pool : Pooling m'.keys m'.words
  pub fixed_keys : (k : ℕ) → P k ≡ true → 4 ≤ key_entry k
  pub fixed_pages : (e : ℕ) → U (get_or (entries m) e 0) ≡ true → 4 ≤ e
  pub known : (s : ℕ) → 0 < holder m s → P (holder m s) ≡ false → U (get_or (entries m) (key_entry (holder m s)) 0) ≡ false

-- what is 0 or as it was, and not 0, is as it was
off : (b : Bool) (x y : ℕ) → x ≡ cond b 0 y → 0 < x → b ≡ false
off true x y e p = absurd (omega arith)
off false x y e p = refl

kept : (b : Bool) (x y : ℕ) → x ≡ cond b 0 y → b ≡ false → x ≡ y
kept b x y e f = e ∙ ap (λ (c : Bool). cond c 0 y) f

gone : (b : Bool) (x y : ℕ) → x ≡ cond b 0 y → b ≡ true → x ≡ 0
gone b x y e t = e ∙ ap (λ (c : Bool). cond c 0 y) t

-- an allocated page has its entry
at_entry : (m : Mem) (q : ℕ) → allocated m q ≡ true → get_or (entries m) (entry_of m q) 0 ≡ q + 1
unfolding allocated
at_entry m q h = seek_hit (entries m) (q + 1) (ltb-true (entry_of m q) (length (entries m)) h)

module _ (P U : ℕ → Bool) (m m' : Mem) (f : WellFormed m) (t : Thinned P U m m') where
  facts : Facts m
  facts = facts_of m f

  -- the head and the journals lie before the pool
  before : 16 + 6 * journal_words m.words ≡ pool_place m.words
  before = let h = f.lengths.in_words in omega arith

  words_same : (i : ℕ) → (i < 9) → get_or m'.words i 0 ≡ get_or m.words i 0
  words_same i l = t.head i (let h = before in omega arith) (λ e. omega arith) (λ e. omega arith) (λ e. omega arith)

  slots_same : slot_count m'.words ≡ slot_count m.words
  slots_same = words_same 6 (omega arith)

  room_same : journal_words m'.words ≡ journal_words m.words
  room_same = words_same 8 (omega arith)

  layouts_same : layout_of m'.words ≡ layout_of m.words
  layouts_same = layout_same m.words m'.words (λ i l. words_same i (omega arith))

  dynamic_same : dynamic_length m'.words ≡ dynamic_length m.words
  dynamic_same = t.head 11 (let h = before in omega arith) (λ e. omega arith) (λ e. omega arith) (λ e. omega arith)

  length_same : (j : ℕ) → j < journal_count → journal_length m'.words j ≡ journal_length m.words j
  length_same j l = t.head (12 + j) (let h = before in omega arith) (λ e. omega arith) (λ e. omega arith) (λ e. omega arith)

  -- ---- it is well formed
  lengths' : Lengths m'
  lengths' =
      lengths_kept m m' (record { slots = slots_same; pages = words_same 7 (omega arith); journals = room_same; bytes_long = t.bytes_long; keys_long = t.keys_long; order_long = t.order_long; words_long = t.words_long }) f.lengths

  entry_kept : (e : ℕ) → U (get_or (entries m) e 0) ≡ false → get_or (entries m') e 0 ≡ get_or (entries m) e 0
  entry_kept e n = kept (U (get_or (entries m) e 0)) _ _ (t.pages e) n

  entry_was : (e : ℕ) → 0 < get_or (entries m') e 0 → get_or (entries m') e 0 ≡ get_or (entries m) e 0
  entry_was e p = entry_kept e (off (U (get_or (entries m) e 0)) _ _ (t.pages e) p)

  slot_was : (s : ℕ) → 0 < holder m' s → P (holder m s) ≡ false
  slot_was s p = off (P (holder m s)) _ _ (t.slots s) p

  holder_kept : (s : ℕ) → P (holder m s) ≡ false → holder m' s ≡ holder m s
  holder_kept s n = kept (P (holder m s)) _ _ (t.slots s) n

  holder_was : (s : ℕ) → 0 < holder m' s → holder m' s ≡ holder m s
  holder_was s p = holder_kept s (slot_was s p)

  listed' : (e : ℕ) → 4 ≤ e → 0 < get_or (entries m') e 0 → PageRight m'.words (get_or (entries m') e 0)
  listed' e ge p =
      let q = entry_was e p in
      let h = facts.listed e ge (omega arith) in
      let d = dynamic_same in
      let b = h.below in
      let g : group (layout_of m'.words) (get_or (entries m') e 0 - 1) ≡ group (layout_of m.words) (get_or (entries m) e 0 - 1) = ap (λ (l : Layout). group l (get_or (entries m') e 0 - 1)) layouts_same ∙ ap (λ (x : ℕ). group (layout_of m.words) (x - 1)) q in
      record {
        width = let w = h.width in omega arith;
        kind = ap (λ (l : Layout). dynamic l (get_or (entries m') e 0 - 1)) layouts_same ∙ ap (λ (x : ℕ). dynamic (layout_of m.words) (x - 1)) q ∙ h.kind;
        below = omega arith;
      }

  pooled' : (s : ℕ) → s < slot_count m'.words → holder m' s ≡ 0 → (r : ℕ) → r < 256 → slot_byte m' s r ≡ 0
  pooled' s l z r lr = go (P (holder m s)) refl
    where
      go : (b : Bool) → P (holder m s) ≡ b → slot_byte m' s r ≡ 0
      go true e = gone (P (holder m s)) _ _ (t.chunk s r (let c = slots_same in omega arith) lr) e
      go false e =
          let h = holder_kept s e in
          kept (P (holder m s)) _ _ (t.chunk s r (let c = slots_same in omega arith) lr) e ∙ facts.pooled s (let c = slots_same in omega arith) (omega arith) r lr

  held_in : (s : ℕ) → 0 < holder m s → s < slot_count m.words
  held_in s p = let i = in_table (holders m) s p in let c = holders_long m f.lengths in omega arith

  held' : (s : ℕ) → 0 < holder m' s → SlotRight m' s (holder m' s)
  held' s p =
      let n = slot_was s p in
      let q = holder_was s p in
      let h = facts.held s (omega arith) in
      subst (λ (x : ℕ). SlotRight m' s x) (sym q) (record {
        entry = let e = entry_kept (key_entry (holder m s)) (t.known s (omega arith) n) in let g = h.entry in omega arith;
        top = h.top;
        tail = λ c r lo hi. kept (P (holder m s)) _ _ (t.chunk s r (held_in s (omega arith)) hi) n ∙ h.tail c r lo hi;
      })

  fixed_four' : (e : ℕ) → e < 4 → get_or (entries m') e 0 ≡ get_or m'.words e 0 + 1
  fixed_four' e l =
      let w = words_same e (omega arith) in
      let q = facts.fixed_four e l in
      let k = entry_kept e (not_held (U (get_or (entries m) e 0)) (λ u. let h = t.fixed_pages e u in omega arith)) in
      omega arith

  -- number x of word i of journal j
  note_same : (j i x : ℕ) → j < journal_count → i < journal_words m.words → x < 3 → get_or m'.words (note_place m'.words j i + x) 0 ≡ get_or m.words (note_place m.words j i + x) 0
  note_same j i x lj li lx =
      ap (λ (r : ℕ). get_or m'.words (16 + 3 * (r * j + i) + x) 0) room_same
      ∙ t.head (note_place m.words j i + x) (let n = number_lt (journal_words m.words) j i journal_count lj li in let h = before in omega arith) (λ e. omega arith) (λ e. omega arith) (λ e. omega arith)

  address_same : (j i : ℕ) → j < journal_count → i < journal_words m.words → note_address m' j i ≡ note_address m j i
  address_same j i lj li =
      let z : note_place m'.words j i ≡ note_place m'.words j i + 0 = omega arith in
      let y : note_place m.words j i + 0 ≡ note_place m.words j i = omega arith in
      ap (λ (x : ℕ). get_or m'.words x 0) z ∙ note_same j i 0 lj li (omega arith) ∙ ap (λ (x : ℕ). get_or m.words x 0) y

  -- a slot of a fixed page is as it was
  fixed_kept : (s j k : ℕ) → j < journal_count → k < 33554432 → holder m s ≡ key_of (journal_place j) k → holder m' s ≡ holder m s
  fixed_kept s j k lj lk e =
      holder_kept s (not_held (P (holder m s)) (λ p.
      let h = t.fixed_keys (holder m s) p in
      let w = place_lt j lj in
      let q : key_entry (holder m s) ≡ journal_place j = ap key_entry e ∙ key_entry_lem (journal_place j) k lk in
      omega arith))

  notes' : (j i : ℕ) → j < journal_count → i < journal_length m'.words j → NotedRight m' j i
  notes' j i lj li =
      let l = length_same j lj in
      let n = facts.notes j i lj (omega arith) in
      let c = facts.in_capacity j lj in
      let a = address_same j i lj (omega arith) in
      let w = n.address in
      record {
        address = omega arith;
        first = ap (holder m') (note_same j i 1 lj (omega arith) (omega arith)) ∙ fixed_kept (note_first m j i) j (note_address m j i / 256) lj (omega arith) n.first ∙ n.first ∙ ap (λ (x : ℕ). key_of (journal_place j) (x / 256)) (sym a);
        last = ap (holder m') (note_same j i 2 lj (omega arith) (omega arith)) ∙ fixed_kept (note_last m j i) j ((note_address m j i + 31) / 256) lj (omega arith) n.last ∙ n.last ∙ ap (λ (x : ℕ). key_of (journal_place j) ((x + 31) / 256)) (sym a);
      }

  pub thinned_formed : WellFormed m'
  thinned_formed = formed_by m' (record {
    lengths = lengths';
    layout = subst LayoutRule (sym layouts_same) f.layout;
    layout_width = λ i l. let h = facts.layout_width i l in let e = words_same i (omega arith) in omega arith;
    length_width = let h = facts.length_width in let e = dynamic_same in omega arith;
    slots = t.slots_index;
    pages = t.pages_index;
    fixed_four = fixed_four';
    listed = listed';
    pooled = pooled';
    held = held';
    pool = t.pool;
    in_capacity = λ j l. let h = facts.in_capacity j l in let a = length_same j l in let b = room_same in omega arith;
    notes = notes';
  })

  setting_same : setting_of m' ≡ setting_of m
  setting_same = rw (layouts_same, slots_same, words_same 7 (omega arith), room_same)

  -- ---- its view: what it holds, m held
  was_at : (s q k : ℕ) → HeldAt m' s q k → HeldAt m s q k
  was_at s q k h =
      let p = h.held in
      let e = holder_was s p in
      let x : get_or (entries m') (key_entry (holder m' s)) 0 ≡ get_or (entries m) (key_entry (holder m s)) 0 = ap (λ (y : ℕ). get_or (entries m') (key_entry y) 0) e ∙ entry_kept (key_entry (holder m s)) (t.known s (omega arith) (slot_was s p)) in
      record { held = omega arith; page = sym x ∙ h.page; chunk = ap key_chunk (sym e) ∙ h.chunk }

  is_at : (s q k : ℕ) → HeldAt m s q k → P (holder m s) ≡ false → HeldAt m' s q k
  is_at s q k h n =
      let p = h.held in
      let e = holder_kept s n in
      let x : get_or (entries m') (key_entry (holder m' s)) 0 ≡ get_or (entries m) (key_entry (holder m s)) 0 = ap (λ (y : ℕ). get_or (entries m') (key_entry y) 0) e ∙ entry_kept (key_entry (holder m s)) (t.known s p n) in
      record { held = omega arith; page = x ∙ h.page; chunk = ap key_chunk e ∙ h.chunk }

  pub pages_now : (q : ℕ) → allocated m' q ≡ (allocated m q && not (U (q + 1)))
  pages_now q = go (allocated m' q) refl (allocated m q) refl
    where
      go : (b : Bool) → allocated m' q ≡ b → (c : Bool) → allocated m q ≡ c → b ≡ (c && not (U (q + 1)))
      go true e true d =
          let x = at_entry m' q e in
          let y : get_or (entries m) (entry_of m' q) 0 ≡ q + 1 = sym (entry_was (entry_of m' q) (omega arith)) ∙ x in
          let n : U (q + 1) ≡ false = ap U (sym y) ∙ off (U (get_or (entries m) (entry_of m' q) 0)) _ _ (t.pages (entry_of m' q)) (omega arith) in
          rw n
      go true e false d =
          let x = at_entry m' q e in
          let y : get_or (entries m) (entry_of m' q) 0 ≡ q + 1 = sym (entry_was (entry_of m' q) (omega arith)) ∙ x in
          absurd (false≢true (sym d ∙ in_table_allocated m f (entry_of m' q) q y))
      go false e true d = sym (lost (U (q + 1)) refl)
        where
          lost : (u : Bool) → U (q + 1) ≡ u → (true && not u) ≡ false
          lost true w = refl
          lost false w =
              let x = at_entry m q d in
              absurd (false≢true (sym e ∙ in_table_allocated m' thinned_formed (entry_of m q) q (entry_kept (entry_of m q) (ap U x ∙ w) ∙ x)))
      go false e false d = refl

  -- D tells the chunks that P drops
  module _ (D : ℕ → ℕ → Bool) (drops : (s q k : ℕ) → HeldAt m s q k → D q k ≡ P (holder m s)) where
    at_once : (s q k : ℕ) → HeldAt m s q k → HeldAt m' (slot_of_chunk m' q k) q k → P (holder m s) ≡ false
    at_once s q k h h' =
        let e : slot_of_chunk m' q k ≡ s = sym (held_slot m f (slot_of_chunk m' q k) q k (was_at (slot_of_chunk m' q k) q k h')) ∙ held_slot m f s q k h in
        slot_was s (subst (λ (x : ℕ). 0 < holder m' x) e h'.held)

    pub held_now_lem : (q k : ℕ) → holds m' q k ≡ (holds m q k && not (D q k))
    held_now_lem q k = go (holds m' q k) refl (holds m q k) refl
      where
        go : (b : Bool) → holds m' q k ≡ b → (c : Bool) → holds m q k ≡ c → b ≡ (c && not (D q k))
        go true e true d =
            let h = holds_held m f q k d in
            rw (drops (slot_of_chunk m q k) q k h ∙ at_once (slot_of_chunk m q k) q k h (holds_held m' thinned_formed q k e))
        go true e false d =
            absurd (false≢true (sym d ∙ held_holds m f (slot_of_chunk m' q k) q k (was_at (slot_of_chunk m' q k) q k (holds_held m' thinned_formed q k e))))
        go false e true d = sym (lost (D q k) refl)
          where
            lost : (u : Bool) → D q k ≡ u → (true && not u) ≡ false
            lost true w = refl
            lost false w =
                let h = holds_held m f q k d in
                absurd (false≢true (sym e ∙ held_holds m' thinned_formed (slot_of_chunk m q k) q k (is_at (slot_of_chunk m q k) q k h (sym (drops (slot_of_chunk m q k) q k h) ∙ w))))
        go false e false d = refl

    pub bytes_now : (q a : ℕ) → byte_at m' q a ≡ cond (D q (a / 256)) 0 (byte_at m q a)
    bytes_now q a = go (holds m' q (a / 256)) refl (holds m q (a / 256)) refl
      where
        here : (n : Mem) (g : WellFormed n) (s : ℕ) → HeldAt n s q (a / 256) → byte_at n q a ≡ slot_byte n s (a % 256)
        here n g s h = let e : a ≡ 256 * (a / 256) + a % 256 = omega arith in ap (byte_at n q) e ∙ held_byte n g s q (a / 256) (a % 256) h (omega arith)

        either : (b : Bool) (x : ℕ) → x ≡ 0 → 0 ≡ cond b 0 x
        either true x e = refl
        either false x e = sym e

        go : (b : Bool) → holds m' q (a / 256) ≡ b → (c : Bool) → holds m q (a / 256) ≡ c → byte_at m' q a ≡ cond (D q (a / 256)) 0 (byte_at m q a)
        go true e c d =
            let h' = holds_held m' thinned_formed q (a / 256) e in
            let s = slot_of_chunk m' q (a / 256) in
            let h = was_at s q (a / 256) h' in
            let n = slot_was s h'.held in
            rw (drops s q (a / 256) h ∙ n)
            (here m' thinned_formed s h' ∙ kept (P (holder m s)) _ _ (t.chunk s (a % 256) (held_in s h.held) (omega arith)) n ∙ sym (here m f s h))
        go false e true d =
            let h = holds_held m f q (a / 256) d in
            let n : D q (a / 256) ≡ true = told (D q (a / 256)) (held_now_lem q (a / 256)) in
            unheld_byte m' thinned_formed q a e ∙ rw n
          where
            told : (b : Bool) → holds m' q (a / 256) ≡ (holds m q (a / 256) && not b) → b ≡ true
            told true w = refl
            told false w = absurd (false≢true (sym e ∙ w ∙ rw d))
        go false e false d = unheld_byte m' thinned_formed q a e ∙ either (D q (a / 256)) (byte_at m q a) (unheld_byte m f q a d)

    abbrev note_of : Mem → ℕ → ℕ → Note
    note_of n j i = record { address = note_address n j i; old = tab 32 (λ x. get_or n.bytes (old_place n.words j i + x) 0) }

    journal_same : (j : ℕ) → j < journal_count → journal m' j ≡ journal m j
    unfolding journal
    journal_same j lj =
        ap (λ (n : ℕ). tab n (note_of m' j)) (length_same j lj)
        ∙ tab_upto (journal_length m.words j) (note_of m' j) (note_of m j)
        (λ i li.
        let cap = facts.in_capacity j lj in
        rw (address_same j i lj (omega arith)) (ap (λ (o : List ℕ). record { address = note_address m j i; old = o })
        (tab_same 32 _ _ (λ x. ap (λ (y : ℕ). get_or m'.bytes (y + x) 0) (old_same j i) ∙ t.rest (old_place m.words j i + x) (omega arith)))))
      where
        old_same : (j i : ℕ) → old_place m'.words j i ≡ old_place m.words j i
        old_same j i = let c = slots_same in let r = ap (λ (x : ℕ). x * j) room_same in omega arith

    view_journal : (j : ℕ) → (view_of m').journal j ≡ (view_of m).journal j
    view_journal j =
        ⊎_elim
        (λ (l : j < journal_count). ap (λ (x : List Note). cond (ltb j journal_count) x []) (journal_same j l))
        (λ (l : journal_count ≤ j). rw (le-ltb j journal_count l) refl)
        (lt_or_ge j journal_count)

    pub thinned_shows : (free : ℕ → Bool) → ((q : ℕ) → U (q + 1) ≡ free q) → Shows (setting_of m) (without (setting_of m) D free (view_of m)) m'
    thinned_shows free is =
        without_shows m m' D free thinned_formed setting_same bytes_now held_now_lem (λ q. pages_now q ∙ ap (λ (b : Bool). allocated m q && not b) (is q)) dynamic_same
        (fun_ext view_journal)
