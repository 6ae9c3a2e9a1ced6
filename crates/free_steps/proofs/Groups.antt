-- Pages of the groups from a number up are freed entry by entry, and the dynamic length is lowered.
-- Assumes nothing.
use mathlib.Core.Path.{◌≡◌, refl, sym, ap, ◌∙◌, subst}
use mathlib.Core.Logic.{⊎_elim}
use mathlib.Core.Bool.{Bool, true, false, cond, not, ◌&&◌, ◌||◌, true≢false, false≢true}
use mathlib.Core.List.{List, []}
use Prim.Native.Nat.{ℕ, ◌+◌, ◌*◌, ◌-◌, ◌≤◌, ◌<◌}
use native.Mathlib.Omega.{arith}
use lib.Dec.{leb, ltb, eqb}
use lib.ListN.{length, get_or, set, take, drop, length-set}
use lib.Seq.{get_or-set_same, get_or-set_other, get_or-drop}
use borrow.Author.Tests.{ltb-true, le-leb, eq-eqb, ne_eqb}
use Rattle.store.specs.Keys.{key_entry}
use Rattle.index.specs.Index.{indexed, free_count}
use Rattle.index.proofs.Logic.{same_or_not, lt_or_ge, and_right}
use Rattle.index.proofs.Places.{seek_hit}
use Rattle.page_ids.specs.declared.Layout.{Layout}
use Rattle.bits.specs.Bits.{ones_of}
use Rattle.store.specs.Mem.{Mem, mem, head_length, layout_of, slot_count, page_count, journal_words, journal_length, dynamic_length, held_now, in_use, holders, entries, pool_place}
use Rattle.store.proofs.Pool.{pool_kept, pooling_kept}
use Rattle.formed.specs.Pages.{LayoutRule, dynamic, group, journal_count}
use Rattle.formed.specs.Parts.{Note, tab, entry_of, allocated, slot_of_chunk, holds, byte_at, journal, note_address, old_place}
use Rattle.formed.specs.WellFormed.{WellFormed, Lengths, NotedRight}
use Rattle.formed.proofs.Same.{layout_same, tab_same}
use Rattle.formed.proofs.Sizes.{entries_long, lengths_kept}
use Rattle.formed.proofs.Pages.{is_fixed_lem}
use Rattle.formed.proofs.Facts.{Facts, PageRight, SlotRight}
use Rattle.formed.proofs.Meaning.{facts_of, formed_by}
use Rattle.formed.proofs.Sense.{in_table_allocated, unlisted_holds}
use Rattle.view.specs.View.{View, Setting, view_of, setting_of}
use Rattle.view.specs.Steps.{from_group, without, freed, shortened}
use Rattle.view.specs.Does.{Shows}
use Rattle.view.proofs.Counts.{fixed_only}
use Rattle.view.proofs.Equal.{view_by}
use Rattle.view.proofs.Dropping.{without_then, without_same, without_none}
use Rattle.drops.specs.Drops.{EntriesBut, PageAsks}
use Rattle.formed.proofs.Above.{dynamic_above}
use Rattle.free_steps.specs.Freeing.{emptied, is_from, VisitAsks, Visited, ShortenAsks}

-- ---- one entry's number
pub not_told : (l : Layout) (n x : ℕ) → x ≡ 0 → false ≡ is_from l n x
not_told l n x e = rw e

pub told_by : (l : Layout) (n x : ℕ) → (x ≡ 0 → ⊥) → leb n (group l (x - 1)) ≡ is_from l n x
told_by l n x e = rw (ne_eqb x 0 e)

told_used : (l : Layout) (n x : ℕ) → is_from l n x ≡ true → 0 < x
told_used l n x e =
    ⊎_elim (λ (z : x ≡ 0). absurd (false≢true (not_told l n x z ∙ e))) (λ (z : x ≡ 0 → ⊥). omega arith) (same_or_not x 0)

told_group : (l : Layout) (n x : ℕ) → is_from l n x ≡ true → leb n (group l (x - 1)) ≡ true
told_group l n x e = and_right (not (eqb x 0)) (leb n (group l (x - 1))) e

either : (l : Layout) (n : ℕ) (b : Bool) (x : ℕ) → is_from l n x ≡ false → is_from l n (cond b 0 x) ≡ false
either l n true x e = refl
either l n false x e = e

-- ---- one entry
module _ (m : Mem) (e : ℕ) (a : VisitAsks m e) where
  pub entry_at : get_or m.keys (slot_count m.words + e) 0 ≡ get_or (entries m) e 0
  entry_at = sym (get_or-drop (slot_count m.words) m.keys e 0)

  pub entry_in : slot_count m.words + e < length m.keys
  entry_in = let l = a.formed.lengths in let t = a.in_table in omega arith

  right : 0 < get_or (entries m) e 0 → PageRight m.words (get_or (entries m) e 0)
  right p = (facts_of m a.formed).listed e a.past_fixed p

  -- a page that is listed lies at or above the base
  pub above_base : 0 < get_or (entries m) e 0 → (layout_of m.words).base.0 < get_or (entries m) e 0
  above_base p = let h = dynamic_above (layout_of m.words) (get_or (entries m) e 0 - 1) (right p).kind in omega arith

  module _ (n : ℕ) (t : is_from (layout_of m.words) n (get_or (entries m) e 0) ≡ true) where
    pub used : 0 < get_or (entries m) e 0
    used = told_used (layout_of m.words) n (get_or (entries m) e 0) t

    pub few : get_or (entries m) e 0 ≤ 4294967296
    few = (right used).width

    pub page_asked : PageAsks m (get_or (entries m) e 0 - 1)
    page_asked = record { formed = a.formed; listed = in_table_allocated m a.formed e (get_or (entries m) e 0 - 1) (let h = used in omega arith); kind = (right used).kind }

  -- what the code computed, of the number that it read
  pub from_asked : (head_length ≤ length m.words) × (0 < (layout_of m.words).stride) × (0 < get_or m.keys (slot_count m.words + e) 0 → (layout_of m.words).base.0 < get_or m.keys (slot_count m.words + e) 0)
  from_asked =
      let l = a.formed.lengths.in_words in
      let s = a.formed.layout.stride in
      (omega arith, omega arith, λ p. let h = above_base (subst (λ (x : ℕ). 0 < x) entry_at p) in let q = entry_at in omega arith)

  module _ (n : ℕ) where
    pub at_told : (b : Bool) → b ≡ is_from (layout_of m.words) n (get_or m.keys (slot_count m.words + e) 0) → b ≡ true → is_from (layout_of m.words) n (get_or (entries m) e 0) ≡ true
    at_told b q t = ap (is_from (layout_of m.words) n) (sym entry_at) ∙ sym q ∙ t

    pub asked_by : is_from (layout_of m.words) n (get_or (entries m) e 0) ≡ true → PageAsks m (get_or m.keys (slot_count m.words + e) 0 - 1)
    asked_by t = subst (λ (x : ℕ). PageAsks m (x - 1)) (sym entry_at) (page_asked n t)

    pub freed_visit : is_from (layout_of m.words) n (get_or (entries m) e 0) ≡ true → (m' : Mem)
        → (Shows (setting_of m) (freed (setting_of m) (get_or m.keys (slot_count m.words + e) 0 - 1) (view_of m)) m') × EntriesBut (get_or m.keys (slot_count m.words + e) 0 - 1) m m' → Visited m n e m'
    freed_visit t m' d = record {
      free = λ _. subst (λ (x : ℕ). (Shows (setting_of m) (freed (setting_of m) (x - 1) (view_of m)) m') × EntriesBut (x - 1) m m') entry_at d;
      kept = λ f. absurd (true≢false (sym t ∙ f));
    }

    pub kept_visit : (b : Bool) → b ≡ is_from (layout_of m.words) n (get_or m.keys (slot_count m.words + e) 0) → b ≡ false → Visited m n e m
    kept_visit b q f = record { free = λ t. absurd (true≢false (sym t ∙ ap (is_from (layout_of m.words) n) (sym entry_at) ∙ sym q ∙ f)); kept = λ _. refl }

-- ---- the loop
-- the pages that are lost so far are those of the groups from n up that m' does not have
abbrev pub lost : Mem → ℕ → Mem → View
lost m n m' =
    without (setting_of m) (λ q k. from_group (layout_of m.words) n q && not (allocated m' q)) (λ q. from_group (layout_of m.words) n q && not (allocated m' q)) (view_of m)

pub record Freeing (m : Mem) (n e : ℕ) (m' : Mem) : Type 0 where
  pub shows : Shows (setting_of m) (lost m n m') m'
  pub passed : (i : ℕ) → 4 ≤ i → i < e → is_from (layout_of m.words) n (get_or (entries m') i 0) ≡ false

pub freeing_none : (m : Mem) (n : ℕ) → WellFormed m → Freeing m n 4 m
freeing_none m n f = record {
  shows = without_none m f _ _ (λ q k h. off (from_group (layout_of m.words) n q) (allocated m q) (held q k h)) (λ q h. off (from_group (layout_of m.words) n q) (allocated m q) h);
  passed = λ i a b. absurd (omega arith);
}
  where
    off : (b c : Bool) → c ≡ true → (b && not c) ≡ false
    off true c e = ap not e
    off false c e = refl

    held : (q k : ℕ) → holds m q k ≡ true → allocated m q ≡ true
    held q k h = go (allocated m q) refl
      where
        go : (b : Bool) → allocated m q ≡ b → b ≡ true
        go true e = refl
        go false e = absurd (true≢false (sym h ∙ unlisted_holds m f q k e))

module _ (m : Mem) (f : WellFormed m) (n e : ℕ) (m' : Mem) (i : Freeing m n e m') (ge : 4 ≤ e) where
  layouts : layout_of m'.words ≡ layout_of m.words
  layouts = ap (λ (s : Setting). s.layout) i.shows.setting

  -- the buffers are as long as they were
  pub long_kept : (length m'.bytes ≡ length m.bytes) × (length m'.keys ≡ length m.keys) × (length m'.order ≡ length m.order) × (length m'.words ≡ length m.words)
  long_kept =
      let c : slot_count m'.words ≡ slot_count m.words = ap (λ (s : Setting). s.chunks) i.shows.setting in
      let p : page_count m'.words ≡ page_count m.words = ap (λ (s : Setting). s.pages) i.shows.setting in
      let r : journal_words m'.words ≡ journal_words m.words = ap (λ (s : Setting). s.journal_words) i.shows.setting in
      let l = f.lengths in
      let l' = i.shows.formed.lengths in
      (omega (arith, l.in_bytes, l'.in_bytes), omega (arith, l.in_keys, l'.in_keys), omega (arith, l.in_order, l'.in_order), omega (arith, l.in_words, l'.in_words))

  pages_kept : page_count m'.words ≡ page_count m.words
  pages_kept = ap (λ (s : Setting). s.pages) i.shows.setting

  pub visit_asked : e < page_count m.words + 4 → VisitAsks m' e
  visit_asked l = record { formed = i.shows.formed; past_fixed = ge; in_table = let p = pages_kept in omega arith }

  skip : is_from (layout_of m'.words) n (get_or (entries m') e 0) ≡ false → Freeing m n (e + 1) m'
  skip t = record {
    shows = i.shows;
    passed = λ j a b.
        ⊎_elim (λ (q : j ≡ e). ap (λ (l : Layout). is_from l n (get_or (entries m') j 0)) (sym layouts) ∙ ap (λ (x : ℕ). is_from (layout_of m'.words) n (get_or (entries m') x 0)) q ∙ t)
        (λ (q : j ≡ e → ⊥). i.passed j a (omega arith))
        (same_or_not j e);
  }

  module _ (a : VisitAsks m' e) (t : is_from (layout_of m'.words) n (get_or (entries m') e 0) ≡ true) where
    abbrev p : ℕ
    p = get_or (entries m') e 0 - 1

    number : get_or (entries m') e 0 ≡ p + 1
    number = let h = used m' e a n t in omega arith

    doomed : from_group (layout_of m.words) n p ≡ true
    doomed =
        let k : dynamic (layout_of m.words) p ≡ true = ap (λ (l : Layout). dynamic l p) (sym layouts) ∙ (page_asked m' e a n t).kind in
        let g : leb n (group (layout_of m.words) p) ≡ true = ap (λ (l : Layout). leb n (group l p)) (sym layouts) ∙ told_group (layout_of m'.words) n (get_or (entries m') e 0) t in
        rw (k, g)

    module _ (m₂ : Mem) (done : (Shows (setting_of m') (freed (setting_of m') p (view_of m')) m₂) × EntriesBut p m' m₂) where
      pages_now : (q : ℕ) → allocated m₂ q ≡ (allocated m' q && not (eqb q p))
      pages_now q = ap (λ (v : View). v.allocated q) done.0.view

      one_more : (q : ℕ) → ((from_group (layout_of m.words) n q && not (allocated m' q)) || eqb q p) ≡ (from_group (layout_of m.words) n q && not (allocated m₂ q))
      one_more q = rw (pages_now q)
          (⊎_elim (λ (h : q ≡ p). rw (eq-eqb q p h, ap (from_group (layout_of m.words) n) h ∙ doomed) (now (allocated m' q))) (λ (h : q ≡ p → ⊥). rw (ne_eqb q p h) (as_was (from_group (layout_of m.words) n q) (allocated m' q))) (same_or_not q p))
        where
          now : (b : Bool) → (not b || true) ≡ not (b && false)
          now true = refl
          now false = refl

          as_was : (a b : Bool) → ((a && not b) || false) ≡ (a && not (b && true))
          as_was true true = refl
          as_was true false = refl
          as_was false b = refl

      more : Freeing m n (e + 1) m₂
      more = record {
        shows =
            subst (λ (v : View). Shows (setting_of m) v m₂)
            (without_same (setting_of m) _ (λ q k. from_group (layout_of m.words) n q && not (allocated m₂ q)) _ (λ q. from_group (layout_of m.words) n q && not (allocated m₂ q)) (view_of m) m (record { formed = f; setting = refl; view = refl }) (λ q k h. one_more q) (λ q h. one_more q))
            (without_then (setting_of m) (λ q k. from_group (layout_of m.words) n q && not (allocated m' q)) (λ q k. eqb q p) (λ q. from_group (layout_of m.words) n q && not (allocated m' q)) (λ q. eqb q p) (view_of m) m' m₂ i.shows
            (subst (λ (s : Setting). Shows s (freed s p (view_of m')) m₂) i.shows.setting done.0));
        passed = λ j a b.
            ap (is_from (layout_of m.words) n) (done.1 j)
            ∙ ⊎_elim (λ (q : j ≡ e). rw (eq-eqb (get_or (entries m') j 0) (p + 1) (ap (λ (x : ℕ). get_or (entries m') x 0) q ∙ number)))
            (λ (q : j ≡ e → ⊥). either (layout_of m.words) n (eqb (get_or (entries m') j 0) (p + 1)) (get_or (entries m') j 0) (i.passed j a (omega arith)))
            (same_or_not j e);
      }

  -- either way
  pub visited : VisitAsks m' e → (m₂ : Mem) → Visited m' n e m₂ → Freeing m n (e + 1) m₂
  visited a m₂ v = go (is_from (layout_of m'.words) n (get_or (entries m') e 0)) refl
    where
      go : (b : Bool) → is_from (layout_of m'.words) n (get_or (entries m') e 0) ≡ b → Freeing m n (e + 1) m₂
      go true t = more a t m₂ (v.free t)
      go false t = subst (Freeing m n (e + 1)) (sym (v.kept t)) (skip t)

  -- ---- the end: no page is left of the groups from n up
  module _ (end : page_count m.words + 4 ≤ e) where
    none_left : (q : ℕ) → allocated m' q ≡ true → from_group (layout_of m.words) n q ≡ false
    unfolding allocated
    none_left q h =
        let fits = ltb-true (entry_of m' q) (length (entries m')) h in
        let at = seek_hit (entries m') (q + 1) fits in
        let long = entries_long m' i.shows.formed.lengths in
        let same = pages_kept in
        ⊎_elim
        (λ (low : entry_of m' q < 4).
        let v = i.shows.formed.encoded.fixed_four (entry_of m' q) low in
        let x = fixed_only (layout_of m'.words) q (is_fixed_lem (layout_of m'.words) q (entry_of m' q) low (omega arith)) in
        ap (λ (l : Layout). from_group l n q) (sym layouts) ∙ rw x)
        (λ (high : 4 ≤ entry_of m' q).
        let t : is_from (layout_of m.words) n (q + 1) ≡ false = ap (is_from (layout_of m.words) n) (sym at) ∙ i.passed (entry_of m' q) high (omega arith) in
        let z : q + 1 - 1 ≡ q = omega arith in
        off (dynamic (layout_of m.words) q) (leb n (group (layout_of m.words) q)) (ap (λ (x : ℕ). leb n (group (layout_of m.words) x)) (sym z) ∙ told_by (layout_of m.words) n (q + 1) (λ y. omega arith) ∙ t))
        (lt_or_ge (entry_of m' q) 4)
      where
        off : (a b : Bool) → b ≡ false → (a && b) ≡ false
        off true b e = e
        off false b e = refl

    pub emptied_shows : Shows (setting_of m) (emptied (setting_of m) n (view_of m)) m'
    emptied_shows =
        subst (λ (v : View). Shows (setting_of m) v m')
        (without_same (setting_of m) (λ q k. from_group (layout_of m.words) n q && not (allocated m' q)) (λ q k. from_group (layout_of m.words) n q) (λ q. from_group (layout_of m.words) n q && not (allocated m' q)) (from_group (layout_of m.words) n) (view_of m) m (record { formed = f; setting = refl; view = refl })
        (λ q k h. same q) (λ q h. same q))
        i.shows
      where
        same : (q : ℕ) → (from_group (layout_of m.words) n q && not (allocated m' q)) ≡ from_group (layout_of m.words) n q
        same q = go (allocated m' q) refl (from_group (layout_of m.words) n q) refl
          where
            go : (b : Bool) → allocated m' q ≡ b → (c : Bool) → from_group (layout_of m.words) n q ≡ c → (c && not b) ≡ c
            go true e true d = absurd (true≢false (sym d ∙ none_left q e))
            go true e false d = refl
            go false e true d = refl
            go false e false d = refl

-- ---- the dynamic length is lowered
module _ (bytes keys order words : List ℕ) (n : ℕ) (a : ShortenAsks (mem bytes keys order words) n) where
  abbrev o : Mem
  o = mem bytes keys order words

  abbrev o' : Mem
  o' = mem bytes keys order (set words 11 n)

  abbrev w : List ℕ
  w = set words 11 n

  head : (i : ℕ) → (i ≡ 11 → ⊥) → get_or w i 0 ≡ get_or words i 0
  head i ne = get_or-set_other words 11 i n 0 ne

  eleven : dynamic_length w ≡ n
  eleven = get_or-set_same words 11 n 0 (let l = a.formed.lengths in omega arith)

  facts : Facts o
  facts = facts_of o a.formed

  layout_o : layout_of w ≡ layout_of words
  layout_o = layout_same words w (λ i l. head i (λ e. omega arith))

  slots_o : slot_count w ≡ slot_count words
  slots_o = head 6 (λ e. omega arith)

  pool_o : (i : ℕ) → pool_place words ≤ i → get_or w i 0 ≡ get_or words i 0
  pool_o i l = head i (λ e. let h = a.formed.lengths.in_words in omega arith)

  room_o : journal_words w ≡ journal_words words
  room_o = head 8 (λ e. omega arith)

  length_o : (j : ℕ) → journal_length w j ≡ journal_length words j
  length_o j = head (12 + j) (λ e. omega arith)

  -- a memory of the same parts is seen by them alone
  lengths_o : Lengths o'
  lengths_o =
      lengths_kept (mem bytes keys order words) o' (record { slots = slots_o; pages = head 7 (λ e. omega arith); journals = room_o; bytes_long = refl; keys_long = refl; order_long = refl; words_long = length-set words 11 n }) a.formed.lengths

  listed_o : (e : ℕ) → 4 ≤ e → 0 < get_or (entries o') e 0 → PageRight w (get_or (entries o') e 0)
  listed_o e ge p =
      let q : get_or (entries o') e 0 ≡ get_or (entries o) e 0 = ap (λ (c : ℕ). get_or (drop c keys) e 0) slots_o in
      let h = facts.listed e ge (omega arith) in
      let x : get_or (entries o) e 0 ≡ get_or (entries o) e 0 - 1 + 1 = omega arith in
      let here = in_table_allocated o a.formed e (get_or (entries o) e 0 - 1) x in
      record {
        width = let y = h.width in omega arith;
        kind = ap (λ (l : Layout). dynamic l (get_or (entries o') e 0 - 1)) layout_o ∙ ap (λ (y : ℕ). dynamic (layout_of words) (y - 1)) q ∙ h.kind;
        below =
            let g : group (layout_of w) (get_or (entries o') e 0 - 1) ≡ group (layout_of words) (get_or (entries o) e 0 - 1) = ap (λ (l : Layout). group l (get_or (entries o') e 0 - 1)) layout_o ∙ ap (λ (y : ℕ). group (layout_of words) (y - 1)) q in
            let v = eleven in
            let low : group (layout_of words) (get_or (entries o) e 0 - 1) < n = ⊎_elim (λ (y : group (layout_of words) (get_or (entries o) e 0 - 1) < n). y) (λ (y : n ≤ group (layout_of words) (get_or (entries o) e 0 - 1)). absurd (false≢true (sym (a.none (get_or (entries o) e 0 - 1) (rw (h.kind, le-leb n (group (layout_of words) (get_or (entries o) e 0 - 1)) y))) ∙ here))) (lt_or_ge (group (layout_of words) (get_or (entries o) e 0 - 1)) n) in
            omega arith;
      }

  note_o : (j i x : ℕ) → get_or w (16 + 3 * (journal_words w * j + i) + x) 0 ≡ get_or words (16 + 3 * (journal_words words * j + i) + x) 0
  note_o j i x = ap (λ (r : ℕ). get_or w (16 + 3 * (r * j + i) + x) 0) room_o ∙ head (16 + 3 * (journal_words words * j + i) + x) (λ e. omega arith)

  address_o : (j i : ℕ) → note_address o' j i ≡ note_address o j i
  address_o j i = ap (λ (r : ℕ). get_or w (16 + 3 * (r * j + i)) 0) room_o ∙ head (16 + 3 * (journal_words words * j + i)) (λ e. omega arith)

  formed_o : WellFormed o'
  formed_o = formed_by o' (record {
    lengths = lengths_o;
    layout = subst LayoutRule (sym layout_o) a.formed.layout;
    layout_width = λ i l. let h = facts.layout_width i l in let e = head i (λ e. omega arith) in omega arith;
    length_width = let h = facts.length_width in let e = eleven in let y = a.most in omega arith;
    slots = ap (λ (c : ℕ). indexed (take c keys) (take c order) (held_now w)) slots_o ∙ ap (indexed (take (slot_count words) keys) (take (slot_count words) order)) (head 9 (λ e. omega arith)) ∙ facts.slots;
    pages = ap (λ (c : ℕ). indexed (drop c keys) (drop c order) (in_use w)) slots_o ∙ ap (indexed (drop (slot_count words) keys) (drop (slot_count words) order)) (head 10 (λ e. omega arith)) ∙ facts.pages;
    fixed_four = λ e l. ap (λ (c : ℕ). get_or (drop c keys) e 0) slots_o ∙ facts.fixed_four e l ∙ ap (λ (x : ℕ). x + 1) (sym (head e (λ q. omega arith)));
    listed = listed_o;
    pooled = λ s l z r h. ap (λ (c : ℕ). get_or (take (256 * c) bytes) (256 * s + r) 0) slots_o ∙ facts.pooled s (let c = slots_o in omega arith) (ap (λ (c : ℕ). get_or (take c keys) s 0) (sym slots_o) ∙ z) r h;
    held = slots_right;
    pool = pooling_kept words w (length-set words 11 n) slots_o pool_o keys keys (ap (λ (c : ℕ). take c keys) slots_o) (head 15 (λ e. omega arith)) facts.pool;
    in_capacity = λ j l. let h = facts.in_capacity j l in let x = length_o j in let y = room_o in omega arith;
    notes = notes_right;
  })
    where
      slots_right : (s : ℕ) → 0 < get_or (take (slot_count w) keys) s 0 → SlotRight o' s (get_or (take (slot_count w) keys) s 0)
      slots_right s pos =
          let q : get_or (take (slot_count w) keys) s 0 ≡ get_or (take (slot_count words) keys) s 0 = ap (λ (c : ℕ). get_or (take c keys) s 0) slots_o in
          let h = facts.held s (omega arith) in
          subst (λ (k : ℕ). SlotRight o' s k) (sym q) (record {
            entry = subst (λ (c : ℕ). 0 < get_or (drop c keys) (key_entry (get_or (take (slot_count words) keys) s 0)) 0) (sym slots_o) h.entry;
            top = h.top;
            tail = λ e r lo hi. ap (λ (c : ℕ). get_or (take (256 * c) bytes) (256 * s + r) 0) slots_o ∙ h.tail e r lo hi;
          })

      notes_right : (j i : ℕ) → j < journal_count → i < journal_length w j → NotedRight o' j i
      notes_right j i lj li =
          let x = length_o j in
          let h = facts.notes j i lj (omega arith) in
          let e = address_o j i in
          record {
            address = let y = h.address in omega arith;
            first = ap (λ (c : ℕ). get_or (take c keys) (get_or w (16 + 3 * (journal_words w * j + i) + 1) 0) 0) slots_o ∙ ap (λ (y : ℕ). get_or (holders o) y 0) (note_o j i 1) ∙ h.first ∙ rw e;
            last = ap (λ (c : ℕ). get_or (take c keys) (get_or w (16 + 3 * (journal_words w * j + i) + 2) 0) 0) slots_o ∙ ap (λ (y : ℕ). get_or (holders o) y 0) (note_o j i 2) ∙ h.last ∙ rw e;
          }

  bytes_o : (q b : ℕ) → byte_at o' q b ≡ byte_at o q b
  unfolding byte_at slot_of_chunk
  bytes_o q b = rw slots_o

  held_o : (q k : ℕ) → holds o' q k ≡ holds o q k
  unfolding holds slot_of_chunk
  held_o q k = rw slots_o

  pages_o : (q : ℕ) → allocated o' q ≡ allocated o q
  unfolding allocated
  pages_o q = rw slots_o

  abbrev note_of : Mem → ℕ → ℕ → Note
  note_of m j i = record { address = note_address m j i; old = tab 32 (λ x. get_or bytes (old_place m.words j i + x) 0) }

  journal_o : (j : ℕ) → journal o' j ≡ journal o j
  unfolding journal
  journal_o j =
      ap (λ (x : ℕ). tab x (note_of o' j)) (length_o j)
      ∙ tab_same (journal_length words j) (note_of o' j) (note_of o j)
      (λ i. rw (address_o j i) (ap (λ (y : ℕ). record { address = note_address o j i; old = tab 32 (λ x. get_or bytes (y + x) 0) }) (let c = slots_o in let r = ap (λ (x : ℕ). x * j) room_o in omega arith)))

  pub shortened_shows : Shows (setting_of o) (shortened n (view_of o)) o'
  shortened_shows = record {
    formed = formed_o;
    setting = rw (layout_o, slots_o, head 7 (λ e. omega arith), room_o);
    view = view_by (view_of o') (shortened n (view_of o)) bytes_o held_o (ap ones_of (pool_kept words w (length-set words 11 n) slots_o pool_o)) pages_o (ap (λ (c : ℕ). free_count (drop c keys)) slots_o) eleven
        (λ j. ap (λ (x : List Note). cond (ltb j journal_count) x []) (journal_o j));
  }
