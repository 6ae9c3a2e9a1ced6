-- What giving slots back and freeing an entry leave, and what the calls ask.
-- Assumes nothing.
use mathlib.Core.Path.{◌≡◌, refl, sym, ap, ◌∙◌, subst}
use mathlib.Core.Logic.{⊎_elim}
use mathlib.Core.Bool.{Bool, true, false, cond, not, ◌&&◌, ◌||◌, false≢true}
use mathlib.Core.List.{List, ◌++◌}
use Prim.Native.Nat.{ℕ, ◌+◌, ◌*◌, ◌-◌, ◌≤◌, ◌<◌}
use native.Mathlib.Omega.{arith}
use lib.Dec.{leb, ltb, eqb}
use lib.ListN.{length, get_or, set, take, drop, length-set, length-append, length-drop, get_or-eq_default}
use lib.Seq.{get_or-take, get_or-set_same, get_or-set_other, length-take-le}
use borrow.Author.Tests.{leb-true, ltb-true, eq-eqb, ne_eqb, eqb-true}
use Rattle.store.specs.Keys.{key_entry, key_chunk, key_of}
use Rattle.index.specs.Index.{indexed, seek, key_at, LowerBound, Removed}
use Rattle.index.proofs.Logic.{same_or_not, lt_or_ge, and_left, and_right, le_of_not_lt, both_ways}
use Rattle.index.proofs.Orders.{index_fits}
use Rattle.index.proofs.Places.{seek_hit, find_past, find_gap}
use Rattle.index.proofs.Meaning.{once}
use Rattle.store.specs.Mem.{Mem, mem, layout_of, slot_count, page_count, held_now, in_use, holders, entries, slot_order, page_order}
use Rattle.pool.specs.Give.{within, Released}
use Rattle.store.proofs.Parts.{rest_low, rest_high, rest_part}
use Rattle.pool.proofs.Gives.{within_yes}
use Rattle.formed.specs.Pages.{dynamic}
use Rattle.formed.specs.Parts.{entry_of, allocated, slot_of_chunk, holds}
use Rattle.formed.specs.WellFormed.{WellFormed, HeldAt, holder, slot_byte}
use Rattle.formed.proofs.Sizes.{holders_long, entries_long}
use Rattle.formed.proofs.Keys.{seek_is, key_again}
use Rattle.formed.proofs.Pages.{is_fixed_lem}
use Rattle.formed.proofs.Meaning.{slots_index, pages_index, page_once, pooling_of}
use Rattle.store.proofs.Pool.{pooling_kept}
use Rattle.formed.proofs.Sense.{left_is, held_holds, holds_held}
use Rattle.view.specs.View.{View, Setting, view_of, setting_of}
use Rattle.view.specs.Steps.{freed}
use Rattle.view.specs.Does.{Shows}
use Rattle.view.proofs.Counts.{fixed_only}
use Rattle.view.proofs.Dropping.{without_then, without_same}
use Rattle.drops.specs.Drops.{dropping, unlisting, EntriesBut, PageAsks, DropAsks, UnlistAsks}
use Rattle.drops.proofs.Thinned.{Thinned, thinned_shows}

-- ---- the entry of a dynamic page
module _ (m : Mem) (p : ℕ) (a : PageAsks m p) where
  pub entry_in : entry_of m p < page_count m.words + 4
  unfolding allocated
  entry_in = let h = ltb-true (entry_of m p) (length (entries m)) a.listed in let l = entries_long m a.formed.lengths in omega arith

  at_entry : get_or (entries m) (entry_of m p) 0 ≡ p + 1
  at_entry = seek_hit (entries m) (p + 1) (let h = entry_in in let l = entries_long m a.formed.lengths in omega arith)

  entry_past : 4 ≤ entry_of m p
  entry_past = le_of_not_lt (λ l.
      let v = a.formed.encoded.fixed_four (entry_of m p) l in
      let e = at_entry in
      let x = fixed_only (layout_of m.words) p (is_fixed_lem (layout_of m.words) p (entry_of m p) l (omega arith)) in
      false≢true (sym x ∙ a.kind))

  -- what lists p is its entry
  only_entry : (e : ℕ) → get_or (entries m) e 0 ≡ p + 1 → e ≡ entry_of m p
  only_entry e q = sym (seek_is (entries m) (p + 1) e (page_once m a.formed) (omega arith) q)

-- nothing is nothing either way
nothing : (b : Bool) → ◌≡◌ {A = ℕ} 0 (cond b 0 0)
nothing true = refl
nothing false = refl

-- ---- `drop_chunks`
module _ (bytes keys order words bytes' keys' order' words' : List ℕ) (p lo hi : ℕ) (a : DropAsks (mem bytes keys order words) p lo hi)
    (g : Released (entry_of (mem bytes keys order words) p * 33554432 + 1 + lo) (entry_of (mem bytes keys order words) p * 33554432 + 1 + hi) bytes keys order words bytes' keys' order' words') where
  abbrev m : Mem
  m = mem bytes keys order words

  abbrev m' : Mem
  m' = mem bytes' keys' order' words'

  abbrev from : ℕ
  from = entry_of m p * 33554432 + 1 + lo

  abbrev to : ℕ
  to = entry_of m p * 33554432 + 1 + hi

  f : WellFormed m
  f = a.page.formed

  slots_same : slot_count words' ≡ slot_count words
  slots_same = g.head 6 (let h = f.lengths.in_words in omega arith) (λ e. omega arith) (λ e. omega arith)

  slots : (s : ℕ) → holder m' s ≡ cond (within from to (holder m s)) 0 (holder m s)
  slots s =
      let c = slots_same in
      let l = holders_long m f.lengths in
      ⊎_elim
      (λ (h : s < slot_count words).
      get_or-take (slot_count words') keys' s 0 (omega arith) ∙ g.slot_keys s h ∙ ap (λ (x : ℕ). cond (within from to x) 0 x) (sym (get_or-take (slot_count words) keys s 0 h)))
      (λ (h : slot_count words ≤ s).
      let k = length-take-le (slot_count words') keys' g.indexed_still.in_keys in
      let z : holder m s ≡ 0 = get_or-eq_default (holders m) 0 (omega arith) in
      get_or-eq_default (holders m') 0 (omega arith) ∙ nothing (within from to 0) ∙ ap (λ (x : ℕ). cond (within from to x) 0 x) (sym z))
      (lt_or_ge s (slot_count words))

  chunk : (s r : ℕ) → s < slot_count words → r < 256 → slot_byte m' s r ≡ cond (within from to (holder m s)) 0 (slot_byte m s r)
  chunk s r l h =
      let c = slots_same in
      get_or-take (256 * slot_count words') bytes' (256 * s + r) 0 (omega arith) ∙ g.chunk_bytes s r l h
      ∙ ap (λ (x : ℕ). cond (within from to x) 0 (get_or bytes (256 * s + r) 0)) (sym (get_or-take (slot_count words) keys s 0 l))
      ∙ ap (cond (within from to (holder m s)) 0) (sym (get_or-take (256 * slot_count words) bytes (256 * s + r) 0 (omega arith)))

  pub pages_same : entries m' ≡ entries m
  pages_same = ap (λ (x : ℕ). drop x keys') slots_same ∙ g.keys_rest

  within_from : (k : ℕ) → within from to k ≡ true → from ≤ k
  within_from k e = leb-true from k (and_left (leb from k) (ltb k to) e)

  within_to : (k : ℕ) → within from to k ≡ true → k < to
  within_to k e = ltb-true k to (and_right (leb from k) (ltb k to) e)

  dropped_entry : (k : ℕ) → within from to k ≡ true → key_entry k ≡ entry_of m p
  dropped_entry k e = let x = within_from k e in let y = within_to k e in let t = a.top in omega arith

  thinned : Thinned (within from to) (λ x. false) m m'
  thinned = record {
    head = λ i l n _ e. g.head i l n e;
    bytes_long = g.bytes_long;
    keys_long = g.keys_long;
    order_long = g.order_long;
    words_long = g.words_long;
    slots = slots;
    pages = λ e. ap (λ (x : List ℕ). get_or x e 0) pages_same;
    chunk = chunk;
    rest = g.bytes_rest;
    slots_index = g.indexed_still.index;
    pages_index =
        ap (λ (x : List ℕ). indexed x (page_order m') (in_use words')) pages_same
        ∙ ap (λ (x : List ℕ). indexed (entries m) x (in_use words')) (ap (λ (x : ℕ). drop x order') slots_same ∙ g.order_rest)
        ∙ ap (indexed (entries m) (page_order m)) (g.head 10 (let h = f.lengths.in_words in omega arith) (λ e. omega arith) (λ e. omega arith)) ∙ pages_index m f;
    pool = g.pooling_still;
    fixed_keys = λ k e. let d = dropped_entry k e in let h = entry_past m p a.page in omega arith;
    fixed_pages = λ e u. absurd (false≢true u);
    known = λ s h n. refl;
  }

  -- the keys that are dropped are those of the page's chunks
  drops : (s q k : ℕ) → HeldAt m s q k → (eqb q p && within lo hi k) ≡ within from to (holder m s)
  drops s q k h =
      let x = key_again (holder m s) h.held in
      let c = h.chunk in
      both_ways (eqb q p && within lo hi k) (within from to (holder m s))
      (λ e.
      let b = eqb-true q p (and_left (eqb q p) (within lo hi k) e) in
      let w = and_right (eqb q p) (within lo hi k) e in
      let n = only_entry m p a.page (key_entry (holder m s)) (h.page ∙ ap (λ (y : ℕ). y + 1) b) in
      let y = leb-true lo k (and_left (leb lo k) (ltb k hi) w) in
      let z = ltb-true k hi (and_right (leb lo k) (ltb k hi) w) in
      within_yes from to (holder m s) (omega arith) (omega arith))
      (λ e.
      let n = dropped_entry (holder m s) e in
      let y = within_from (holder m s) e in
      let z = within_to (holder m s) e in
      let v = at_entry m p a.page in
      let w = h.page in
      let u : get_or (entries m) (key_entry (holder m s)) 0 ≡ get_or (entries m) (entry_of m p) 0 = ap (λ (j : ℕ). get_or (entries m) j 0) n in
      rw (eq-eqb q p (omega arith)) (within_yes lo hi k (omega arith) (omega arith)))

  pub dropped : Shows (setting_of m) (dropping (setting_of m) p lo hi (view_of m)) m'
  dropped = thinned_shows (within from to) (λ x. false) m m' f thinned (λ q k. eqb q p && within lo hi k) drops (λ q. false) (λ q. refl)

-- ---- `unlist_page`
module _ (bytes keys order words : List ℕ) (p : ℕ) (a : UnlistAsks (mem bytes keys order words) p) where
  abbrev n : Mem
  n = mem bytes keys order words

  fn : WellFormed n
  fn = a.page.formed

  pub part_pages : indexed (take (length keys - slot_count words) (drop (slot_count words) keys)) (take (length order - slot_count words) (drop (slot_count words) order)) (in_use words) ≡ true
  part_pages = rw (rest_part keys (slot_count words), rest_part order (slot_count words)) (pages_index n fn)

  pub part_ranks : (in_use words ≤ length (take (length order - slot_count words) (drop (slot_count words) order)))
  part_ranks = index_fits _ _ _ part_pages

  module _ (r : ℕ) (bound : LowerBound (take (length keys - slot_count words) (drop (slot_count words) keys)) (take (length order - slot_count words) (drop (slot_count words) order)) (in_use words) (p + 1) r) where
    lb : LowerBound (entries n) (page_order n) (in_use words) (p + 1) r
    lb = rw (rest_part keys (slot_count words), rest_part order (slot_count words)) at bound

    listed : entry_of n p < length (entries n)
    listed = let h = entry_in n p a.page in let l = entries_long n fn.lengths in omega arith

    pub rank_lt : r < in_use words
    rank_lt =
        ⊎_elim (λ (h : r < in_use words). h)
        (λ (h : in_use words ≤ r). let e = find_past (entries n) (page_order n) (in_use words) (p + 1) r (pages_index n fn) (omega arith) lb h in let l = listed in absurd (omega arith))
        (lt_or_ge r (in_use words))

    pub rank_few : r < 4100
    rank_few = let h = rank_lt in let e = left_is n fn in let l = fn.lengths.pages_hi in omega arith

    rank_key : key_at (entries n) (page_order n) r ≡ p + 1
    rank_key =
        ⊎_elim (λ (h : key_at (entries n) (page_order n) r ≡ p + 1). h)
        (λ (h : key_at (entries n) (page_order n) r ≡ p + 1 → ⊥). let e = find_gap (entries n) (page_order n) (in_use words) (p + 1) r (pages_index n fn) (omega arith) lb rank_lt h in let l = listed in absurd (omega arith))
        (same_or_not (key_at (entries n) (page_order n) r) (p + 1))

    module _ (e₁ e₂ : List ℕ) (gone : Removed (take (length keys - slot_count words) (drop (slot_count words) keys)) (take (length order - slot_count words) (drop (slot_count words) order)) (in_use words) r (r + 1) e₁ e₂) where
      rm : Removed (entries n) (page_order n) (in_use words) r (r + 1) e₁ e₂
      rm = rw (rest_part keys (slot_count words), rest_part order (slot_count words)) at gone

      abbrev keys₁ : List ℕ
      keys₁ = take (slot_count words) keys ++ (e₁ ++ drop (length keys - slot_count words) (drop (slot_count words) keys))

      abbrev order₁ : List ℕ
      order₁ = take (slot_count words) order ++ (e₂ ++ drop (length order - slot_count words) (drop (slot_count words) order))

      abbrev words₁ : List ℕ
      words₁ = set words 10 (in_use words - 1)

      abbrev n' : Mem
      n' = mem bytes keys₁ order₁ words₁

      head : (i : ℕ) → (i ≡ 10 → ⊥) → get_or words₁ i 0 ≡ get_or words i 0
      head i ne = get_or-set_other words 10 i (in_use words - 1) 0 ne

      slots_n : slot_count words₁ ≡ slot_count words
      slots_n = head 6 (λ e. omega arith)

      in_keys : slot_count words ≤ length keys
      in_keys = let l = fn.lengths in omega arith

      in_order : slot_count words ≤ length order
      in_order = let l = fn.lengths in omega arith

      holders_n : holders n' ≡ holders n
      holders_n = ap (λ (x : ℕ). take x keys₁) slots_n ∙ rest_low keys e₁ (slot_count words) in_keys

      entries_n : entries n' ≡ e₁
      entries_n = ap (λ (x : ℕ). drop x keys₁) slots_n ∙ rest_high keys e₁ (slot_count words) in_keys

      slot_order_n : slot_order n' ≡ slot_order n
      slot_order_n = ap (λ (x : ℕ). take x order₁) slots_n ∙ rest_low order e₂ (slot_count words) in_order

      page_order_n : page_order n' ≡ e₂
      page_order_n = ap (λ (x : ℕ). drop x order₁) slots_n ∙ rest_high order e₂ (slot_count words) in_order

      in_use_n : in_use words₁ ≡ in_use words - 1
      in_use_n = get_or-set_same words 10 (in_use words - 1) 0 (let l = fn.lengths in omega arith)

      one_less : in_use words - (r + 1 - r) ≡ in_use words - 1
      one_less = omega arith

      -- the one entry is free
      pub pages_n : (e : ℕ) → get_or (entries n') e 0 ≡ cond (eqb (get_or (entries n) e 0) (p + 1)) 0 (get_or (entries n) e 0)
      pages_n e =
          ap (λ (x : List ℕ). get_or x e 0) entries_n
          ∙ ⊎_elim
          (λ (h : get_or (entries n) e 0 ≡ p + 1).
          let q : get_or (page_order n) r 0 ≡ e = once (entries n) (page_order n) (in_use words) (pages_index n fn) (get_or (page_order n) r 0) e (let k = rank_key in omega arith) (rank_key ∙ sym h) in
          rw (eq-eqb (get_or (entries n) e 0) (p + 1) h) (ap (λ (x : ℕ). get_or e₁ x 0) (sym q) ∙ rm.cleared.gone r (omega arith) (omega arith)))
          (λ (h : get_or (entries n) e 0 ≡ p + 1 → ⊥).
          rw (ne_eqb (get_or (entries n) e 0) (p + 1) h) (rm.cleared.kept e (λ i x y q.
          let s : i ≡ r = omega arith in
          h (ap (λ (z : ℕ). get_or (entries n) z 0) (sym q ∙ ap (λ (z : ℕ). get_or (page_order n) z 0) s) ∙ rank_key))))
          (same_or_not (get_or (entries n) e 0) (p + 1))

      rest_long : (xs ys : List ℕ) → slot_count words ≤ length xs → length ys ≡ length (drop (slot_count words) xs) → length (take (slot_count words) xs ++ (ys ++ drop (length xs - slot_count words) (drop (slot_count words) xs))) ≡ length xs
      rest_long xs ys l q =
          let a = length-take-le (slot_count words) xs l in
          let d = length-drop (slot_count words) xs in
          let b = length-drop (length xs - slot_count words) (drop (slot_count words) xs) in
          simp (length-append) (omega arith)

      thinned_n : Thinned (λ k. false) (λ x. eqb x (p + 1)) n n'
      thinned_n = record {
        head = λ i l _ ne _. head i ne;
        bytes_long = refl;
        keys_long = rest_long keys e₁ in_keys rm.cleared.long;
        order_long = rest_long order e₂ in_order rm.order_long;
        words_long = length-set words 10 (in_use words - 1);
        slots = λ s. ap (λ (x : List ℕ). get_or x s 0) holders_n;
        pages = pages_n;
        chunk = λ s t l h. ap (λ (x : ℕ). get_or (take (256 * x) bytes) (256 * s + t) 0) slots_n;
        rest = λ x l. refl;
        slots_index =
            ap (λ (x : List ℕ). indexed x (slot_order n') (held_now words₁)) holders_n ∙ ap (λ (x : List ℕ). indexed (holders n) x (held_now words₁)) slot_order_n
            ∙ ap (indexed (holders n) (slot_order n)) (head 9 (λ e. omega arith)) ∙ slots_index n fn;
        pages_index =
            ap (λ (x : List ℕ). indexed x (page_order n') (in_use words₁)) entries_n ∙ ap (λ (x : List ℕ). indexed e₁ x (in_use words₁)) page_order_n
            ∙ ap (indexed e₁ e₂) (in_use_n ∙ sym one_less) ∙ rm.index;
        pool =
            pooling_kept words words₁ (length-set words 10 (in_use words - 1)) slots_n (λ i l. head i (λ e. let h = fn.lengths.in_words in omega arith)) keys keys₁ holders_n (head 15 (λ e. omega arith))
            (pooling_of n fn);
        fixed_keys = λ k e. absurd (false≢true e);
        fixed_pages = λ e u. let q = only_entry n p a.page e (eqb-true (get_or (entries n) e 0) (p + 1) u) in let h = entry_past n p a.page in omega arith;
        known = λ s h _. unlisted s h;
      }
        where
          -- no slot has the page
          unlisted : (s : ℕ) → 0 < holder n s → eqb (get_or (entries n) (key_entry (holder n s)) 0) (p + 1) ≡ false
          unlisted s h =
              ne_eqb (get_or (entries n) (key_entry (holder n s)) 0) (p + 1)
              (λ e. false≢true (sym (a.empty (key_chunk (holder n s))) ∙ held_holds n fn s p (key_chunk (holder n s)) (record { held = h; page = e; chunk = refl })))

      pub unlisted : Shows (setting_of n) (unlisting (setting_of n) p (view_of n)) n'
      unlisted = thinned_shows (λ k. false) (λ x. eqb x (p + 1)) n n' fn thinned_n (λ q k. false) (λ s q k h. refl) (λ q. eqb q p) same_page
        where
          same_page : (q : ℕ) → eqb (q + 1) (p + 1) ≡ eqb q p
          same_page q =
              both_ways (eqb (q + 1) (p + 1)) (eqb q p) (λ e. let h = eqb-true (q + 1) (p + 1) e in eq-eqb q p (omega arith)) (λ e. let h = eqb-true q p e in eq-eqb (q + 1) (p + 1) (omega arith))

-- ---- `free_page`
module _ (m : Mem) (p : ℕ) (a : PageAsks m p) where
  pub all_asked : DropAsks m p 0 16777217
  all_asked = record { page = a; order = omega arith; top = omega arith }

  -- no chunk lies past the last
  pub held_top : (q k : ℕ) → holds m q k ≡ true → k < 16777217
  held_top q k h = let t = a.formed.none_above (slot_of_chunk m q k) q k (holds_held m a.formed q k h) in omega arith

  all_within : (q k : ℕ) → holds m q k ≡ true → within 0 16777217 k ≡ true
  all_within q k h = within_yes 0 16777217 k (omega arith) (held_top q k h)

  -- a page that lost chunks is allocated still
  pub page_still : (lo hi : ℕ) (m₁ : Mem) → Shows (setting_of m) (dropping (setting_of m) p lo hi (view_of m)) m₁ → PageAsks m₁ p
  page_still lo hi m₁ shows = record {
    formed = shows.formed;
    listed = ap (λ (v : View). v.allocated p) shows.view ∙ rw a.listed;
    kind = ap (λ (s : Setting). dynamic s.layout p) shows.setting ∙ a.kind;
  }

  module _ (m₁ : Mem) (shows : Shows (setting_of m) (dropping (setting_of m) p 0 16777217 (view_of m)) m₁) where
    pub unlist_asked : UnlistAsks m₁ p
    unlist_asked = record { page = page_still 0 16777217 m₁ shows; empty = λ k. ap (λ (v : View). v.held p k) shows.view ∙ rw (eq-eqb p p refl) (none k (holds m p k) refl) }
      where
        none : (k : ℕ) (b : Bool) → holds m p k ≡ b → (b && not (within 0 16777217 k)) ≡ false
        none k true e = rw (all_within p k e)
        none k false e = refl

    all_freed : (m₂ : Mem) → Shows (setting_of m₁) (unlisting (setting_of m₁) p (view_of m₁)) m₂ → Shows (setting_of m) (freed (setting_of m) p (view_of m)) m₂
    all_freed m₂ shows₂ =
        let both = without_then (setting_of m) (λ q k. eqb q p && within 0 16777217 k) (λ q k. false) (λ q. false) (λ q. eqb q p) (view_of m) m₁ m₂ shows
        (subst (λ (s : Setting). Shows s (unlisting s p (view_of m₁)) m₂) shows.setting shows₂) in
        let same = without_same (setting_of m) (λ q k. (eqb q p && within 0 16777217 k) || false) (λ q k. eqb q p) (λ q. false || eqb q p) (λ q. eqb q p) (view_of m) m
        (record { formed = a.formed; setting = refl; view = refl }) (λ q k h. rw (all_within q k h) (whole (eqb q p))) (λ q h. refl) in
        subst (λ (v : View). Shows (setting_of m) v m₂) same both
      where
        whole : (b : Bool) → ((b && true) || false) ≡ b
        whole true = refl
        whole false = refl

-- `drop_chunks`, by the entry that it found and the keys of the range
pub dropped_by : (bytes keys order words bytes' keys' order' words' : List ℕ) (p lo hi e from to : ℕ) → (a : DropAsks (mem bytes keys order words) p lo hi) → e ≡ seek (drop (slot_count words) keys) (p + 1)
    → from ≡ key_of e lo → to ≡ key_of e hi → Released from to bytes keys order words bytes' keys' order' words'
    → (Shows (setting_of (mem bytes keys order words)) (dropping (setting_of (mem bytes keys order words)) p lo hi (view_of (mem bytes keys order words))) (mem bytes' keys' order' words')) × (entries (mem bytes' keys' order' words') ≡ entries (mem bytes keys order words))
dropped_by bytes keys order words bytes' keys' order' words' p lo hi e from to a q f t g =
    let x = seek (drop (slot_count words) keys) (p + 1) in
    let h = subst (λ (y : ℕ). Released y (x * 33554432 + 1 + hi) bytes keys order words bytes' keys' order' words') {x = from} {y = x * 33554432 + 1 + lo} (omega arith) (subst (λ (y : ℕ). Released from y bytes keys order words bytes' keys' order' words') {x = to} {y = x * 33554432 + 1 + hi} (omega arith) g) in
    (dropped bytes keys order words bytes' keys' order' words' p lo hi a h, pages_same bytes keys order words bytes' keys' order' words' p lo hi a h)

-- `free_page`, by its two steps
pub freed_by : (m : Mem) (p : ℕ) (a : PageAsks m p) (m₁ m₂ : Mem) → (Shows (setting_of m) (dropping (setting_of m) p 0 16777217 (view_of m)) m₁) × (entries m₁ ≡ entries m)
    → (Shows (setting_of m₁) (unlisting (setting_of m₁) p (view_of m₁)) m₂) × EntriesBut p m₁ m₂ → (Shows (setting_of m) (freed (setting_of m) p (view_of m)) m₂) × EntriesBut p m m₂
freed_by m p a m₁ m₂ d u =
    (all_freed m p a m₁ d.0 m₂ u.0, λ e. u.1 e ∙ ap (λ (x : List ℕ). cond (eqb (get_or x e 0) (p + 1)) 0 (get_or x e 0)) d.1)
