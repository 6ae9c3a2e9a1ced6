-- Memories that exist: a memory without some chunks and pages.
-- Assumes nothing.
use mathlib.Core.Path.{◌≡◌, refl, sym, ap, ◌∙◌}
use mathlib.Core.Logic.{⊎_elim}
use mathlib.Core.Bool.{Bool, true, false, cond, ◌&&◌, false≢true, and-false}
use mathlib.Core.List.{List, ◌++◌}
use Prim.Native.Nat.{ℕ, ◌+◌, ◌*◌, ◌-◌, ◌/◌, ◌≤◌, ◌<◌}
use native.Mathlib.Omega.{arith}
use lib.Dec.{leb}
use lib.ListN.{length, get_or, set, take, drop, length-set, length-append, length-map, length-drop, get_or-eq_default}
use lib.Seq.{get_or-take, get_or-drop, get_or-set_same, get_or-set_other, length-take-le}
use borrow.Author.Tests.{le-leb, leb-true}
use Rattle.store.specs.Keys.{key_entry, key_chunk}
use Rattle.formed.proofs.Same.{tab_at, tab_long}
use Rattle.index.proofs.Logic.{lt_or_ge, and_left, le_of_not_lt}
use Rattle.bits.specs.Bits.{free_word}
use Rattle.store.specs.Mem.{Mem, mem, layout_of, slot_count, journal_words, held_now, in_use, pool_length, pool_place, pool_skip, holders, entries, slot_order, page_order}
use Rattle.store.specs.Pool.{Pooling}
use Rattle.store.proofs.Parts.{take_front, drop_front}
use Rattle.formed.specs.Pages.{dynamic}
use Rattle.formed.specs.Parts.{tab}
use Rattle.formed.specs.WellFormed.{WellFormed, HeldAt, holder, slot_byte}
use Rattle.formed.proofs.Bools.{refute}
use Rattle.formed.proofs.Sizes.{holders_long}
use Rattle.formed.proofs.Pages.{is_fixed_lem}
use Rattle.formed.proofs.Meaning.{slots_index, pages_index, facts_of}
use Rattle.view.specs.View.{setting_of, view_of}
use Rattle.view.specs.Steps.{without}
use Rattle.view.proofs.Counts.{fixed_only}
use Rattle.drops.proofs.Thinned.{Thinned, thinned_shows}
use Rattle.lists.proofs.Picks.{thin, thin_at, Picked, picked}
use Rattle.lists.proofs.Reach.{Reached}

-- D tells chunks of dynamic pages, and `free` pages of which D tells every chunk: a page that is freed leaves none behind
module _ (m : Mem) (f : WellFormed m) (D : ℕ → ℕ → Bool) (free : ℕ → Bool) (kind : (q k : ℕ) → D q k ≡ true → dynamic (layout_of m.words) q ≡ true)
    (whole : (q k : ℕ) → free q ≡ true → D q k ≡ true) where
  -- the keys of the chunks that are dropped, none of a fixed page, and the numbers of the pages that are freed
  abbrev P : ℕ → Bool
  P k = leb 4 (key_entry k) && D (get_or (entries m) (key_entry k) 0 - 1) (key_chunk k)

  abbrev U : ℕ → Bool
  U x = free (x - 1)

  -- the entry of a dynamic page is past the fixed pages'
  past : (e q : ℕ) → get_or (entries m) e 0 ≡ q + 1 → dynamic (layout_of m.words) q ≡ true → 4 ≤ e
  past e q is d = le_of_not_lt (λ l.
      let v = f.encoded.fixed_four e l in
      false≢true (sym (fixed_only (layout_of m.words) q (is_fixed_lem (layout_of m.words) q e l (omega arith))) ∙ d))

  freed_kind : (q : ℕ) → free q ≡ true → dynamic (layout_of m.words) q ≡ true
  freed_kind q u = kind q 0 (whole q 0 u)

  drops : (s q k : ℕ) → HeldAt m s q k → D q k ≡ P (holder m s)
  drops s q k h =
      let page = h.page in
      let e : get_or (entries m) (key_entry (holder m s)) 0 - 1 ≡ q = omega arith in
      go (D q k) refl
      ∙ ap (λ (x : ℕ). leb 4 (key_entry (holder m s)) && D q x) (sym h.chunk)
      ∙ ap (λ (x : ℕ). leb 4 (key_entry (holder m s)) && D x (key_chunk (holder m s))) (sym e)
    where
      go : (b : Bool) → D q k ≡ b → D q k ≡ (leb 4 (key_entry (holder m s)) && D q k)
      go true e = rw (le-leb 4 (key_entry (holder m s)) (past (key_entry (holder m s)) q h.page (kind q k e)))
      go false e = rw e (sym (and-false (leb 4 (key_entry (holder m s)))))

  -- ---- its buffers
  slots : Picked (thin P (holders m)) (slot_order m)
  slots = picked P (holders m) (slot_order m) (held_now m.words) (slots_index m f)

  pages : Picked (thin U (entries m)) (page_order m)
  pages = picked U (entries m) (page_order m) (in_use m.words) (pages_index m f)

  -- past the slots no holder stands, so that the journals' bytes stay
  abbrev byte : ℕ → ℕ
  byte x = cond (P (holder m (x / 256))) 0 (get_or m.bytes x 0)

  -- the words with the new counts, and with the pool of the slots that hold nothing now; a search skips none of its words
  abbrev w₁ : List ℕ
  w₁ = set (set (set m.words 9 slots.count) 10 pages.count) 15 0

  abbrev at : ℕ
  at = pool_place m.words

  abbrev bits : List ℕ
  bits = tab (pool_length (slot_count m.words)) (free_word (thin P (holders m)))

  abbrev m' : Mem
  m' = mem (tab (length m.bytes) byte) (thin P (holders m) ++ thin U (entries m)) (slots.order ++ pages.order) (take at w₁ ++ bits)

  w₁_long : length w₁ ≡ length m.words
  w₁_long = length-set (set (set m.words 9 slots.count) 10 pages.count) 15 0 ∙ length-set (set m.words 9 slots.count) 10 pages.count ∙ length-set m.words 9 slots.count

  in_words : 16 + 6 * journal_words m.words + pool_length (slot_count m.words) ≡ length m.words
  in_words = sym f.lengths.in_words

  cut : length (take at w₁) ≡ at
  cut = length-take-le at w₁ (let l = w₁_long in omega arith)

  words_long : length m'.words ≡ length m.words
  words_long =
      let a = cut in
      let b = tab_long (pool_length (slot_count m.words)) (free_word (thin P (holders m))) in
      let c = in_words in
      simp (length-append) (omega arith)

  -- before the pool, and in it
  low : (i : ℕ) → i < at → get_or m'.words i 0 ≡ get_or w₁ i 0
  low i l = sym (get_or-take at m'.words i 0 l) ∙ ap (λ (x : List ℕ). get_or x i 0) (take_front (take at w₁) bits at cut) ∙ get_or-take at w₁ i 0 l

  high : (i : ℕ) → i < pool_length (slot_count m.words) → get_or m'.words (at + i) 0 ≡ free_word (thin P (holders m)) i
  high i l = sym (get_or-drop at m'.words i 0) ∙ ap (λ (x : List ℕ). get_or x i 0) (drop_front (take at w₁) bits at cut) ∙ tab_at (pool_length (slot_count m.words)) (free_word (thin P (holders m))) i l

  head : (i : ℕ) → i < at → (i ≡ 9 → ⊥) → (i ≡ 10 → ⊥) → (i ≡ 15 → ⊥) → get_or m'.words i 0 ≡ get_or m.words i 0
  head i l a b e =
      low i l ∙ get_or-set_other (set (set m.words 9 slots.count) 10 pages.count) 15 i 0 0 e
      ∙ get_or-set_other (set m.words 9 slots.count) 10 i pages.count 0 b ∙ get_or-set_other m.words 9 i slots.count 0 a

  slots_same : slot_count m'.words ≡ slot_count m.words
  slots_same = head 6 (let w = in_words in omega arith) (λ e. omega arith) (λ e. omega arith) (λ e. omega arith)

  held_now_lem : held_now m'.words ≡ slots.count
  held_now_lem =
      let l = in_words in
      low 9 (omega arith) ∙ get_or-set_other (set (set m.words 9 slots.count) 10 pages.count) 15 9 0 0 (λ e. omega arith)
      ∙ get_or-set_other (set m.words 9 slots.count) 10 9 pages.count 0 (λ e. omega arith) ∙ get_or-set_same m.words 9 slots.count 0 (omega arith)

  in_use_now : in_use m'.words ≡ pages.count
  in_use_now =
      let l = in_words in
      let e = length-set m.words 9 slots.count in
      low 10 (omega arith) ∙ get_or-set_other (set (set m.words 9 slots.count) 10 pages.count) 15 10 0 0 (λ e. omega arith)
      ∙ get_or-set_same (set m.words 9 slots.count) 10 pages.count 0 (omega arith)

  skip_now : pool_skip m'.words ≡ 0
  skip_now =
      let l = in_words in
      let a = length-set m.words 9 slots.count in
      let b = length-set (set m.words 9 slots.count) 10 pages.count in
      low 15 (omega arith) ∙ get_or-set_same (set (set m.words 9 slots.count) 10 pages.count) 15 0 0 (omega arith)

  thin_long : length (thin P (holders m)) ≡ slot_count m.words
  thin_long = length-map (holders m) (λ k. cond (P k) 0 k) ∙ holders_long m f.lengths

  order_long : length slots.order ≡ slot_count m.words
  order_long = slots.long ∙ length-take-le (slot_count m.words) m.order (let l = f.lengths.in_order in omega arith)

  holders_now : holders m' ≡ thin P (holders m)
  holders_now = ap (λ (c : ℕ). take c m'.keys) slots_same ∙ take_front (thin P (holders m)) (thin U (entries m)) (slot_count m.words) thin_long

  pool_now : Pooling m'.keys m'.words
  pool_now =
      let c = slots_same in
      let l = words_long in
      let w = in_words in
      let z = skip_now in
      record {
        part = record {
          few = let h = f.lengths.chunks_hi in omega arith;
          room = omega arith;
          skip = omega arith;
          skipped = λ i h. absurd (omega arith);
        };
        bits = λ i h.
            let here : pool_place m'.words + i ≡ at + i = omega arith in
            ap (λ (x : ℕ). get_or m'.words x 0) here ∙ high i (omega arith) ∙ ap (λ (x : List ℕ). free_word x i) (sym holders_now);
      }

  entries_now : entries m' ≡ thin U (entries m)
  entries_now = ap (λ (c : ℕ). drop c m'.keys) slots_same ∙ drop_front (thin P (holders m)) (thin U (entries m)) (slot_count m.words) thin_long

  slot_order_now : slot_order m' ≡ slots.order
  slot_order_now = ap (λ (c : ℕ). take c m'.order) slots_same ∙ take_front slots.order pages.order (slot_count m.words) order_long

  page_order_now : page_order m' ≡ pages.order
  page_order_now = ap (λ (c : ℕ). drop c m'.order) slots_same ∙ drop_front slots.order pages.order (slot_count m.words) order_long

  byte_at : (x : ℕ) → x < length m.bytes → get_or m'.bytes x 0 ≡ byte x
  byte_at x l = tab_at (length m.bytes) byte x l

  chunk : (s r : ℕ) → s < slot_count m.words → r < 256 → slot_byte m' s r ≡ cond (P (holder m s)) 0 (slot_byte m s r)
  chunk s r l h =
      let c = slots_same in
      let b = f.lengths.in_bytes in
      let q : (256 * s + r) / 256 ≡ s = omega arith in
      get_or-take (256 * slot_count m'.words) m'.bytes (256 * s + r) 0 (omega arith)
      ∙ byte_at (256 * s + r) (omega arith)
      ∙ ap (λ (x : ℕ). cond (P (holder m x)) 0 (get_or m.bytes (256 * s + r) 0)) q
      ∙ ap (cond (P (holder m s)) 0) (sym (get_or-take (256 * slot_count m.words) m.bytes (256 * s + r) 0 (omega arith)))

  rest : (x : ℕ) → 256 * slot_count m.words ≤ x → get_or m'.bytes x 0 ≡ get_or m.bytes x 0
  rest x l =
      let n = holders_long m f.lengths in
      ⊎_elim
      (λ (h : x < length m.bytes).
      let z : holder m (x / 256) ≡ 0 = get_or-eq_default (holders m) 0 (omega arith) in
      byte_at x h ∙ ap (λ (k : ℕ). cond (P k) 0 (get_or m.bytes x 0)) z)
      (λ (h : length m.bytes ≤ x).
      let t = tab_long (length m.bytes) byte in
      get_or-eq_default m'.bytes 0 (omega arith) ∙ sym (get_or-eq_default m.bytes 0 h))
      (lt_or_ge x (length m.bytes))

  -- a chunk that stays has its page
  known : (s : ℕ) → 0 < holder m s → P (holder m s) ≡ false → U (get_or (entries m) (key_entry (holder m s)) 0) ≡ false
  known s h n =
      sym (refute (U (get_or (entries m) (key_entry (holder m s)) 0)) (λ u.
      let q = get_or (entries m) (key_entry (holder m s)) 0 - 1 in
      let e = ((facts_of m f).held s h).entry in
      false≢true (sym n ∙ sym (drops s q (key_chunk (holder m s)) (record { held = h; page = omega arith; chunk = refl })) ∙ whole q (key_chunk (holder m s)) u)))

  thinned : Thinned P U m m'
  thinned = record {
    head = head;
    bytes_long = tab_long (length m.bytes) byte;
    keys_long =
        let a = thin_long in
        let b = length-map (entries m) (λ k. cond (U k) 0 k) in
        let c = length-drop (slot_count m.words) m.keys in
        let l = f.lengths.in_keys in
        simp (length-append) (omega arith);
    order_long =
        let a = order_long in
        let b = pages.long in
        let c = length-drop (slot_count m.words) m.order in
        let l = f.lengths.in_order in
        simp (length-append) (omega arith);
    words_long = words_long;
    slots = λ s. ap (λ (ks : List ℕ). get_or ks s 0) holders_now ∙ thin_at P (holders m) s;
    pages = λ e. ap (λ (ks : List ℕ). get_or ks e 0) entries_now ∙ thin_at U (entries m) e;
    chunk = chunk;
    rest = rest;
    slots_index = rw (holders_now, slot_order_now, held_now_lem) slots.index;
    pages_index = rw (entries_now, page_order_now, in_use_now) pages.index;
    pool = pool_now;
    fixed_keys = λ k p. leb-true 4 (key_entry k) (and_left (leb 4 (key_entry k)) _ p);
    fixed_pages = λ e u. le_of_not_lt (λ l.
        let v = f.encoded.fixed_four e l in
        let h = past e (get_or (entries m) e 0 - 1) (omega arith) (freed_kind (get_or (entries m) e 0 - 1) u) in
        omega arith);
    known = known;
  }

  pub without_there : Reached (setting_of m) (without (setting_of m) D free (view_of m))
  without_there = record {
    memory = m';
    shows = thinned_shows P U m m' f thinned D drops free (λ q. let e : q + 1 - 1 ≡ q = omega arith in ap free e);
  }
