-- Memories that exist: each step that writes, allocations, openings and rollbacks are made of can be taken where it is asked for.
-- Assumes nothing.
use mathlib.Core.Path.{◌≡◌, refl, sym, ap, ◌∙◌, subst}
use mathlib.Core.Logic.{⊎_elim}
use mathlib.Core.List.{List, ◌++◌}
use Prim.Native.Nat.{ℕ, zero, suc, ◌+◌, ◌*◌, ◌-◌, ◌/◌, ◌%◌, ◌^◌, ◌≤◌, ◌<◌, min, max}
use native.Mathlib.Numerals.{add-one}
use native.Mathlib.Omega.{arith}
use lib.ListN.{length, get_or, set, take, drop, length-set, length-drop, length-append, replicate}
use lib.Seq.{length-take-le}
use Rattle.store.specs.Keys.{key_of}
use Rattle.formed.proofs.Same.{tab_at, tab_long}
use Rattle.formed.proofs.Asks.{slots_asked}
use Rattle.formed.proofs.Meaning.{pooling_of}
use Rattle.index.specs.Index.{seek}
use Rattle.index.proofs.Logic.{lt_or_ge}
use Rattle.bits.specs.Bits.{ones_of, lowest_of}
use Rattle.store.specs.Mem.{Mem, mem, layout_of, slot_count, page_count, held_now, in_use, journal_words, journal_length, pool_length, pool_words}
use Rattle.store.specs.Indexed.{Indexed}
use Rattle.store.specs.Pool.{Pooling}
use Rattle.pool.specs.Hold.{lacks, unpooled, Held}
use Rattle.store.specs.Find.{slot_for, slot_at_entry}
use Rattle.pool.proofs.Holds.{insertable, taken, lacking, held_new, held_was}
use Rattle.store.proofs.Parts.{rest_part}
use Rattle.formed.specs.Pages.{group, journal_count, journal_place, journal_page}
use Rattle.formed.specs.Parts.{entry_of, tab, word_number, old_place}
use Rattle.view.specs.View.{View, Setting, setting_of, view_of}
use Rattle.view.specs.Steps.{word_notes, marks, rolled_back, empty_view, opened}
use Rattle.view.specs.Does.{Shows}
use Rattle.view.specs.Inner.{listing, holding, putting, ListAsks, HoldAsks, PutAsks, noting, NoteAsks}
use Rattle.bodies.specs.Words.{place_in, Spread, InSlots}
use Rattle.bodies.proofs.Copies.{copy_none, copy_more, spread_same, put_one, put_two}
use Rattle.bodies.proofs.Puts.{put_none, put_slot, put_in, put_more, put_done}
use Rattle.chunks.proofs.Turns.{After, after_none, turn_room, turn_after}
use Rattle.pages.proofs.Taking as taking
use Rattle.pages.proofs.Listing.{listed_already, entry_asks, listed_now}
use Rattle.journal.specs.Words.{note_set}
use Rattle.journal.specs.Steps.{aligned_from, AlignedAsks, restoring, undoing, UndoAsks, RollBackAsks}
use Rattle.formed.proofs.Numbers.{number_lt}
use Rattle.journal.proofs.Notes.{note_slots, note_room, note_shows}
use Rattle.journal.proofs.Aligned.{aligned_none, aligned_asks, aligned_more}
use Rattle.journal.proofs.Undos.{back_asks, back_slots, back_more, back_none, undo_shows, heap_asks, aux_asks, rolled}
use Rattle.formed.proofs.Keys.{le_or_gt}
use Rattle.opening.specs.Opening.{PoolFull, headed, OpenAsks, FixedAsks, FirstPages, CalldataAsks}
use Rattle.opening.proofs.Fixed.{first_none, first_asks, first_more}
use Rattle.opening.proofs.Starts.{part_long, filled, words_asks, fixed_asks, started}
use Rattle.opening.proofs.Calldata.{hold_asks, put_asks, calldata_put}
use Rattle.lists.proofs.Inserts.{free, insert}

-- there is a memory of this setting and view
pub record Reached (s : Setting) (v : View) : Type 0 where
  pub memory : Mem
  pub shows : Shows s v memory

-- ---- a chunk is held
record Holding (k : ℕ) (keys order words : List ℕ) : Type 0 where
  slot : ℕ
  keys' : List ℕ
  order' : List ℕ
  words' : List ℕ
  held : Held k keys order words slot keys' order' words'

hold : (keys order words : List ℕ) (ix : Indexed keys order words) (p : Pooling keys words) (k : ℕ) → 0 < k → lacks (take (slot_count words) keys) k ≤ ones_of (pool_words words) → Holding k keys order words
hold keys order words ix p k pos enough =
    let c = slot_count words in
    let s = lowest_of (pool_words words) in
    ⊎_elim
    (λ (l : seek (take c keys) k < c). record { slot = seek (take c keys) k; keys' = keys; order' = order; words' = words; held = held_was keys order words ix k pos (seek (take c keys) k) refl l })
    (λ (l : c ≤ seek (take c keys) k).
    let some = lacking keys order words ix k pos l enough in
    let i = insert (take (c - 0) keys) (take (c - 0) order) (held_now words) s k (insertable keys order words ix p some s refl k pos l) in
    let w = set (unpooled words s) 9 (held_now words + 1) in
    let t = taken keys order words ix p some s refl k pos l (set (take (c - 0) keys) s k) i.order i.long refl w refl i.index in
    record {
      slot = s;
      keys' = set (take (c - 0) keys) s k ++ drop (c - 0) keys;
      order' = i.order ++ drop (c - 0) order;
      words' = w;
      held = held_new keys order words ix k pos p.part s _ _ w t l;
    })
    (lt_or_ge (seek (take c keys) k) c)

-- .. and a range of them
record Turn (m : Mem) (p k i : ℕ) : Type 0 where
  keys : List ℕ
  order : List ℕ
  words : List ℕ
  after : After m p k i (mem m.bytes keys order words)

module _ (m : Mem) (p k n : ℕ) (asks : HoldAsks m p k n) where
  abbrev key : ℕ → ℕ
  key i = key_of (entry_of m p) (k + i)

  turn : (i : ℕ) → i ≤ n → Turn m p k i
  turn zero l = record { keys = m.keys; order = m.order; words = m.words; after = after_none m p k asks.formed }
  turn (suc i) l =
      let t = turn i (omega arith) in
      let f = t.after.shows.formed in
      let h = hold t.keys t.order t.words (slots_asked (mem m.bytes t.keys t.order t.words) f) (pooling_of (mem m.bytes t.keys t.order t.words) f) (key i) (omega arith)
      (turn_room m p k n asks i l m.bytes t.keys t.order t.words t.after (entry_of m p) (key i) refl refl) in
      record {
        keys = h.keys';
        order = h.order';
        words = h.words';
        after =
            subst (λ (x : ℕ). After m p k x (mem m.bytes h.keys' h.order' h.words')) (add-one i)
            (turn_after m p k n asks i l m.bytes t.keys t.order t.words t.after (entry_of m p) (key i) refl refl h.slot h.keys' h.order' h.words' h.held);
      }

  pub held_there : Reached (setting_of m) (holding p k n (view_of m))
  held_there = let t = turn n (omega arith) in record { memory = mem m.bytes t.keys t.order t.words; shows = t.after.shows }

-- ---- bytes are put, one after another
record Put (m : Mem) (p a : ℕ) (src : List ℕ) (n : ℕ) : Type 0 where
  now : List ℕ
  shown : Shows (setting_of m) (putting p a (take n src) (view_of m)) (mem now m.keys m.order m.words)

module _ (m : Mem) (p a : ℕ) (src : List ℕ) (asks : PutAsks m p a (length src)) where
  abbrev slot : ℕ → ℕ
  slot n = slot_for m.keys m.words p ((a + n) / 256)

  put : (n : ℕ) → n ≤ length src → Put m p a src n
  put zero l = record { now = m.bytes; shown = put_none m.bytes m.keys m.order m.words p a src asks }
  put (suc n) l =
      let t = put n (omega arith) in
      let at = 256 * slot n + (a + n) % 256 in
      let i = (put_in m.bytes m.keys m.order m.words p a src asks (slot n) n l refl).0 in
      let b = asks.formed.lengths.in_bytes in
      let d = t.shown.formed.lengths.in_bytes in
      let c = copy_more at 0 (λ i. get_or src (n + i) 0) t.now t.now (omega arith) (copy_none (λ i. at + i) (λ i. get_or src (n + i) 0) t.now) in
      let next = set t.now (at + 0) (get_or src (n + 0) 0) in
      record {
        now = next;
        shown =
            subst (λ (x : ℕ). Shows (setting_of m) (putting p a (take x src) (view_of m)) (mem next m.keys m.order m.words)) (add-one n)
            (put_more m.bytes m.keys m.order m.words p a src asks n t.now t.shown (slot n) 1 next (put_slot m.bytes m.keys m.order m.words p a src asks (slot n) n l refl) (omega arith) (omega arith) (length-set t.now (at + 0) (get_or src (n + 0) 0)) c);
      }

  pub put_there : Reached (setting_of m) (putting p a src (view_of m))
  put_there =
      let t = put (length src) (omega arith) in
      record { memory = mem t.now m.keys m.order m.words; shows = put_done m.bytes m.keys m.order m.words p a src asks (length src) t.now t.shown (omega arith) }

-- ---- a page is allocated
module _ (m : Mem) (p : ℕ) (asks : ListAsks m p) where
  abbrev c : ℕ
  c = slot_count m.words

  rest_long : (xs e : List ℕ) → c ≤ length xs → length e ≡ length (take (length xs - c) (drop c xs)) → length (take c xs ++ (e ++ drop (length xs - c) (drop c xs))) ≡ length xs
  rest_long xs e l q =
      let a = length-append (take c xs) (e ++ drop (length xs - c) (drop c xs)) in
      let b = length-append e (drop (length xs - c) (drop c xs)) in
      let d = length-take-le c xs l in
      let f = length-drop c xs in
      let g = length-drop (length xs - c) (drop c xs) in
      let h : length e ≡ length (drop c xs) = q ∙ ap length (rest_part xs c) in
      omega arith

  pub listed_there : Reached (setting_of m) (listing m p)
  listed_there =
      ⊎_elim
      (λ (l : entry_of m p < page_count m.words + 4). record { memory = m; shows = listed_already m p asks l })
      (λ (l : page_count m.words + 4 ≤ entry_of m p).
      let x = entry_asks m p asks l in
      let ks = take (length m.keys - c) (drop c m.keys) in
      let os = take (length m.order - c) (drop c m.order) in
      let f = free ks (taking.part_room m.keys m.order m.words p x) in
      let z : (f.place < length ks) × (get_or ks f.place 0 ≡ 0) = (f.inside, f.none) in
      let i = insert ks os (in_use m.words) f.place (p + 1) (taking.insertable m.keys m.order m.words p x f.place z) in
      let w = set m.words 10 (in_use m.words + 1) in
      let t = taking.taken m.keys m.order m.words p x f.place z (set ks f.place (p + 1)) i.order (set w 11 (max (get_or w 11 0) (group (layout_of m.words) p + 1))) refl i.index refl in
      record {
        memory = mem m.bytes _ _ _;
        shows =
            listed_now m p asks l _ _ _
            (rest_long m.keys (set ks f.place (p + 1)) x.pages.in_keys (length-set ks f.place (p + 1)))
            (rest_long m.order i.order x.pages.in_order i.long) t;
      })
      (lt_or_ge (entry_of m p) (page_count m.words + 4))

-- ---- words are copied
record Copy (to n : ℕ) (g : ℕ → ℕ) (ds : List ℕ) : Type 0 where
  now : List ℕ
  long : length now ≡ length ds
  spread : Spread (λ i. to + i) g n ds now

copy : (to n : ℕ) (g : ℕ → ℕ) (ds : List ℕ) → to + n ≤ length ds → Copy to n g ds
copy to zero g ds l = record { now = ds; long = refl; spread = copy_none (λ i. to + i) g ds }
copy to (suc n) g ds l =
    let t = copy to n g ds (omega arith) in
    let h = t.long in
    record {
      now = set t.now (to + n) (g n);
      long = length-set t.now (to + n) (g n) ∙ h;
      spread = subst (λ (x : ℕ). Spread (λ i. to + i) g x ds (set t.now (to + n) (g n))) (add-one n) (copy_more to n g ds t.now (omega arith) t.spread);
    }

-- ---- a word is noted
module _ (m : Mem) (j a : ℕ) (asks : NoteAsks m j a) where
  abbrev first : ℕ
  first = slot_at_entry m.keys m.words (journal_place j) (a / 256)

  abbrev last : ℕ
  last = slot_at_entry m.keys m.words (journal_place j) ((a + 31) / 256)

  pub noted_there : Reached (setting_of m) (noting j (word_notes (view_of m) (journal_page (layout_of m.words) j) a) (view_of m))
  noted_there =
      let slots = note_slots m.bytes m.keys m.order m.words j a asks (journal_place j) refl first last refl refl in
      let r = note_room m.bytes m.keys m.order m.words j a asks first last slots in
      let q = r.room in
      let l = number_lt (journal_words m.words) j (journal_length m.words j) journal_count asks.which q in
      let b = r.long.in_bytes in
      let t = copy (old_place m.words j (journal_length m.words j)) 32 (λ k. get_or m.bytes (place_in first last (a % 256) k) 0) m.bytes (omega arith) in
      record {
        memory = mem t.now m.keys m.order (note_set m.words (12 + j) (word_number m.words j (journal_length m.words j)) a first last);
        shows = note_shows m.bytes m.keys m.order m.words j a asks first last slots t.now _ t.long (record { words_are = refl; old = t.spread });
      }

-- .. and the aligned words of a range
module _ (m : Mem) (j first n : ℕ) (asks : AlignedAsks m j first n) where
  aligned : (i : ℕ) → i ≤ n → Reached (setting_of m) (noting j (aligned_from (view_of m) (journal_page (layout_of m.words) j) first i) (view_of m))
  aligned zero l = record { memory = m; shows = aligned_none m j first n asks }
  aligned (suc i) l =
      let t = aligned i (omega arith) in
      let r = noted_there t.memory j (32 * (first + i)) (aligned_asks m j first n asks t.memory i l t.shows) in
      record {
        memory = r.memory;
        shows =
            subst (λ (x : ℕ). Shows (setting_of m) (noting j (aligned_from (view_of m) (journal_page (layout_of m.words) j) first x) (view_of m)) r.memory) (add-one i)
            (aligned_more m j first n asks t.memory i l t.shows r.memory r.shows);
      }

  pub aligned_there : Reached (setting_of m) (noting j (aligned_from (view_of m) (journal_page (layout_of m.words) j) first n) (view_of m))
  aligned_there = aligned n (omega arith)

-- ---- a word is put at the slots of its chunks
record Spreading (f g : ℕ → ℕ) (n : ℕ) (ds : List ℕ) : Type 0 where
  now : List ℕ
  long : length now ≡ length ds
  spread : Spread f g n ds now

spread : (bytes : List ℕ) (s t r : ℕ) → InSlots bytes s t r → (g : ℕ → ℕ) → Spreading (place_in s t r) g 32 bytes
spread bytes s t r i g =
    let o = i.offset in
    let h = i.first in
    let k = i.last in
    ⊎_elim
    (λ (l : r ≤ 224).
    let c = copy (256 * s + r) 32 (λ x. get_or ws (0 + x) 0) bytes (omega arith) in
    word c.now c.long (put_one s t r ws bytes c.now l c.spread))
    (λ (l : 224 < r).
    let c = copy (256 * s + r) (256 - r) (λ x. get_or ws (0 + x) 0) bytes (omega arith) in
    let e = c.long in
    let d = copy (256 * t) (32 - (256 - r)) (λ x. get_or ws (256 - r + x) 0) c.now (omega arith) in
    let f = d.long in
    word d.now (omega arith) (put_two s t r ws bytes d.now l o c.now c.spread d.spread))
    (le_or_gt r 224)
  where
    ws : List ℕ
    ws = tab 32 g

    word : (now : List ℕ) → length now ≡ length bytes → Spread (place_in s t r) (λ x. get_or ws x 0) 32 bytes now → Spreading (place_in s t r) g 32 bytes
    word now e w = record { now = now; long = e; spread = spread_same (place_in s t r) (λ x. get_or ws x 0) (place_in s t r) g 32 bytes now (λ x l. (refl, sym (tab_at 32 g x l))) w }

-- ---- words are put back, newest first
record Back (m : Mem) (j i : ℕ) : Type 0 where
  now : List ℕ
  shown : Shows (setting_of m) (restoring (journal_page (layout_of m.words) j) j i (view_of m)) (mem now m.keys m.order m.words)

record Undone (m : Mem) (v : View) : Type 0 where
  bytes : List ℕ
  words : List ℕ
  shows : Shows (setting_of m) v (mem bytes m.keys m.order words)

module _ (m : Mem) (j n : ℕ) (asks : UndoAsks m j n) where
  back : (d i : ℕ) → i + d ≡ journal_length m.words j → Back m j i
  back zero i e =
      let q : journal_length m.words j ≡ i = omega arith in
      record {
        now = m.bytes;
        shown = subst (λ (x : ℕ). Shows (setting_of m) (restoring (journal_page (layout_of m.words) j) j x (view_of m)) m) q (back_none m asks.formed (journal_page (layout_of m.words) j) j asks.which);
      }
  back (suc d) i e =
      let t = back d (i + 1) (omega arith) in
      let w = t.shown.formed in
      let l : i < journal_length m.words j = omega arith in
      let a = back_asks t.now m.keys m.order m.words w j i asks.which l in
      let p = spread t.now _ _ _ (back_slots t.now m.words j i (word_number m.words j i) a refl) (λ k. get_or t.now (old_place m.words j i + k) 0) in
      record {
        now = p.now;
        shown = back_more t.now m.keys m.order m.words w j i asks.which l p.now p.long p.spread (setting_of m) (view_of m) (i + 1) refl t.shown;
      }

  undo : Undone m (undoing (layout_of m.words) j n (view_of m))
  undo =
      let h = asks.mark in
      let t = back (journal_length m.words j - n) n (omega arith) in
      record {
        bytes = t.now;
        words = set m.words (12 + j) n;
        shows = undo_shows m.bytes m.keys m.order m.words t.now j n n asks (omega arith) (omega arith) t.shown;
      }

pub record RolledBack (m : Mem) (heap aux : ℕ) : Type 0 where
  pub bytes : List ℕ
  pub words : List ℕ
  pub shows : Shows (setting_of m) (rolled_back (layout_of m.words) (marks heap aux) (view_of m)) (mem bytes m.keys m.order words)

pub rolled_there : (m : Mem) (heap aux : ℕ) → RollBackAsks m heap aux → RolledBack m heap aux
rolled_there m heap aux asks =
    let a = undo m 0 heap (heap_asks m.bytes m.keys m.order m.words heap aux asks) in
    let b = undo (mem a.bytes m.keys m.order a.words) 1 aux (aux_asks m.bytes m.keys m.order m.words heap aux asks a.bytes a.words a.shows) in
    record { bytes = b.bytes; words = b.words; shows = rolled m.bytes m.keys m.order m.words heap aux asks a.bytes a.words a.shows b.bytes b.words b.shows }

-- ---- a memory is opened
record First (ws ks os : List ℕ) (n : ℕ) : Type 0 where
  keys : List ℕ
  order : List ℕ
  keys_long : length keys ≡ length ks
  order_long : length order ≡ length os
  pages : FirstPages ws keys order n

first_pages : (ws ks os : List ℕ) → FixedAsks ks os ws → (n : ℕ) → n ≤ 4 → First ws ks os n
first_pages ws ks os asks zero l = record { keys = ks; order = os; keys_long = refl; order_long = refl; pages = first_none ws ks os asks }
first_pages ws ks os asks (suc n) l =
    let t = first_pages ws ks os asks n (omega arith) in
    let a = t.keys_long in
    let b = t.order_long in
    let c = asks.in_keys in
    let d = asks.in_order in
    let k = get_or ws n 0 + 1 in
    let i = insert t.keys t.order n n k (first_asks ws t.keys t.order n t.pages asks.apart l (omega arith) (omega arith)) in
    record {
      keys = set t.keys n k;
      order = i.order;
      keys_long = length-set t.keys n k ∙ a;
      order_long = i.long ∙ b;
      pages = subst (λ (x : ℕ). FirstPages ws (set t.keys n k) i.order x) (add-one n) (first_more ws t.keys t.order n t.pages (omega arith) (set t.keys n k) i.order refl i.index);
    }

-- the words with a full pool
module _ (s : Setting) (m : Mem) (asks : OpenAsks s m) where
  abbrev ones : ℕ → ℕ
  ones i = 2 ^ min (s.chunks - 64 * i) 64 - 1

  abbrev at : ℕ
  at = length m.words - pool_length s.chunks

  abbrev lent : List ℕ
  lent = take (length m.words - at) (drop at m.words)

  room : pool_length s.chunks ≤ length m.words
  room = let h = asks.sizes.in_words in omega arith

  abbrev filled_words : List ℕ
  filled_words = take at m.words ++ (tab (length lent) ones ++ drop (length m.words - at) (drop at m.words))

  full : PoolFull s.chunks filled_words
  full = filled s.chunks m.words room at refl (tab (length lent) ones) (tab_long (length lent) ones) (λ i l. tab_at (length lent) ones i l)

  filled_asks : OpenAsks s (mem m.bytes m.keys m.order filled_words)
  filled_asks =
      words_asks s m.bytes m.keys m.order m.words filled_words asks
      (let a = length-take-le at m.words (omega arith) in
      let b = tab_long (length lent) ones in
      let c = part_long s.chunks m.words room at refl in
      let d = length-drop (length m.words - at) (drop at m.words) in
      let e = length-drop at m.words in
      let r = room in
      simp (length-append) (omega arith))

  pub started_there : ((w : List ℕ) (i : ℕ) → i < 6 → get_or (headed s w) i 0 ≤ 4294967295) → Reached s (empty_view s)
  started_there width =
      let k₁ : List ℕ = replicate (length m.keys) 0 in
      let w₁ = headed s filled_words in
      let ks = take (length k₁ - s.chunks) (drop s.chunks k₁) in
      let os = take (length m.order - s.chunks) (drop s.chunks m.order) in
      let t = first_pages w₁ ks os (fixed_asks s m.bytes m.keys m.order filled_words filled_asks (width filled_words) full k₁ w₁ refl refl) 4 (omega arith) in
      record {
        memory = mem _ _ _ _;
        shows =
            started s m.bytes m.keys m.order filled_words filled_asks (width filled_words) full k₁ w₁ refl refl (replicate (length (take (256 * s.chunks) m.bytes)) 0) t.keys t.order refl t.keys_long
            t.order_long t.pages;
      }

-- and calldata put on its page
pub calldata_there : (m : Mem) (p : ℕ) (calldata : List ℕ) → CalldataAsks m p (length calldata) → Reached (setting_of m) (opened (setting_of m) calldata)
calldata_there m p calldata asks =
    let h = held_there m p 0 ((length calldata + 255) / 256) (hold_asks m p (length calldata) asks) in
    let t = put_there h.memory p 0 calldata (put_asks m p (length calldata) asks h.memory h.shows) in
    record { memory = t.memory; shows = calldata_put m p (length calldata) asks h.memory h.shows calldata refl t.memory t.shows }
