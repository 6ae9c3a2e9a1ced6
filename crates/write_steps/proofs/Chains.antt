-- The steps of a write, one after another.
-- Assumes nothing.
use mathlib.Core.Path.{◌≡◌, refl, sym, ap, ◌∙◌, subst}
use mathlib.Core.Bool.{Bool, true, false, ◌&&◌, ◌||◌, false≢true}
use mathlib.Core.List.{List}
use Prim.Native.Nat.{ℕ, zero, suc, ◌+◌, ◌*◌, ◌-◌, ◌/◌, ◌^◌, ◌<◌, ◌≤◌}
use native.Mathlib.Omega.{arith}
use lib.Dec.{ltb, leb}
use lib.ListN.{length}
use borrow.Author.Tests.{lt-ltb, le-leb, eq-eqb}
use Rattle.view.proofs.Missing.{missing_all}
use Rattle.view.specs.Calls.{first_refusal}
use Rattle.page_ids.specs.declared.Layout.{Layout}
use Rattle.store.specs.Mem.{Mem, layout_of, journal_words}
use Rattle.formed.specs.Pages.{journal_count, journal_place, journal_page}
use Rattle.formed.proofs.Sense.{pool_is, unlisted_holds}
use Rattle.formed.proofs.Same.{tab_same}
use Rattle.formed.specs.Parts.{Note}
use Rattle.formed.specs.WellFormed.{WellFormed}
use Rattle.formed.proofs.Pages.{is_fixed_lem, place_lt}
use Rattle.view.specs.View.{View, Setting, setting_of, view_of}
use Rattle.view.specs.Steps.{needs, touched_count, aligned_count, aligned_notes, written}
use Rattle.view.specs.Does.{Shows}
use Rattle.view.specs.Inner.{listing, holding, noting, journalling, putting, ListAsks, PutAsks}
use Rattle.view.proofs.Compose.{listed_journal, plain_write}
use Rattle.journal.specs.Steps.{AlignedAsks, aligned_from}
use Rattle.bodies.proofs.Puts.{shows_then, shows_view}
use Rattle.word_steps.specs.Asks.{JournalAsks}
use Rattle.word_steps.proofs.Chains.{Cleared, ready, run_same}
use Rattle.reserve.specs.Asks.{PrepareAsks}
use Rattle.view.specs.Checks.{byte_write_checks, allocate_checks}
use Rattle.checks.proofs.Chosen.{touched_top}
use Rattle.checks.proofs.Passed.{decodable, bytes_passed, allocate_passed}

-- ---- ranges
-- each byte's chunk is one of those touched
pub touched_in : (a n x : ℕ) → x < n → (leb (a / 256) ((a + x) / 256) && ltb ((a + x) / 256) (a / 256 + touched_count a n)) ≡ true
touched_in a zero x l = absurd (omega arith)
touched_in a (suc n) x l =
    rw (le-leb (a / 256) ((a + x) / 256) (omega arith), lt-ltb ((a + x) / 256) (a / 256 + ((a + n) / 256 - a / 256 + 1)) (omega arith)) refl

-- ---- a call that passed its tests
module _ (m : Mem) (p a k : ℕ) (page : p ≤ 4294967295) where
  pub bytes_cleared : (n : ℕ) → (WellFormed m) × (first_refusal (byte_write_checks (setting_of m) (view_of m) p a n) ≡ 0) → k ≡ touched_count a n → Cleared m p a n (aligned_count a n) k
  bytes_cleared n asks e =
      let h = bytes_passed (setting_of m) (view_of m) p a n asks.1 in
      let l = h.1 in
      record { formed = asks.0; page = page; known = h.0; room = h.2; end = omega arith; count = e }

-- contents for which the pool suffices are short: a page that is not allocated holds no chunk
contents_end : (m : Mem) → WellFormed m → (p n : ℕ) → (view_of m).allocated p ≡ false → needs (view_of m) p 0 n ≤ (view_of m).pool → 0 + n ≤ 4294967327
contents_end m f p n new room =
    let e = missing_all ((view_of m).held p) (λ k. unlisted_holds m f p k new) (0 / 256) (touched_count 0 n) in
    let u = pool_is m f in
    let c = f.lengths.chunks_hi in
    short n (omega arith)
  where
    short : (n : ℕ) → touched_count 0 n ≤ 65536 → 0 + n ≤ 4294967327
    short zero l = omega arith
    short (suc n) l = omega arith

pub contents_cleared : (m : Mem) (p n k : ℕ) → p ≤ 4294967295 → (WellFormed m) × (first_refusal (allocate_checks (setting_of m) (view_of m) p n) ≡ 0) → k ≡ touched_count 0 n → Cleared m p 0 n 0 k
contents_cleared m p n k page asks e =
    let h = allocate_passed (setting_of m) (view_of m) p 0 n asks.1 in
    record { formed = asks.0; page = page; known = h.0; room = h.3; end = contents_end m asks.0 p n h.2 h.3.chunks; count = e }

-- an empty page
pub allocate_asks : (m : Mem) (p : ℕ) → p ≤ 4294967295 → (WellFormed m) × (first_refusal (allocate_checks (setting_of m) (view_of m) p 0) ≡ 0) → ListAsks m p
allocate_asks m p page asks =
    let h = allocate_passed (setting_of m) (view_of m) p 0 0 asks.1 in
    record { formed = asks.0; page = page; decodable = decodable (setting_of m) p h.0; entry = h.3.entry }

-- a fixed page alone has a journal
pub contents_unjournalled : (m : Mem) (p n : ℕ) → (WellFormed m) × (first_refusal (allocate_checks (setting_of m) (view_of m) p n) ≡ 0) → (j : ℕ) → j < journal_count → p ≡ journal_page (layout_of m.words) j → ⊥
contents_unjournalled m p n asks j k own =
    let h = allocate_passed (setting_of m) (view_of m) p 0 n asks.1 in
    false≢true (sym h.1 ∙ is_fixed_lem (layout_of m.words) p (journal_place j) (place_lt j k) own)

module _ (m : Mem) (p a n w k : ℕ) (c : Cleared m p a n w k) where
  pub count_small : k < 2 ^ 32
  count_small = let t = touched_top a n c.end in let e = c.count in omega arith

  pub prepare_asks : PrepareAsks m p (a / 256) k
  prepare_asks = subst (PrepareAsks m p (a / 256)) (sym c.count) record {
    formed = c.formed;
    page = c.page;
    decodable = decodable (setting_of m) p c.known;
    entry = c.room.entry;
    top = touched_top a n c.end;
    room = c.room.chunks;
  }

  module _ (m₂ : Mem) (done : Shows (setting_of m) (holding p (a / 256) k (listing m p)) m₂) where
    ready_now : Shows (setting_of m) (holding p (a / 256) (touched_count a n) (listing m p)) m₂
    ready_now = ready m p a n w k c m₂ done

    pub held_now_lem : (x : ℕ) → x < n → (view_of m₂).held p ((a + x) / 256) ≡ true
    held_now_lem x l =
        ap (λ (v : View). v.held p ((a + x) / 256)) ready_now.view
        ∙ ap (λ (b : Bool). (b && (leb (a / 256) ((a + x) / 256) && ltb ((a + x) / 256) (a / 256 + touched_count a n))) || (listing m p).held p ((a + x) / 256)) (eq-eqb p p refl)
        ∙ ap (λ (b : Bool). b || (listing m p).held p ((a + x) / 256)) (touched_in a n x l)

    layout_now : layout_of m₂.words ≡ layout_of m.words
    layout_now = ap (λ (s : Setting). s.layout) ready_now.setting

    pub journal_asks : JournalAsks m₂ p a n w
    journal_asks = record {
      formed = ready_now.formed;
      held = held_now_lem;
      room = λ j l q.
          let e : (view_of m₂).journal j ≡ (view_of m).journal j = ap (λ (v : View). v.journal j) ready_now.view ∙ listed_journal (layout_of m.words) p (view_of m) j in
          let s : journal_words m₂.words ≡ journal_words m.words = ap (λ (s : Setting). s.journal_words) ready_now.setting in
          let h = c.room.words j l (q ∙ ap (λ (t : Layout). journal_page t j) layout_now) in
          let g : length ((view_of m₂).journal j) ≡ length ((view_of m).journal j) = ap length e in
          omega arith;
    }

-- ---- the words are journalled
-- the chunk of each aligned word is that of one of the bytes
pub aligned_top : (a n : ℕ) → a + n ≤ 2 ^ 32 → 32 * (a / 32 + aligned_count a n) ≤ 4294967296
aligned_top a zero l = omega arith
aligned_top a (suc n) l = omega arith

aligned_byte : (a n i : ℕ) → i < aligned_count a n → ((x : ℕ) → x < n → (a + x) / 256 ≡ 32 * (a / 32 + i) / 256 → ⊥) → ⊥
aligned_byte a zero i l none = omega arith
aligned_byte a (suc n) zero l none = none 0 (omega arith) (omega arith)
aligned_byte a (suc n) (suc i) l none = none (32 * (a / 32 + suc i) - a) (omega arith) (omega arith)

pub aligned_asks : (m : Mem) (p a n : ℕ) → a + n ≤ 2 ^ 32 → JournalAsks m p a n (aligned_count a n) → (j : ℕ) → j < journal_count → p ≡ journal_page (layout_of m.words) j → (i : ℕ) → i ≡ aligned_count a n → AlignedAsks m j (a / 32) i
aligned_asks m p a n small asks j k own i is = subst (AlignedAsks m j (a / 32)) (sym is) record {
  formed = asks.formed;
  which = k;
  top = aligned_top a n small;
  held = λ i l. by_chunk i l;
  room = asks.room j k own;
}
  where
    decide : (b : Bool) → ((b ≡ true → ⊥) → ⊥) → b ≡ true
    decide true h = refl
    decide false h = absurd (h false≢true)

    by_chunk : (i : ℕ) → i < aligned_count a n → (view_of m).held (journal_page (layout_of m.words) j) (32 * (a / 32 + i) / 256) ≡ true
    by_chunk i l =
        decide _ (λ no. aligned_byte a n i l (λ x lx e.
        no (subst (λ (q : ℕ). (view_of m).held q (32 * (a / 32 + i) / 256) ≡ true) own (subst (λ (c : ℕ). (view_of m).held p c ≡ true) e (asks.held x lx)))))

-- as many words are journalled as were counted
pub counted_by : (m : Mem) (a n j i : ℕ) → i ≡ aligned_count a n → (m' : Mem) → Shows (setting_of m) (noting j (aligned_from (view_of m) (journal_page (layout_of m.words) j) (a / 32) i) (view_of m)) m' → Shows (setting_of m) (noting j (aligned_notes (view_of m) (journal_page (layout_of m.words) j) a n) (view_of m)) m'
counted_by m a n j i is m' shown = subst (λ (x : ℕ). Shows (setting_of m) (noting j (aligned_from (view_of m) (journal_page (layout_of m.words) j) (a / 32) x) (view_of m)) m') is shown

-- ---- the notes are those of the memory before
pub aligned_notes_same : (v w : View) (p a n : ℕ) → ((b : ℕ) → v.bytes p b ≡ w.bytes p b) → aligned_notes v p a n ≡ aligned_notes w p a n
aligned_notes_same v w p a n h = tab_same (aligned_count a n) _ _ (λ i. ap (λ (o : List ℕ). record { address = 32 * (a / 32 + i); old = o }) (run_same v w p (32 * (a / 32 + i)) 32 h))

-- ---- the bytes are put
module _ (m : Mem) (p a : ℕ) (bs : List ℕ) (w k : ℕ) (c : Cleared m p a (length bs) w k) (m₂ : Mem) (done : Shows (setting_of m) (holding p (a / 256) k (listing m p)) m₂) where
  now : Shows (setting_of m) (holding p (a / 256) (touched_count a (length bs)) (listing m p)) m₂
  now = ready m p a (length bs) w k c m₂ done

  held : (x : ℕ) → x < length bs → (view_of m₂).held p ((a + x) / 256) ≡ true
  held = held_now_lem m p a (length bs) w k c m₂ done

  -- a page without a journal
  pub plain_asks : PutAsks m₂ p a (length bs)
  plain_asks = record { formed = now.formed; held = held; top = c.end }

  pub plain_done : (notes : List Note) → ((j : ℕ) → j < journal_count → p ≡ journal_page (layout_of m.words) j → ⊥) → (m₄ : Mem) → Shows (setting_of m₂) (putting p a bs (view_of m₂)) m₄ → Shows (setting_of m) (written (layout_of m.words) p a bs notes (view_of m)) m₄
  plain_done notes n m₄ put = shows_view (shows_then (putting p a bs) now put) (plain_write (layout_of m.words) p (view_of m) a bs notes n)

  -- a page that may have one
  module _ (notes : View → List Note) (same : (v w : View) → ((b : ℕ) → v.bytes p b ≡ w.bytes p b) → notes v ≡ notes w) where
    pub put_asks : (m₃ : Mem) → Shows (setting_of m₂) (journalling (layout_of m₂.words) p (notes (view_of m₂)) (view_of m₂)) m₃ → PutAsks m₃ p a (length bs)
    put_asks m₃ noted = record { formed = noted.formed; held = λ x l. ap (λ (v : View). v.held p ((a + x) / 256)) noted.view ∙ held x l; top = c.end }
