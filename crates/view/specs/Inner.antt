-- The steps that writes, allocations, openings and rollbacks are made of: what each does to the view, and what it asks.
-- Assumes nothing.
use Rattle.std.specs.Prelude.{◌≡◌, true, false, cond, ◌&&◌, ◌||◌, List, [], ◌++◌, ℕ, ◌+◌, ◌-◌, ◌/◌, ◌<◌, ◌≤◌, leb, ltb, eqb, length}
use Rattle.store.specs.Keys.{last_chunk}
use Rattle.store.specs.Mem.{Mem, layout_of, journal_words}
use Rattle.formed.specs.Pages.{fixed, dynamic, journal_count, journal_page}
use Rattle.formed.specs.Parts.{Note}
use Rattle.page_ids.specs.declared.Layout.{Layout}
use Rattle.formed.specs.WellFormed.{WellFormed}
use Rattle.view.specs.View.{View, view_of, with_bytes, with_held, with_pool, with_journal}
use Rattle.view.specs.Steps.{over, missing, journalled, written}

-- ---- what a step does
-- page p is allocated: a write of no bytes
abbrev pub listing : Mem → ℕ → View
listing m p = written (layout_of m.words) p 0 [] [] (view_of m)

-- the n chunks from k on of page p are held
abbrev pub holding : ℕ → ℕ → ℕ → View → View
holding p k n v = with_held (λ q j. (eqb q p && (leb k j && ltb j (k + n))) || v.held q j) (with_pool (v.pool - missing (v.held p) k n) v)

-- the notes are added to journal j
abbrev pub noting : ℕ → List Note → View → View
noting j notes v = with_journal (λ i. cond (eqb i j) (v.journal i ++ notes) (v.journal i)) v

-- the notes are added to the journal of page p, if it has one
abbrev pub journalling : Layout → ℕ → List Note → View → View
journalling l p notes v = with_journal (λ j. cond (journalled l p j) (v.journal j ++ notes) (v.journal j)) v

-- the bytes bs stand at address a of page p
abbrev pub putting : ℕ → ℕ → List ℕ → View → View
putting p a bs v = with_bytes (over p a bs v.bytes) v

-- ---- what it asks
pub record ListAsks (m : Mem) (p : ℕ) : Type 0 where
  pub formed : WellFormed m
  pub page : p ≤ 4294967295
  pub decodable : (fixed (layout_of m.words) p || dynamic (layout_of m.words) p) ≡ true
  pub entry : (view_of m).allocated p ≡ false → 0 < (view_of m).entries_left

pub record HoldAsks (m : Mem) (p k n : ℕ) : Type 0 where
  pub formed : WellFormed m
  pub listed : (view_of m).allocated p ≡ true
  pub top : k + n ≤ last_chunk + 1
  pub room : missing ((view_of m).held p) k n ≤ (view_of m).pool

-- the chunks of the 32 bytes at address a are held by journal j's page, and the journal has room
pub record NoteAsks (m : Mem) (j a : ℕ) : Type 0 where
  pub formed : WellFormed m
  pub which : j < journal_count
  pub address : a ≤ 4294967295
  pub held : (x : ℕ) → x < 32 → (view_of m).held (journal_page (layout_of m.words) j) ((a + x) / 256) ≡ true
  pub room : length ((view_of m).journal j) < journal_words m.words

-- every chunk that n bytes at address a touch is held by page p, and they end at or before 4,294,967,326
pub record PutAsks (m : Mem) (p a n : ℕ) : Type 0 where
  pub formed : WellFormed m
  pub held : (x : ℕ) → x < n → (view_of m).held p ((a + x) / 256) ≡ true
  pub top : a + n ≤ 4294967327
