-- What the steps of this crate ask, and what they do to the view.
-- Assumes nothing.
use Rattle.std.specs.Prelude.{◌≡◌, true, cond, List, ℕ, ◌+◌, ◌*◌, ◌/◌, ◌<◌, ◌≤◌, eqb, length, take, drop}
use Rattle.page_ids.specs.declared.Layout.{Layout}
use Rattle.store.specs.Mem.{Mem, layout_of, journal_words, journal_length}
use Rattle.formed.specs.Pages.{journal_count, journal_page}
use Rattle.formed.specs.Parts.{Note, tab, slot_of_chunk}
use Rattle.formed.specs.WellFormed.{WellFormed}
use Rattle.view.specs.View.{View, view_of, with_bytes, with_journal}
use Rattle.view.specs.Steps.{word_now, undone}

-- ---- words noted
-- the slots s and t hold the first and the last chunk of the word at address a of journal j's page
pub record NoteSlots (m : Mem) (j a s t : ℕ) : Type 0 where
  pub first : slot_of_chunk m (journal_page (layout_of m.words) j) (a / 256) ≡ s
  pub last : slot_of_chunk m (journal_page (layout_of m.words) j) ((a + 31) / 256) ≡ t

-- the aligned words from number `first` on
abbrev pub aligned_from : View → ℕ → ℕ → ℕ → List Note
aligned_from v p first n = tab n (λ i. word_now v p (32 * (first + i)))

-- the chunks of n aligned words from number `first` on are held by journal j's page, and the journal has room for them
pub record AlignedAsks (m : Mem) (j first n : ℕ) : Type 0 where
  pub formed : WellFormed m
  pub which : j < journal_count
  pub top : 32 * (first + n) ≤ 4294967296
  pub held : (i : ℕ) → i < n → (view_of m).held (journal_page (layout_of m.words) j) (32 * (first + i) / 256) ≡ true
  pub room : length ((view_of m).journal j) + n ≤ journal_words m.words

-- ---- words put back
-- journal j is cut to its first n words
abbrev pub cutting : ℕ → ℕ → View → View
cutting j n v = with_journal (λ i. cond (eqb i j) (take n (v.journal i)) (v.journal i)) v

-- its words from number n on are put back on page p, newest first
abbrev pub restoring : ℕ → ℕ → ℕ → View → View
restoring p j n v = with_bytes (undone p (drop n (v.journal j)) v.bytes) v

-- both
abbrev pub undoing : Layout → ℕ → ℕ → View → View
undoing l j n v = cutting j n (restoring (journal_page l j) j n v)

pub record UndoAsks (m : Mem) (j n : ℕ) : Type 0 where
  pub formed : WellFormed m
  pub which : j < journal_count
  pub mark : n ≤ journal_length m.words j

-- the marks of a rollback are numbers of words that the journals have
pub record RollBackAsks (m : Mem) (heap aux : ℕ) : Type 0 where
  pub formed : WellFormed m
  pub heap_mark : heap ≤ length ((view_of m).journal 0)
  pub aux_mark : aux ≤ length ((view_of m).journal 1)
