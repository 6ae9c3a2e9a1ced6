-- What one hint tells of a word.
-- Assumes nothing.
use Rattle.std.specs.Prelude.{◌≡◌, List, ℕ, ◌+◌, ◌/◌, ◌%◌, ◌<◌}
use Rattle.page_ids.specs.declared.Layout.{Layout}
use Rattle.store.specs.Mem.{slot_count}
use Rattle.store.specs.Find.{slot_for}
use Rattle.formed.specs.Pages.{journal_count, journal_page}

-- the slot in which a word at address a ends that begins in slot s and lies in one piece
abbrev pub last_slot : ℕ → ℕ → ℕ
last_slot s a = s + (a % 256 + 31) / 256

-- the word at address a of page p lies in one piece that begins in slot s: in one chunk, or in two whose slots follow each other
pub record InOnePiece (keys words : List ℕ) (p a s : ℕ) : Type 0 where
  pub first : s ≡ slot_for keys words p (a / 256)
  pub last : last_slot s a ≡ slot_for keys words p ((a + 31) / 256)
  pub last_in : last_slot s a < slot_count words

-- page p has no journal
abbrev pub WithoutJournal : Layout → ℕ → Type 0
WithoutJournal layout p = (j : ℕ) → j < journal_count → p ≡ journal_page layout j → ⊥
