-- What the steps of a word write ask, and what one that may do nothing leaves.
-- Assumes nothing.
use Rattle.std.specs.Prelude.{◌≡◌, true, List, ℕ, ◌+◌, ◌/◌, ◌<◌, ◌≤◌, length, Option, Some, None, Result, ⊤}
use Rattle.page_ids.specs.declared.Layout.{Layout}
use Rattle.store.specs.Mem.{Mem, layout_of, slot_count, journal_words}
use Rattle.formed.specs.Pages.{journal_count, journal_page}
use Rattle.formed.specs.Parts.{slot_of_chunk}
use Rattle.formed.specs.WellFormed.{WellFormed}
use Rattle.outcome.specs.Outcome.{answer_outcome}
use Rattle.outcome.specs.declared.Refusal.{Refusal}
use Rattle.view.specs.View.{View, view_of}
use Rattle.view.specs.Steps.{word_notes}
use Rattle.view.specs.Inner.{journalling, putting}
use Rattle.view.specs.Calls.{WriteWord, nothing, CallDoes}

-- page p holds the chunks of n bytes at address a, and if it has a journal, that has room for w words
pub record JournalAsks (m : Mem) (p a n w : ℕ) : Type 0 where
  pub formed : WellFormed m
  pub held : (x : ℕ) → x < n → (view_of m).held p ((a + x) / 256) ≡ true
  pub room : (j : ℕ) → j < journal_count → p ≡ journal_page (layout_of m.words) j → length ((view_of m).journal j) + w ≤ journal_words m.words

-- the slots s and t hold the first and the last chunk of the word at address a of page p
pub record WordFound (m : Mem) (p a s t : ℕ) : Type 0 where
  pub formed : WellFormed m
  pub first : slot_of_chunk m p (a / 256) ≡ s
  pub last : slot_of_chunk m p ((a + 31) / 256) ≡ t
  pub first_in : s < slot_count m.words
  pub last_in : t < slot_count m.words

-- .. and if the page has a journal, that has room for a word
pub record WordAsks (m : Mem) (p a s t : ℕ) : Type 0 where
  pub found : WordFound m p a s t
  pub room : (j : ℕ) → j < journal_count → p ≡ journal_page (layout_of m.words) j → length ((view_of m).journal j) + 1 ≤ journal_words m.words

-- the word at address a of page p is journalled, if the page has a journal, and ws put in its place
abbrev pub word_put : Layout → ℕ → ℕ → List ℕ → View → View
word_put l p a ws v = putting p a ws (journalling l p (word_notes v p a) v)

-- the whole call that writes the word n to address a of page p, with the answer that r has; or hints do not know the chunks, r is none and the memory is as it was
pub record WrittenOrLeft (m : Mem) (p a n : ℕ) (r : Option (Result ⊤ Refusal)) (m' : Mem) : Type 0 where
  pub left : r ≡ None → m' ≡ m
  pub written : (x : Result ⊤ Refusal) → r ≡ Some x → CallDoes m (WriteWord p a n) (answer_outcome nothing x) m'
