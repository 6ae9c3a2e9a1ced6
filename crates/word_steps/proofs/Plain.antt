-- A word whose chunks are held, on a page without a journal: its bytes are put, and nothing else is asked or done.
-- Assumes nothing.
use mathlib.Core.Path.{◌≡◌}
use mathlib.Core.Bool.{false}
use mathlib.Core.List.{List}
use Prim.Native.Nat.{ℕ, ◌%◌, ◌≤◌, ◌<◌}
use lib.ListN.{length, get_or}
use Rattle.outcome.specs.Outcome.{done}
use Rattle.word.specs.Value.{word_bytes}
use Rattle.word.proofs.Digits.{digits_long}
use Rattle.store.specs.Mem.{Mem, mem, layout_of}
use Rattle.formed.specs.Pages.{journal_count, journal_page}
use Rattle.view.specs.View.{setting_of, view_of}
use Rattle.view.specs.Steps.{word_notes}
use Rattle.view.specs.Checks.{overfull}
use Rattle.view.specs.Calls.{WriteWord, nothing, CallDoes}
use Rattle.checks.proofs.Journals.{full_none}
use Rattle.bodies.specs.Words.{place_in, Spread}
use Rattle.word_steps.specs.Asks.{WordFound, WordAsks}
use Rattle.word_steps.proofs.Chains.{journal_none}
use Rattle.word_steps.proofs.Words.{word_journal, word_done}
use Rattle.word_steps.proofs.Found.{found_asks, found_does}

module _ (m : Mem) (p a s t : ℕ) (w : WordFound m p a s t) (page : p ≤ 4294967295) (small : a ≤ 4294967295) (none : (j : ℕ) → j < journal_count → p ≡ journal_page (layout_of m.words) j → ⊥) where
  spare : overfull (setting_of m) (view_of m) p 1 journal_count ≡ false
  spare = full_none m w.formed p 1 none

  asks : WordAsks m p a s t
  asks = found_asks m p a s t w page small spare

  -- THE LAW: the 32 bytes, put at the word's place, are the whole call
  pub plain_does : (n : ℕ) (bytes' : List ℕ) → length bytes' ≡ length m.bytes → Spread (place_in s t (a % 256)) (λ i. get_or (word_bytes n) i 0) 32 m.bytes bytes'
      → CallDoes m (WriteWord p a n) (done nothing) (mem bytes' m.keys m.order m.words)
  plain_does n bytes' long d =
      found_does m p a s t w page small spare n (mem bytes' m.keys m.order m.words)
      (word_done m p a s t asks small m.bytes m.words (journal_none m p a 32 1 (word_journal m p a s t asks small) (λ q. word_notes (view_of m) q a) none) (word_bytes n) (digits_long 32 n) bytes' long d)
