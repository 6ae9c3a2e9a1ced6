-- A word that is journalled and put, at the slots that hold its chunks.
-- Assumes nothing.
use mathlib.Core.Path.{◌≡◌, refl, sym, ap, ◌∙◌, subst}
use mathlib.Core.Bool.{true, cond}
use mathlib.Core.List.{List}
use mathlib.Core.Logic.{⊎_elim}
use Prim.Native.Nat.{ℕ, ◌+◌, ◌/◌, ◌%◌, ◌≤◌, ◌<◌}
use native.Mathlib.Omega.{arith}
use lib.Dec.{leb}
use lib.ListN.{length, get_or, take, drop}
use borrow.Author.Tests.{lt-ltb}
use Rattle.store.specs.Keys.{last_chunk, key_of}
use Rattle.index.specs.Index.{seek}
use Rattle.index.proofs.Logic.{same_or_not}
use Rattle.store.specs.Mem.{Mem, mem, layout_of, slot_count}
use Rattle.formed.specs.Pages.{journal_page}
use Rattle.formed.specs.Parts.{slot_of_chunk, holds}
use Rattle.formed.proofs.Same.{tab_is}
use Rattle.view.specs.View.{Setting, setting_of, view_of}
use Rattle.view.specs.Steps.{word_notes}
use Rattle.view.specs.Does.{Shows}
use Rattle.view.specs.Inner.{journalling, putting}
use Rattle.bodies.specs.Words.{place_in, Spread, InSlots}
use Rattle.bodies.proofs.Pieces.{held_here}
use Rattle.bodies.proofs.Puts.{shows_then, shows_view}
use Rattle.bodies.proofs.Words.{put_shows}
use Rattle.bodies.proofs.WordBytes.{word_in_slots}
use Rattle.journal.specs.Steps.{NoteSlots}
use Rattle.word_steps.specs.Asks.{JournalAsks, WordAsks, word_put}

-- the keys say where a chunk is held
slots_stay : (b b' keys order w w' : List ℕ) → slot_count w' ≡ slot_count w → (p k : ℕ) → slot_of_chunk (mem b' keys order w') p k ≡ slot_of_chunk (mem b keys order w) p k
unfolding slot_of_chunk
slots_stay b b' keys order w w' e p k =
    ap (λ (c : ℕ). cond (leb k last_chunk) (seek (take c keys) (key_of (seek (drop c keys) (p + 1)) k)) c) e

module _ (m : Mem) (p a s t : ℕ) (asks : WordAsks m p a s t) (small : a ≤ 4294967295) where
  holds_there : (x k : ℕ) → slot_of_chunk m p k ≡ x → x < slot_count m.words → holds m p k ≡ true
  unfolding holds
  holds_there x k e l = lt-ltb (slot_of_chunk m p k) (slot_count m.words) (omega arith)

  -- each byte's chunk is the first or the last
  held_all : (x : ℕ) → x < 32 → holds m p ((a + x) / 256) ≡ true
  held_all x l =
      ⊎_elim
      (λ (e : (a + x) / 256 ≡ a / 256). ap (holds m p) e ∙ holds_there s (a / 256) asks.found.first asks.found.first_in)
      (λ (n : (a + x) / 256 ≡ a / 256 → ⊥). let e : (a + x) / 256 ≡ (a + 31) / 256 = omega arith in ap (holds m p) e ∙ holds_there t ((a + 31) / 256) asks.found.last asks.found.last_in)
      (same_or_not ((a + x) / 256) (a / 256))

  -- ---- its journal
  pub word_journal : JournalAsks m p a 32 1
  word_journal = record { formed = asks.found.formed; held = held_all; room = asks.room }

  pub word_slots : (j : ℕ) → p ≡ journal_page (layout_of m.words) j → NoteSlots m j a s t
  word_slots j own = subst (λ (q : ℕ). (slot_of_chunk m q (a / 256) ≡ s) × (slot_of_chunk m q ((a + 31) / 256) ≡ t) → NoteSlots m j a s t) (sym own) (λ h. record { first = h.0; last = h.1 }) (asks.found.first, asks.found.last)

  -- ---- and its bytes, after it was journalled
  module _ (bytes' words' : List ℕ) (noted : Shows (setting_of m) (journalling (layout_of m.words) p (word_notes (view_of m) p a) (view_of m)) (mem bytes' m.keys m.order words')) where
    abbrev m₁ : Mem
    m₁ = mem bytes' m.keys m.order words'

    count_same : slot_count words' ≡ slot_count m.words
    count_same = ap (λ (x : Setting). x.chunks) noted.setting

    slot_same : (k : ℕ) → slot_of_chunk m₁ p k ≡ slot_of_chunk m p k
    slot_same k = slots_stay m.bytes bytes' m.keys m.order m.words words' count_same p k

    first_in : s < slot_count words'
    first_in = let h = asks.found.first_in in let e = count_same in omega arith

    last_in : t < slot_count words'
    last_in = let h = asks.found.last_in in let e = count_same in omega arith

    pub word_places : InSlots bytes' s t (a % 256)
    word_places = word_in_slots m₁ p a s t first_in last_in noted.formed

    pub word_done : (ws : List ℕ) → length ws ≡ 32 → (bytes'' : List ℕ) → length bytes'' ≡ length bytes' → Spread (place_in s t (a % 256)) (λ i. get_or ws i 0) 32 bytes' bytes''
        → Shows (setting_of m) (word_put (layout_of m.words) p a ws (view_of m)) (mem bytes'' m.keys m.order words')
    word_done ws wide bytes'' long d =
        shows_then (putting p a ws) noted
        (shows_view
        (put_shows m₁ noted.formed p a s t small
        (held_here m₁ noted.formed s p (a / 256) (slot_same (a / 256) ∙ asks.found.first) first_in)
        (held_here m₁ noted.formed t p ((a + 31) / 256) (slot_same ((a + 31) / 256) ∙ asks.found.last) last_in)
        (λ i. get_or ws i 0) bytes'' long d)
        (ap (λ (x : List ℕ). putting p a x (view_of m₁)) (sym (tab_is 32 (λ i. get_or ws i 0) ws wide (λ i l. refl)))))
