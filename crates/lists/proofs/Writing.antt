-- Memories that exist: each write and allocation that passes its tests can be carried out.
-- Assumes nothing.
use mathlib.Core.Path.{◌≡◌, refl, ap, subst}
use mathlib.Core.Logic.{⊎_elim}
use mathlib.Core.List.{List, []}
use Prim.Native.Nat.{ℕ, zero, suc, ◌/◌, ◌≤◌, ◌<◌}
use native.Mathlib.Omega.{arith}
use lib.ListN.{length}
use Rattle.view.specs.Calls.{first_refusal}
use Rattle.index.proofs.Logic.{same_or_not}
use Rattle.word.specs.Value.{word_bytes}
use Rattle.word.proofs.Digits.{digits_long}
use Rattle.store.specs.Mem.{Mem, layout_of}
use Rattle.formed.specs.Pages.{journal_count, journal_page}
use Rattle.formed.specs.Parts.{Note}
use Rattle.formed.specs.WellFormed.{WellFormed}
use Rattle.view.specs.View.{View, setting_of, view_of}
use Rattle.view.specs.Steps.{touched_count, aligned_count, word_notes, aligned_notes, written, word_written, bytes_written, contents_allocated}
use Rattle.view.specs.Checks.{word_write_checks, byte_write_checks, allocate_checks}
use Rattle.view.specs.Inner.{listing, holding, noting, journalling, putting}
use Rattle.checks.proofs.Passed.{bytes_passed}
use Rattle.word_steps.specs.Asks.{JournalAsks}
use Rattle.bodies.proofs.Puts.{shows_then}
use Rattle.word_steps.proofs.Chains.{Cleared, word_cleared, journal_own, journal_none, note_asks, word_notes_same, write_done}
use Rattle.reserve.proofs.Reserving.{list_asks, hold_asks, prepared}
use Rattle.write_steps.proofs.Chains.{bytes_cleared, contents_cleared, contents_unjournalled, prepare_asks, journal_asks, aligned_asks, aligned_notes_same, plain_asks, plain_done, put_asks}
use Rattle.lists.proofs.Reach.{Reached, held_there, listed_there, put_there, noted_there, aligned_there}

-- the page is allocated, and its chunks held
module _ (m : Mem) (p a n w : ℕ) (c : Cleared m p a n w (touched_count a n)) where
  prepared_there : Reached (setting_of m) (holding p (a / 256) (touched_count a n) (listing m p))
  prepared_there =
      let asks = prepare_asks m p a n w (touched_count a n) c in
      let l = listed_there m p (list_asks m p (a / 256) (touched_count a n) asks) in
      let h = held_there l.memory p (a / 256) (touched_count a n) (hold_asks m p (a / 256) (touched_count a n) asks l.memory l.shows) in
      record { memory = h.memory; shows = prepared m p (a / 256) (touched_count a n) asks l.memory l.shows h.memory h.shows }

-- the words are journalled, if the page has a journal
module _ (m : Mem) (p a n w : ℕ) (asks : JournalAsks m p a n w) (f : ℕ → List Note) where
  journalled_there : ((j : ℕ) → j < journal_count → p ≡ journal_page (layout_of m.words) j → Reached (setting_of m) (noting j (f (journal_page (layout_of m.words) j)) (view_of m)))
      → Reached (setting_of m) (journalling (layout_of m.words) p (f p) (view_of m))
  journalled_there note =
      ⊎_elim (λ (e : p ≡ journal_page (layout_of m.words) 0). own 0 (omega arith) e)
      (λ (x : p ≡ journal_page (layout_of m.words) 0 → ⊥).
      ⊎_elim (λ (e : p ≡ journal_page (layout_of m.words) 1). own 1 (omega arith) e)
      (λ (y : p ≡ journal_page (layout_of m.words) 1 → ⊥). record { memory = m; shows = journal_none m p a n w asks f (neither x y) })
      (same_or_not p (journal_page (layout_of m.words) 1)))
      (same_or_not p (journal_page (layout_of m.words) 0))
    where
      neither : (p ≡ journal_page (layout_of m.words) 0 → ⊥) → (p ≡ journal_page (layout_of m.words) 1 → ⊥) → (j : ℕ) → j < journal_count → p ≡ journal_page (layout_of m.words) j → ⊥
      neither x y zero l = x
      neither x y (suc zero) l = y
      neither x y (suc (suc j)) l = absurd (omega arith)

      own : (j : ℕ) → j < journal_count → p ≡ journal_page (layout_of m.words) j → Reached (setting_of m) (journalling (layout_of m.words) p (f p) (view_of m))
      own j l e = let t = note j l e in record { memory = t.memory; shows = journal_own m p a n w asks f j l e t.memory t.shows }

-- a write
module _ (m : Mem) (p a : ℕ) (bs : List ℕ) (w : ℕ) (c : Cleared m p a (length bs) w (touched_count a (length bs))) (notes : View → ℕ → List Note)
    (same : (u v : View) → ((b : ℕ) → u.bytes p b ≡ v.bytes p b) → notes u p ≡ notes v p)
    (note : (m₂ : Mem) → JournalAsks m₂ p a (length bs) w → (j : ℕ) → j < journal_count → p ≡ journal_page (layout_of m₂.words) j
    → Reached (setting_of m₂) (noting j (notes (view_of m₂) (journal_page (layout_of m₂.words) j)) (view_of m₂))) where
  written_there : Reached (setting_of m) (written (layout_of m.words) p a bs (notes (view_of m) p) (view_of m))
  written_there =
      let k = touched_count a (length bs) in
      let h = prepared_there m p a (length bs) w c in
      let q = journal_asks m p a (length bs) w k c h.memory h.shows in
      let j = journalled_there h.memory p a (length bs) w q (notes (view_of h.memory)) (note h.memory q) in
      let t = put_there j.memory p a bs (put_asks m p a bs w k c h.memory h.shows (λ v. notes v p) same j.memory j.shows) in
      record { memory = t.memory; shows = write_done m p a bs w k c h.memory h.shows (λ v. notes v p) same t.memory (shows_then (putting p a bs) j.shows t.shows) }

module _ (m : Mem) (p a : ℕ) (page : p ≤ 4294967295) (address : a ≤ 4294967295) where
  pub word_there : (n : ℕ) → (WellFormed m) × (first_refusal (word_write_checks (setting_of m) (view_of m) p a) ≡ 0) → Reached (setting_of m) (word_written (layout_of m.words) p a (word_bytes n) (view_of m))
  word_there n asks =
      written_there m p a (word_bytes n) 1
      (word_cleared m p a (touched_count a (length (word_bytes n))) page address asks (ap (touched_count a) (digits_long 32 n)) (length (word_bytes n)) (digits_long 32 n))
      (λ v q. word_notes v q a) (λ u v. word_notes_same u v p a)
      (λ m₂ q j l e. noted_there m₂ j a (note_asks m₂ p a address (subst (λ (x : ℕ). JournalAsks m₂ p a x 1) (digits_long 32 n) q) j l e))

  pub bytes_there : (bs : List ℕ) → (WellFormed m) × (first_refusal (byte_write_checks (setting_of m) (view_of m) p a (length bs)) ≡ 0) → Reached (setting_of m) (bytes_written (layout_of m.words) p a bs (view_of m))
  bytes_there bs asks =
      let top = (bytes_passed (setting_of m) (view_of m) p a (length bs) asks.1).1 in
      written_there m p a bs (aligned_count a (length bs)) (bytes_cleared m p a (touched_count a (length bs)) page (length bs) asks refl)
      (λ v q. aligned_notes v q a (length bs)) (λ u v. aligned_notes_same u v p a (length bs))
      (λ m₂ q j l e. aligned_there m₂ j (a / 32) (aligned_count a (length bs)) (aligned_asks m₂ p a (length bs) top q j l e (aligned_count a (length bs)) refl))

-- an allocation
pub contents_there : (m : Mem) (p : ℕ) → p ≤ 4294967295 → (bs : List ℕ) → (WellFormed m) × (first_refusal (allocate_checks (setting_of m) (view_of m) p (length bs)) ≡ 0)
    → Reached (setting_of m) (contents_allocated (layout_of m.words) p bs (view_of m))
contents_there m p page bs asks =
    let k = touched_count 0 (length bs) in
    let c = contents_cleared m p (length bs) k page asks refl in
    let h = prepared_there m p 0 (length bs) 0 c in
    let t = put_there h.memory p 0 bs (plain_asks m p 0 bs 0 k c h.memory h.shows) in
    record { memory = t.memory; shows = plain_done m p 0 bs 0 k c h.memory h.shows [] (contents_unjournalled m p (length bs) asks) t.memory t.shows }
