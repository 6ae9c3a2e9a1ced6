-- A write by searches, and the outcome of any, from its number.
-- Assumes nothing.
use mathlib.Core.Path.{◌≡◌, sym, ap, ◌∙◌, subst}
use mathlib.Core.Bool.{true}
use mathlib.Core.List.{List}
use Prim.Native.Nat.{ℕ, ◌+◌, ◌/◌, ◌≤◌, ◌<◌}
use native.Mathlib.Omega.{arith}
use lib.ListN.{length}
use borrow.Author.Tests.{ltb-true}
use Rattle.std.specs.Prelude.{Result, Err, ⊤, IsErrAnd}
use Rattle.outcome.specs.declared.Refusal.{Refusal}
use Rattle.outcome.specs.Outcome.{Outcome, answered, answer_outcome, number_of, status_of}
use Rattle.outcome.specs.Nonzero.{number_nonzero}
use Rattle.outcome.proofs.Numbers.{handed_on}
use Rattle.word.specs.Value.{word_bytes}
use Rattle.store.specs.Mem.{Mem, layout_of, slot_count}
use Rattle.store.specs.Find.{slot_for}
use Rattle.formed.specs.Parts.{slot_of_chunk, holds}
use Rattle.formed.specs.WellFormed.{WellFormed}
use Rattle.formed.proofs.Hints.{slot_found}
use Rattle.view.specs.View.{setting_of, view_of}
use Rattle.view.specs.Steps.{aligned_count, word_written, bytes_written}
use Rattle.view.specs.Checks.{word_write_checks, byte_write_checks}
use Rattle.view.specs.Calls.{Value, WriteWord, WriteBytes, nothing, next_of, first_refusal, CallDoes}
use Rattle.view.specs.Does.{Shows}
use Rattle.view.proofs.Refused.{next, refused_does, done_does}
use Rattle.checks.proofs.Passed.{room_refusals}
use Rattle.word_steps.specs.Asks.{JournalAsks, WordAsks}

-- a page that holds the word's chunks, whose slots were found
inside : (m : Mem) (p x k : ℕ) → slot_of_chunk m p k ≡ x → holds m p k ≡ true → x < slot_count m.words
unfolding holds
inside m p x k e h = let b = ltb-true (slot_of_chunk m p k) (slot_count m.words) h in omega arith

pub held_word : (m : Mem) (p a s t : ℕ) → a ≤ 4294967295 → JournalAsks m p a 32 1 → s ≡ slot_for m.keys m.words p (a / 256) → t ≡ slot_for m.keys m.words p ((a + 31) / 256) → WordAsks m p a s t
held_word m p a s t small asks es et =
    let f = asks.formed in
    let first : slot_of_chunk m p (a / 256) ≡ s = sym (es ∙ slot_found m f p (a / 256) (omega arith)) in
    let last : slot_of_chunk m p ((a + 31) / 256) ≡ t = sym (et ∙ slot_found m f p ((a + 31) / 256) (omega arith)) in
    let q : (a + 0) / 256 ≡ a / 256 = omega arith in
    record {
      found = record {
        formed = f;
        first = first;
        last = last;
        first_in = inside m p s (a / 256) first (ap (holds m p) (sym q) ∙ asks.held 0 (omega arith));
        last_in = inside m p t ((a + 31) / 256) last (asks.held 31 (omega arith));
      };
      room = asks.room;
    }

-- ---- a write that hints did not know
module _ (m : Mem) (p a n : ℕ) where
  pub left_does : (m₁ : Mem) → m₁ ≡ m → (o : Outcome Value) (m' : Mem) → CallDoes m₁ (WriteWord p a n) o m' → CallDoes m (WriteWord p a n) o m'
  left_does m₁ e o m' d = subst (λ (x : Mem). CallDoes x (WriteWord p a n) o m') e d

  -- ---- and one by searches
  module _ (f : WellFormed m) where
    pub searched_refused : (e : Refusal) → number_of e ≡ first_refusal (word_write_checks (setting_of m) (view_of m) p a) → CallDoes m (WriteWord p a n) (answer_outcome nothing (Err e)) m
    searched_refused e is = refused_does m f (word_write_checks (setting_of m) (view_of m) p a) (setting_of m) (next_of (setting_of m) (WriteWord p a n) (view_of m)) (number_of e) is (number_nonzero e)

    -- a refusal r that a step gave is handed on as r'; the step left the memory as it was
    pub searched_left : (r : Result ⊤ Refusal) {e : Refusal} → r ≡ Err e → status_of r ≡ first_refusal (word_write_checks (setting_of m) (view_of m) p a) → (m' : Mem) → m' ≡ m → (r' : Result ⊤ Refusal) → IsErrAnd r' (λ y. y ≡ e) → CallDoes m (WriteWord p a n) (answer_outcome nothing r') m'
    searched_left r {e} was number m' same r' on =
        subst (λ (x : Mem). CallDoes m (WriteWord p a n) (answer_outcome nothing r') x) (sym same)
        (subst (λ (x : Result ⊤ Refusal). CallDoes m (WriteWord p a n) (answer_outcome nothing x) m) (sym (handed_on r' on)) (searched_refused e (sym (ap status_of was) ∙ number)))

    pub searched_done : first_refusal (word_write_checks (setting_of m) (view_of m) p a) ≡ 0 → (m' : Mem) → Shows (setting_of m) (word_written (layout_of m.words) p a (word_bytes n) (view_of m)) m' → CallDoes m (WriteWord p a n) (answered 0 nothing) m'
    searched_done e m' shown = done_does m f (word_write_checks (setting_of m) (view_of m) p a) (setting_of m) (next_of (setting_of m) (WriteWord p a n) (view_of m)) (next (room_refusals (setting_of m) (view_of m) p a 32 1)) e shown

-- ---- bytes
module _ (m : Mem) (p a : ℕ) (bs : List ℕ) (f : WellFormed m) where
  pub range_refused : (e : Refusal) → number_of e ≡ first_refusal (byte_write_checks (setting_of m) (view_of m) p a (length bs)) → CallDoes m (WriteBytes p a bs) (answer_outcome nothing (Err e)) m
  range_refused e is = refused_does m f (byte_write_checks (setting_of m) (view_of m) p a (length bs)) (setting_of m) (next_of (setting_of m) (WriteBytes p a bs) (view_of m)) (number_of e) is (number_nonzero e)

  pub range_left : (r : Result ⊤ Refusal) {e : Refusal} → r ≡ Err e → status_of r ≡ first_refusal (byte_write_checks (setting_of m) (view_of m) p a (length bs)) → (m' : Mem) → m' ≡ m → (r' : Result ⊤ Refusal) → IsErrAnd r' (λ y. y ≡ e) → CallDoes m (WriteBytes p a bs) (answer_outcome nothing r') m'
  range_left r {e} was number m' same r' on =
      subst (λ (x : Mem). CallDoes m (WriteBytes p a bs) (answer_outcome nothing r') x) (sym same)
      (subst (λ (x : Result ⊤ Refusal). CallDoes m (WriteBytes p a bs) (answer_outcome nothing x) m) (sym (handed_on r' on)) (range_refused e (sym (ap status_of was) ∙ number)))

  pub range_done : first_refusal (byte_write_checks (setting_of m) (view_of m) p a (length bs)) ≡ 0 → (m' : Mem) → Shows (setting_of m) (bytes_written (layout_of m.words) p a bs (view_of m)) m' → CallDoes m (WriteBytes p a bs) (answered 0 nothing) m'
  range_done e m' shown = done_does m f (byte_write_checks (setting_of m) (view_of m) p a (length bs)) (setting_of m) (next_of (setting_of m) (WriteBytes p a bs) (view_of m)) (next (next (room_refusals (setting_of m) (view_of m) p a (length bs) (aligned_count a (length bs))))) e shown
