-- A word in one chunk of an allocated page, by searches: nothing has to be listed, and one chunk at most has to be held.
-- Assumes nothing.
use mathlib.Core.Path.{◌≡◌, refl, sym, ap, ◌∙◌}
use Prim.Native.Nat.{ℕ, ◌+◌, ◌/◌, ◌%◌, ◌<◌, ◌≤◌}
use native.Mathlib.Omega.{arith}
use lib.ListN.{length}
use Rattle.outcome.specs.Outcome.{answered}
use Rattle.word.specs.Value.{word_bytes}
use Rattle.word.proofs.Digits.{digits_long}
use Rattle.index.specs.Index.{seek}
use Rattle.store.specs.Keys.{key_of}
use Rattle.store.specs.Mem.{Mem, layout_of, slot_count, page_count, holders}
use Rattle.formed.specs.Parts.{entry_of, slot_of_chunk}
use Rattle.formed.proofs.Sense.{slot_near}
use Rattle.formed.specs.WellFormed.{WellFormed}
use Rattle.view.specs.View.{View, Setting, setting_of, view_of}
use Rattle.view.specs.Steps.{word_notes}
use Rattle.view.specs.Checks.{word_write_checks}
use Rattle.view.specs.Calls.{WriteWord, nothing, first_refusal, CallDoes}
use Rattle.view.specs.Does.{Shows}
use Rattle.view.specs.Inner.{listing, holding, HoldAsks}
use Rattle.pages.proofs.Listing.{listed_already}
use Rattle.word_steps.specs.Asks.{WordAsks, word_put}
use Rattle.word_steps.proofs.Chains.{Cleared, word_cleared, word_notes_same, write_done}
use Rattle.reserve.proofs.Reserving.{list_asks, hold_asks, prepared}
use Rattle.write_steps.proofs.Chains.{prepare_asks, journal_asks}
use Rattle.write_steps.proofs.Searched.{searched_done}

-- the chunk's slot, from its key
pub one_place : (m : Mem) (p a e k s : ℕ) → a ≤ 4294967295 → e ≡ entry_of m p → k ≡ key_of e (a / 256) → s ≡ seek (holders m) k → s ≡ slot_of_chunk m p (a / 256)
one_place m p a e k s small is key at =
    at ∙ ap (seek (holders m)) (key ∙ ap (λ (x : ℕ). key_of x (a / 256)) is) ∙ sym (slot_near m p (a / 256) (omega arith))

module _ (m : Mem) (f : WellFormed m) (p a : ℕ) (page : p ≤ 4294967295) (small : a ≤ 4294967295) (one : a % 256 ≤ 224) (there : entry_of m p < page_count m.words + 4)
    (free : first_refusal (word_write_checks (setting_of m) (view_of m) p a) ≡ 0) where
  cleared : (n : ℕ) → n ≡ 32 → Cleared m p a n 1 1
  cleared n e = word_cleared m p a 1 page small (f, free) (omega arith) n e

  listed : Shows (setting_of m) (listing m p) m
  listed = listed_already m p (list_asks m p (a / 256) 1 (prepare_asks m p a 32 1 1 (cleared 32 refl))) there

  pub one_hold : HoldAsks m p (a / 256) 1
  one_hold = hold_asks m p (a / 256) 1 (prepare_asks m p a 32 1 1 (cleared 32 refl)) m listed

  -- the chunk is held at slot s
  module _ (m₁ : Mem) (held : Shows (setting_of m) (holding p (a / 256) 1 (view_of m)) m₁) where
    ready : Shows (setting_of m) (holding p (a / 256) 1 (listing m p)) m₁
    ready = prepared m p (a / 256) 1 (prepare_asks m p a 32 1 1 (cleared 32 refl)) m listed m₁ held

    pub one_asks : (s : ℕ) → s ≡ slot_of_chunk m₁ p (a / 256) → s < slot_count m.words → WordAsks m₁ p a s s
    one_asks s e l =
        let c : slot_count m₁.words ≡ slot_count m.words = ap (λ (x : Setting). x.chunks) ready.setting in
        let q : (a + 31) / 256 ≡ a / 256 = omega (arith, one) in
        record {
          found = record { formed = ready.formed; first = sym e; last = ap (slot_of_chunk m₁ p) q ∙ sym e; first_in = omega arith; last_in = omega arith };
          room = (journal_asks m p a 32 1 1 (cleared 32 refl) m₁ ready).room;
        }

    pub one_does : (n : ℕ) (m' : Mem) → Shows (setting_of m₁) (word_put (layout_of m₁.words) p a (word_bytes n) (view_of m₁)) m' → CallDoes m (WriteWord p a n) (answered 0 nothing) m'
    one_does n m' put =
        searched_done m p a n f free m'
        (write_done m p a (word_bytes n) 1 1 (cleared (length (word_bytes n)) (digits_long 32 n)) m₁ ready (λ (v : View). word_notes v p a) (λ v w. word_notes_same v w p a) m' put)
