-- Writes that passed their first tests: what the reservation asks, and what its number tells.
-- Assumes nothing.
use mathlib.Core.Path.{◌≡◌, refl, sym, ◌∙◌}
use mathlib.Core.Bool.{false}
use Prim.Native.Nat.{ℕ, ◌+◌, ◌-◌, ◌/◌, ◌^◌, ◌<◌, ◌≤◌}
use native.Mathlib.Omega.{arith}
use Rattle.std.specs.Prelude.{Result, ⊤}
use Rattle.outcome.specs.declared.Refusal.{Refusal}
use Rattle.outcome.specs.Outcome.{status_of}
use Rattle.page_ids.specs.Decode.{Page, decoded, is_none}
use Rattle.store.specs.Mem.{Mem, layout_of}
use Rattle.formed.specs.WellFormed.{WellFormed}
use Rattle.view.specs.View.{setting_of, view_of}
use Rattle.view.specs.Steps.{touched_count, aligned_count}
use Rattle.view.specs.Checks.{capacity_checks_at, word_write_checks, byte_write_checks}
use Rattle.view.specs.Calls.{first_refusal}
use Rattle.checks.proofs.Chosen.{words_fit, room_chosen, none_is, past_4, bytes_room}
use Rattle.reserve.specs.Asks.{ReserveAsks, Reserved}
use Rattle.reserve.proofs.Reserving.{reserve_asks}
use Rattle.word_steps.proofs.Chains.{Cleared, word_cleared}
use Rattle.write_steps.proofs.Chains.{bytes_cleared}

-- d is the page as decoded, k the count of chunks that are touched
module _ (m : Mem) (f : WellFormed m) (p a k : ℕ) (page : p ≤ 4294967295) (small : a < 2 ^ 32) (d : Page) (is : d ≡ decoded (layout_of m.words) p) (known : is_none d ≡ false) where
  -- a word
  module _ (count : k ≡ touched_count a 32) where
    pub word_asks : ReserveAsks m p (a / 256) k 1
    word_asks = reserve_asks m f p a 32 k 1 page (none_is (setting_of m) (view_of m) p d is known) (omega arith) count (omega arith)

    module _ (r : Result ⊤ Refusal) (m₁ : Mem) (made : Reserved m p (a / 256) k 1 r m₁) where
      pub word_number : status_of r ≡ first_refusal (word_write_checks (setting_of m) (view_of m) p a)
      word_number = past_4 (setting_of m) (view_of m) p d is (capacity_checks_at (setting_of m) (view_of m) p a 32 1) known (status_of r) (room_chosen a 32 k count (setting_of m) (view_of m) p 1 1 (status_of r) refl made.number)

      pub word_passes : status_of r ≡ 0 → (n : ℕ) → n ≡ 32 → Cleared m p a n 1 k
      word_passes z n e = word_cleared m p a k page (omega arith) (f, sym word_number ∙ z) count n e

  -- n bytes, which touch w aligned words
  module _ (n w : ℕ) (fits : n ≤ 4294967296 - a) (count : k ≡ touched_count a n) (words : w ≡ aligned_count a n) where
    pub range_end : a + n ≤ 2 ^ 32
    range_end = omega arith

    pub range_asks : ReserveAsks m p (a / 256) k w
    range_asks = reserve_asks m f p a n k w page (none_is (setting_of m) (view_of m) p d is known) (omega arith) count (words_fit a n w words range_end)

    module _ (r : Result ⊤ Refusal) (m₁ : Mem) (made : Reserved m p (a / 256) k w r m₁) where
      pub range_number : status_of r ≡ first_refusal (byte_write_checks (setting_of m) (view_of m) p a n)
      range_number = bytes_room (setting_of m) (view_of m) p d is a n known small fits (status_of r) (room_chosen a n k count (setting_of m) (view_of m) p (aligned_count a n) w (status_of r) words made.number)

      pub range_passes : status_of r ≡ 0 → Cleared m p a n (aligned_count a n) k
      range_passes z = bytes_cleared m p a k page n (f, sym range_number ∙ z) count
