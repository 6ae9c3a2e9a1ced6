-- What `out` means after a call on page ids, fat pointers or gas.
-- Assumes nothing.
use Rattle.std.specs.Prelude.{◌≡◌, true, false, List, [], ◌∷◌, ℕ, get_or}
use Rattle.page_ids.specs.Decode.{Page, kind_number, group_number}
use Rattle.fat_pointer.specs.declared.FatPointer.{FatPointer}
use Rattle.state.specs.declared.Gas.{Gas}
use Rattle.state.specs.declared.FrameStep.{FrameStep}
use Rattle.state.specs.declared.quote.RunEnd.{RunEnd}
use Rattle.frames.specs.Frames.{bit, grown_numbers}
use Rattle.abi.specs.Executing.{fit}

-- ---- what `out` means
-- the one number
abbrev pub one : List ℕ → ℕ
one out = get_or out 0 0

-- its numbers, as they are
abbrev pub as_they_are : List ℕ → List ℕ
as_they_are out = out

-- offset, page, start and length of a fat pointer
abbrev pub pointer_from : (offset page start length : ℕ) → FatPointer
pointer_from offset p start n = record { offset = offset; memory_page = record { 0 = p }; start = start; length = n }

abbrev pub pointer_at : List ℕ → FatPointer
pointer_at out = pointer_from (get_or out 0 0) (get_or out 1 0) (get_or out 2 0) (get_or out 3 0)

-- ---- what a call answers
abbrev pub page_numbers : Page → List ℕ
page_numbers p = kind_number p ∷ group_number p ∷ []

-- the gas that is left, and whether the amount was paid
abbrev pub gas_numbers : Gas → List ℕ
gas_numbers g = g.left ∷ bit g.paid ∷ []

-- where a run ends: the gas spent, the bound reached, and the position of the access that panics, or the list's length
abbrev pub end_numbers : RunEnd → List ℕ
end_numbers end = end.spent ∷ end.bound ∷ end.position ∷ []

-- THE CONTRACT of a growth that takes a frame to a step, has the status r and leaves frame' and out'
pub record Grows (frame out : List ℕ) (step : FrameStep) (r : ℕ) (frame' out' : List ℕ) : Type 0 where
  -- a frame has six numbers and `out` one, or nothing is done
  pub unfit : fit frame out 1 ≡ false → (r ≡ 102) × ((frame' ≡ frame) × (out' ≡ out))
  -- nothing is refused; gas and bounds are the step's, the other numbers as they were; `out` is 1 where the growth was paid, else 0
  pub answer : fit frame out 1 ≡ true → (r ≡ 0) × ((frame' ≡ grown_numbers frame step.frame) × (out' ≡ bit step.paid ∷ []))
