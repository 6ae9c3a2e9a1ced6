-- What an access pays: the one definition that loads, stores and the quote cite. `grow_heap` is the part of it that pays for a new bound.
-- Assumes nothing.
use Rattle.std.specs.Prelude.{ℕ, ◌+◌, ◌-◌, ◌%◌, ◌^◌, Bool, true, false, cond, [], ◌∷◌, nat_le, nat_lt}
use Rattle.word.specs.Value.{last_address}
use Rattle.outcome.specs.Outcome.{first_of}
use Rattle.state.specs.declared.Frame.{Frame}
use Rattle.state.specs.declared.Gas.{Gas}
use Rattle.state.specs.declared.Growth.{Growth}
use Rattle.state.specs.declared.FrameStep.{FrameStep}
use Rattle.state.specs.declared.Area.{Area}
use Rattle.state.specs.declared.Area.TheVariants.{Heap, Aux}

-- the new bound is the address plus 32, taken as a wrapping sum
-- It never wraps where the operand is within the limit: `no_wrap` of proofs/Laws.antt, a field of lists/specs/Rules.antt
abbrev pub new_bound : ℕ → ℕ
new_bound address = (address + 32) % 2 ^ 32

-- what is due where the bound is to become `new`: the difference, or nothing
abbrev pub due : ℕ → ℕ → ℕ
due bound new = new - bound

-- an amount is paid from gas; too little gas is emptied. `tell` is given what is left and whether it was paid
abbrev pub paying : {A : Type 0} → ℕ → ℕ → (ℕ → Bool → A) → A
paying gas amount tell = cond (nat_le amount gas) (tell (gas - amount) true) (tell 0 false)

-- the gas after an amount is used
abbrev pub used : ℕ → ℕ → Gas
used gas amount = paying gas amount (λ left paid. record { left = left; paid = paid })

-- if the new bound exceeds the bound, the difference is paid and the bound set; where gas is short the bound is kept
abbrev pub grown : ℕ → ℕ → ℕ → Growth
grown gas bound new =
    first_of
    ((nat_le new bound, record { gas = gas; bound = bound; paid = true }) ∷ [])
    (paying gas (due bound new) (λ left paid. record { gas = left; bound = cond paid new bound; paid = paid }))

-- AN ACCESS at an operand x: above the limit it empties the gas and is not paid, else it pays for its new bound. One that is not paid panics
abbrev pub accessed : (gas bound x : ℕ) → Growth
accessed gas bound x = first_of ((nat_lt last_address x, record { gas = 0; bound = bound; paid = false }) ∷ []) (grown gas bound (new_bound x))

-- ---- on a frame
-- the bound of an area
abbrev pub bound_of : Frame → Area → ℕ
bound_of f Heap = f.heap_bound
bound_of f Aux = f.aux_bound

-- a growth of an area: the frame's gas and the one bound alone change
abbrev pub with_growth : Frame → Area → Growth → FrameStep
with_growth f Heap g = record {
  frame = record { gas = g.gas; heap = f.heap; aux = f.aux; heap_bound = g.bound; aux_bound = f.aux_bound; panicked = f.panicked };
  paid = g.paid;
}
with_growth f Aux g = record {
  frame = record { gas = g.gas; heap = f.heap; aux = f.aux; heap_bound = f.heap_bound; aux_bound = g.bound; panicked = f.panicked };
  paid = g.paid;
}

-- growth to a new bound: `grow_heap`
abbrev pub frame_grown : Frame → Area → ℕ → FrameStep
frame_grown f area new = with_growth f area (grown f.gas (bound_of f area) new)

-- an access at an operand: loads and stores
abbrev pub frame_accessed : Frame → Area → ℕ → FrameStep
frame_accessed f area x = with_growth f area (accessed f.gas (bound_of f area) x)
