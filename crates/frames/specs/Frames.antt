-- What the numbers of a frame mean, and what is written of a frame and of a word.
-- Assumes nothing.
use Rattle.std.specs.Prelude.{Bool, true, false, cond, not, List, [], ◌∷◌, ℕ, ◌+◌, eqb, get_or, set}
use Rattle.state.specs.declared.Frame.{Frame}
use Rattle.state.specs.declared.Area.{Area}
use Rattle.state.specs.declared.Area.TheVariants.{Heap, Aux}

-- a number is a flag, which is set where it is not 0; a flag is written as 0 or 1
abbrev pub flag : ℕ → Bool
flag n = not (eqb n 0)

abbrev pub bit : Bool → ℕ
bit b = cond b 1 0

abbrev pub area_of : Bool → Area
area_of true = Aux
area_of false = Heap

-- the frame that six numbers are: gas, heap page, aux page, heap bound, aux bound, and the panic's mark
abbrev pub frame_from : List ℕ → Frame
frame_from l = record {
  gas = get_or l 0 0;
  heap = record { 0 = get_or l 1 0 };
  aux = record { 0 = get_or l 2 0 };
  heap_bound = get_or l 3 0;
  aux_bound = get_or l 4 0;
  panicked = flag (get_or l 5 0);
}

-- the six numbers of a frame
abbrev pub frame_numbers : Frame → List ℕ
frame_numbers f = f.gas ∷ f.heap.0 ∷ f.aux.0 ∷ f.heap_bound ∷ f.aux_bound ∷ bit f.panicked ∷ []

-- ---- what the parts write
abbrev pub limbs_put : List ℕ → ℕ → List ℕ → List ℕ
limbs_put out at limbs = set (set (set (set out at (get_or limbs 0 0)) (at + 1) (get_or limbs 1 0)) (at + 2) (get_or limbs 2 0)) (at + 3) (get_or limbs 3 0)

-- the numbers of a frame that has grown to f: gas and bounds are those of f, and the others are as they were
abbrev pub grown_numbers : List ℕ → Frame → List ℕ
grown_numbers frame f = set (set (set frame 0 f.gas) 3 f.heap_bound) 4 f.aux_bound
