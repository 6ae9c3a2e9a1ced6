-- What the functions do that carry out a call where a hint knows its chunk: they do it, or change nothing.
-- Assumes nothing.
use Rattle.std.specs.Prelude.{◌≡◌, Bool, true, false, not, ◌&&◌, List, ℕ, ◌+◌, leb, ltb}
use Rattle.word.specs.Value.{last_address}
use Rattle.registers.specs.declared.LoadPlaces.{LoadPlaces}
use Rattle.registers.specs.declared.StorePlaces.{StorePlaces}
use Rattle.registers.specs.Registers.{registers_from}
use Rattle.outcome.specs.Outcome.{done}
use Rattle.state.specs.declared.Frame.{Frame}
use Rattle.state.specs.declared.Area.{Area}
use Rattle.state.specs.Access.{bound_of}
use Rattle.store.specs.Mem.{Mem}
use Rattle.view.specs.Instructions.{Hook, heap_of}
use Rattle.view.specs.Calls.{Load, Store, WriteWord, nothing, CallDoes}
use Rattle.execution.specs.declared.ExecutionStatus.TheVariants.{Running}
use Rattle.outcome.specs.declared.Refusal.{Refusal}
use Rattle.write_back.specs.declared.Executed.{Executed}
use Rattle.write_back.specs.Runs.{Runs}

-- a word at an operand x within the limit lies below a bound
abbrev pub paid_below : (x bound : ℕ) → Bool
paid_below x bound = not (ltb last_address x) && leb (x + 32) bound

-- an instruction that was carried out and left the frame as it was
abbrev pub running_with : Frame → Executed Refusal
running_with f = record { status = Running; frame = f }

-- a load from the numbers l, in any frame and area of this page and this bound
pub record LoadKnown (m : Mem) (l : List ℕ) (page bound : ℕ) (p : LoadPlaces) (r : Bool) (l' : List ℕ) : Type 0 where
  pub known : r ≡ true → (area : Area) (f : Frame) → heap_of f area ≡ page → bound_of f area ≡ bound → Runs m (Load area f (registers_from l) p) f l (running_with f) m l'
  pub unknown : r ≡ false → l' ≡ l

-- a word write
pub record WriteKnown (m : Mem) (page address word : ℕ) (r : Bool) (m' : Mem) : Type 0 where
  pub known : r ≡ true → CallDoes m (WriteWord page address word) (done nothing) m'
  pub unknown : r ≡ false → m' ≡ m

-- a store, likewise
pub record StoreKnown (m : Mem) (l : List ℕ) (page bound : ℕ) (p : StorePlaces) (kernel : Bool) (h : Hook) (r : Bool) (m' : Mem) (l' : List ℕ) : Type 0 where
  pub known : r ≡ true → (area : Area) (f : Frame) → heap_of f area ≡ page → bound_of f area ≡ bound → Runs m (Store area f (registers_from l) p kernel h) f l (running_with f) m' l'
  pub unknown : r ≡ false → (m' ≡ m) × (l' ≡ l)
