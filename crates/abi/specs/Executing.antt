-- What the numbers of an instruction mean, and its contract.
-- Assumes nothing.
use Rattle.std.specs.Prelude.{◌≡◌, Bool, true, false, ◌&&◌, List, [], ◌∷◌, ◌⊎◌, ℕ, eqb, length, get_or}
use Rattle.outcome.specs.Outcome.{Outcome, refused, panicked, done, first_of}
use Rattle.registers.specs.Registers.{registers_from}
use Rattle.store.specs.Mem.{Mem}
use Rattle.view.specs.Instructions.{Hook, Stop, Executed, running, on_hook}
use Rattle.view.specs.Calls.{Call, Value, executed, pointer_loaded, CallDoes}
use Rattle.execution.specs.declared.ExecutionStatus.{ExecutionStatus}
use Rattle.execution.specs.declared.ExecutionStatus.TheVariants.{Running, SuspendedOnHook, Panicked, Refused}
use Rattle.write_back.specs.declared.Executed as code
use Rattle.frames.specs.Frames.{frame_from, frame_numbers}

-- ---- arguments
-- a frame has six numbers, and a second slice has n
abbrev pub fit : (frame others : List ℕ) → ℕ → Bool
fit frame others n = eqb (length frame) 6 && eqb (length others) n

abbrev pub hook_from : Bool → ℕ → Hook
hook_from on address = record { on = on; address = address }

-- ---- answers
-- what an instruction leaves, as numbers tell it
abbrev pub executed_from : (frame registers : List ℕ) → Stop → Executed
executed_from frame registers stop = record { frame = frame_from frame; registers = registers_from registers; stop = stop }

-- the outcome that status, frame and registers mean: carried out, panicked, carried out and stopped with the value h, or refused;
-- `value` is the value of an instruction that was carried out
abbrev pub outcome_from : (value : Executed → Value) (r h : ℕ) (frame registers : List ℕ) → Outcome Value
outcome_from value r h frame registers =
    first_of
    ((eqb r 0, done (value (executed_from frame registers running)))
    ∷ (eqb r 100, panicked (executed (executed_from frame registers running)))
    ∷ (eqb r 101, done (value (executed_from frame registers (on_hook h))))
    ∷ [])
    (refused r)

-- the value of a pointer load: `out` has how many bytes it read
abbrev pub pointer_value : (out : List ℕ) → Executed → Value
pointer_value out x = pointer_loaded x (get_or out 0 0)

-- an instruction c that is lent the buffers m, a frame and registers, has the status r, the hook's value h where it stops, and leaves
-- m', frame' and registers'; `fits` says whether what it is lent has the right lengths
pub record ExecutesWith (value : Executed → Value) (m : Mem) (c : Call) (frame registers : List ℕ) (fits : Bool) (r h : ℕ) (m' : Mem) (frame' registers' : List ℕ) : Type 0 where
  -- nothing is done where a length is wrong: a frame has six numbers, registers 65, and the output of a store or of a pointer load one
  pub unfit : fits ≡ false → (r ≡ 102) × ((m' ≡ m) × ((frame' ≡ frame) × (registers' ≡ registers)))
  -- that of every call on a memory
  pub does : fits ≡ true → CallDoes m c (outcome_from value r h frame' registers') m'
  -- frame and registers are as they were where the instruction is refused
  pub kept : (r ≡ 0 → ⊥) → (r ≡ 100 → ⊥) → (r ≡ 101 → ⊥) → (frame' ≡ frame) × (registers' ≡ registers)
  -- otherwise all six numbers of the frame are written: the mark is 0 or 1
  pub frame_numbers_lem : (r ≡ 0) ⊎ ((r ≡ 100) ⊎ (r ≡ 101)) → frame' ≡ frame_numbers (frame_from frame')

-- THE CONTRACT of an instruction
abbrev pub Executes : Mem → Call → (frame registers : List ℕ) → (fits : Bool) → (r h : ℕ) → Mem → (frame' registers' : List ℕ) → Type 0
Executes m c frame registers fits r h m' frame' registers' = ExecutesWith executed m c frame registers fits r h m' frame' registers'

-- .. and of a pointer load; out' is its output after it
abbrev pub PointerExecutes : Mem → Call → (frame registers : List ℕ) → (fits : Bool) → (r : ℕ) (out' : List ℕ) → Mem → (frame' registers' : List ℕ) → Type 0
PointerExecutes m c frame registers fits r out' m' frame' registers' = ExecutesWith (pointer_value out') m c frame registers fits r 0 m' frame' registers'

-- ---- what the parts write. N is the type of what tells a refusal's number, and n reads it
abbrev pub executed_status : {N : Type 0} → (n : N → ℕ) → ExecutionStatus N → ℕ
executed_status n Running = 0
executed_status n (SuspendedOnHook h) = 101
executed_status n Panicked = 100
executed_status n (Refused e) = n e

abbrev pub frame_after : {N : Type 0} → ExecutionStatus N → code.Executed N → List ℕ → List ℕ
frame_after Running x frame = frame_numbers x.frame
frame_after (SuspendedOnHook h) x frame = frame_numbers x.frame
frame_after Panicked x frame = frame_numbers x.frame
frame_after (Refused e) x frame = frame

-- a stop's output is the hook's value
abbrev pub stop_value : {N : Type 0} → ExecutionStatus N → List ℕ → List ℕ
stop_value Running out = out
stop_value (SuspendedOnHook h) out = h ∷ []
stop_value Panicked out = out
stop_value (Refused e) out = out

-- a pointer load's output is how many bytes it read, where it is carried out
abbrev pub read_value : {N : Type 0} → ExecutionStatus N → ℕ → List ℕ → List ℕ
read_value Running n out = n ∷ []
read_value (SuspendedOnHook h) n out = out
read_value Panicked n out = out
read_value (Refused e) n out = out

-- r is the status of what an instruction returned, and frame' is written after it
pub record ReportsExecuted {N : Type 0} (n : N → ℕ) (x : code.Executed N) (frame : List ℕ) (r : ℕ) (frame' : List ℕ) : Type 0 where
  pub status : r ≡ executed_status n x.status
  pub frame_is : frame' ≡ frame_after x.status x frame
