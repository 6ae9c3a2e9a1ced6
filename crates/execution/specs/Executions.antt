-- What the answers of an instruction's step on an operand mean, and the contracts of the five steps.
-- Assumes nothing.
use Rattle.std.specs.Prelude.{◌≡◌, Bool, not, List, [], ◌∷◌, ◌++◌, ℕ, ltb}
use Rattle.outcome.specs.declared.Refusal.{Refusal}
use Rattle.outcome.specs.Outcome.{Outcome, refused, panicked, done, first_of, number_of}
use Rattle.word.specs.Value.{value, word_bytes, last_address}
use Rattle.registers.specs.Registers.{Operand, operand_of}
use Rattle.fat_pointer.specs.declared.FatPointer.{FatPointer}
use Rattle.fat_pointer.specs.Pointer.{pointer_of}
use Rattle.state.specs.declared.Frame.{Frame}
use Rattle.state.specs.declared.Area.{Area}
use Rattle.state.specs.declared.FrameStep.{FrameStep}
use Rattle.store.specs.Mem.{Mem, layout_of}
use Rattle.view.specs.View.{View, Setting, setting_of, view_of}
use Rattle.view.specs.Steps.{word_written}
use Rattle.view.specs.Checks.{Check, word_write_checks}
use Rattle.view.specs.Does.{Does}
use Rattle.view.specs.Instructions as view
use Rattle.view.specs.Instructions.{InstructionResult, Stop, running, on_hook, heap_of, static_of, frame_alone, panic, loaded_from, hook_checks, stored_with, access_checks, loaded, store_checks, stored, pointer_checks, read_count, pointed, static_checks, static_loaded, static_store_checks, static_stored}
use Rattle.view.specs.Calls.{Value}
use Rattle.execution.specs.declared.Hook.{Hook}
use Rattle.execution.specs.declared.Execution.{Execution}
use Rattle.execution.specs.declared.PointerExecution.{PointerExecution}
use Rattle.execution.specs.declared.ExecutionStatus.{ExecutionStatus}
use Rattle.execution.specs.declared.ExecutionStatus.TheVariants.{Running, SuspendedOnHook, Panicked, Refused}

abbrev pub hook_of : Hook → view.Hook
hook_of h = record { on = h.on; address = h.address.0 }

-- ---- answers
abbrev pub stop_of : {N : Type 0} → ExecutionStatus N → Stop
stop_of Running = running
stop_of (SuspendedOnHook n) = on_hook n
stop_of Panicked = running
stop_of (Refused e) = running

abbrev pub result_of : {N : Type 0} → Execution N → InstructionResult
result_of r = record { word = value r.word.limbs; operand = operand_of r.operand; frame = r.frame; stop = stop_of r.status }

-- A step knows no registers. What its instruction gives of a result depends on them: `on_panic` after a panic, `on_done` where it is carried out
abbrev pub status_outcome : (on_panic on_done : InstructionResult → Value) → ExecutionStatus Refusal → InstructionResult → Outcome Value
status_outcome on_panic on_done Running g = done (on_done g)
status_outcome on_panic on_done (SuspendedOnHook n) g = done (on_done g)
status_outcome on_panic on_done Panicked g = panicked (on_panic g)
status_outcome on_panic on_done (Refused e) g = refused (number_of e)

-- 01's number of a refusal, or what a panic or an instruction that was carried out gives
abbrev pub execution_outcome : (on_panic on_done : InstructionResult → Value) → Execution Refusal → Outcome Value
execution_outcome on_panic on_done r = status_outcome on_panic on_done r.status (result_of r)

-- a step on the buffers m and the frame f has the outcome o, answers r and leaves the buffers m', of the view v where it is carried out
pub record Ends (on_panic on_done : InstructionResult → Value) (m : Mem) (o : Outcome Value) (v : View) (f : Frame) (r : Execution Refusal) (m' : Mem) : Type 0 where
  -- the buffers are as they were where it is refused or panics
  pub does : Does m o (setting_of m) v (execution_outcome on_panic on_done r) m'
  -- a refused one gives no word and no operand, and the frame as it was
  pub refusal : (n : ℕ) → execution_outcome on_panic on_done r ≡ refused n → result_of r ≡ frame_alone f

-- how many bytes a pointer load reads that ended so: a panic or a refusal reads none
abbrev pub bytes_read_of : {N : Type 0} → ExecutionStatus N → FatPointer → ℕ
bytes_read_of Running p = read_count p
bytes_read_of (SuspendedOnHook n) p = read_count p
bytes_read_of Panicked p = 0
bytes_read_of (Refused e) p = 0

-- ---- THE CONTRACTS of the five steps on a well-formed memory m, which answer r: the checks after 16, whatever registers are written
abbrev pub LoadStep : Mem → Area → Frame → Operand → Execution Refusal → Type 0
LoadStep m area f x r = (on_panic on_done : InstructionResult → Value)
    → Ends on_panic on_done m (first_of (access_checks on_panic area f x.word) (done (on_done (loaded (view_of m) area f x)))) (view_of m) f r m

abbrev pub StoreStep : Mem → Area → Frame → Operand → ℕ → view.Hook → Execution Refusal → Mem → Type 0
StoreStep m area f x n h r m' = (on_panic on_done : InstructionResult → Value)
    → Ends on_panic on_done m (first_of (store_checks on_panic (setting_of m) (view_of m) area f x.word n h) (done (on_done (stored area f x n h))))
    (word_written (layout_of m.words) (heap_of f area) x.word (word_bytes n) (view_of m)) f r m'

pub record PointerStep (m : Mem) (f : Frame) (x : Operand) (r : PointerExecution Refusal) : Type 0 where
  pub ends : (on_panic on_done : InstructionResult → Value)
      → Ends on_panic on_done m (first_of (pointer_checks on_panic f x) (done (on_done (pointed (view_of m) f x)))) (view_of m) f r.execution m
  -- how many bytes lead the word, where the step is carried out
  pub bytes_read : r.bytes_read ≡ bytes_read_of r.execution.status (pointer_of x.word)

abbrev pub StaticLoadStep : Mem → Frame → Operand → Execution Refusal → Type 0
StaticLoadStep m f x r = (on_panic on_done : InstructionResult → Value)
    → Ends on_panic on_done m (first_of (static_checks on_panic f x.word) (done (on_done (static_loaded (setting_of m) (view_of m) f x)))) (view_of m) f r m

abbrev pub StaticStoreStep : Mem → Frame → Operand → ℕ → Execution Refusal → Mem → Type 0
StaticStoreStep m f x n r m' = (on_panic on_done : InstructionResult → Value)
    → Ends on_panic on_done m (first_of (static_store_checks on_panic (setting_of m) (view_of m) f x.word) (done (on_done (static_stored f x))))
    (word_written (layout_of m.words) (static_of (layout_of m.words)) x.word (word_bytes n) (view_of m)) f r m'

-- ---- what the parts do
abbrev pub carried : ExecutionStatus Refusal → (word operand : ℕ) → Bool → Frame → InstructionResult
carried s w x t f = record { word = w; operand = record { word = x; tag = t }; frame = f; stop = stop_of s }

-- a load or a store panics where the step s does not pay
abbrev pub unpaid : (on_panic : InstructionResult → Value) → FrameStep → List (Check Value)
unpaid on_panic s = (not s.paid, panicked (on_panic (panic s.frame))) ∷ []

-- the step of a static load or store: it costs nothing
abbrev pub static_step : Frame → ℕ → FrameStep
static_step f x = record { frame = f; paid = not (ltb last_address x) }

-- the outcome of a load from page p with the step s
abbrev pub load_outcome : (on_panic on_done : InstructionResult → Value) → View → ℕ → Operand → FrameStep → Outcome Value
load_outcome on_panic on_done v p x s = first_of (unpaid on_panic s) (done (on_done (loaded_from v p x s.frame)))

-- and its contract: it is never refused
abbrev pub Loads : Mem → ℕ → Operand → FrameStep → Execution Refusal → Type 0
Loads m p x s r = (on_panic on_done : InstructionResult → Value) (f : Frame) → Ends on_panic on_done m (load_outcome on_panic on_done (view_of m) p x s) (view_of m) f r m

-- the outcome of a store to page p with the step s: the panic, then the refusals of a word write, then 15
abbrev pub store_outcome : (on_panic on_done : InstructionResult → Value) → Setting → View → ℕ → Operand → ℕ → view.Hook → FrameStep → Outcome Value
store_outcome on_panic on_done t v p x n h s =
    first_of (unpaid on_panic s ++ (word_write_checks t v p x.word ++ hook_checks h x.word n)) (done (on_done (stored_with x n h s.frame)))

-- and its contract; f is the frame before the step
abbrev pub Stores : Mem → ℕ → Operand → ℕ → view.Hook → Frame → FrameStep → Execution Refusal → Mem → Type 0
Stores m p x n h f s r m' = (on_panic on_done : InstructionResult → Value)
    → Ends on_panic on_done m (store_outcome on_panic on_done (setting_of m) (view_of m) p x n h s) (word_written (layout_of m.words) p x.word (word_bytes n) (view_of m)) f r m'
