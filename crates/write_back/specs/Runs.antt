-- What an instruction's answer means, and its contract.
-- Assumes nothing.
use Rattle.std.specs.Prelude.{◌≡◌, false, List, ℕ}
use Rattle.outcome.specs.Outcome.{Outcome, refused, panicked, done, carried_out, number_of}
use Rattle.outcome.specs.declared.Refusal.{Refusal}
use Rattle.registers.specs.Registers.{Registers, registers_from}
use Rattle.state.specs.declared.Frame.{Frame}
use Rattle.store.specs.Mem.{Mem}
use Rattle.view.specs.Instructions.{InstructionResult, Executed, running, on_hook}
use Rattle.view.specs.Calls.{Call, Value, executed, pointer_loaded, CallDoes}
use Rattle.execution.specs.declared.Execution.{Execution}
use Rattle.execution.specs.declared.ExecutionStatus.{ExecutionStatus}
use Rattle.execution.specs.declared.ExecutionStatus.TheVariants.{Running, SuspendedOnHook, Panicked, Refused}
use Rattle.execution.specs.Executions.{execution_outcome}
use Rattle.write_back.specs.declared.Executed as code
use Rattle.write_back.specs.declared.PointerExecuted.{PointerExecuted}

-- an instruction that ended so, with this frame and these registers; `value` is the value of one that was carried out
abbrev pub ended_with : (value : Executed → Value) → ExecutionStatus Refusal → Frame → Registers → Outcome Value
ended_with value Running f g = done (value (record { frame = f; registers = g; stop = running }))
ended_with value (SuspendedOnHook n) f g = done (value (record { frame = f; registers = g; stop = on_hook n }))
ended_with value Panicked f g = panicked (executed (record { frame = f; registers = g; stop = running }))
ended_with value (Refused e) f g = refused (number_of e)

-- 01's number of a refusal, or what an instruction leaves that panicked or was carried out; l has the numbers of its registers after it
abbrev pub outcome_with : (value : Executed → Value) → code.Executed Refusal → List ℕ → Outcome Value
outcome_with value r l = ended_with value r.status r.frame (registers_from l)

abbrev pub executed_outcome : code.Executed Refusal → List ℕ → Outcome Value
executed_outcome r l = outcome_with executed r l

-- of a pointer load, whose value has the number of bytes that it read
abbrev pub pointer_outcome : PointerExecuted Refusal → List ℕ → Outcome Value
pointer_outcome r l = outcome_with (λ x. pointer_loaded x r.bytes_read) r.executed l

-- an instruction c on the buffers m, the frame f and registers of the numbers l, which answers r and leaves the buffers m' and the numbers l'
pub record RunsWith (value : Executed → Value) (m : Mem) (c : Call) (f : Frame) (l : List ℕ) (r : code.Executed Refusal) (m' : Mem) (l' : List ℕ) : Type 0 where
  pub does : CallDoes m c (outcome_with value r l') m'
  -- a refused instruction leaves the frame and the registers as they were
  pub refusal : (e : Refusal) → r.status ≡ Refused e → (r.frame ≡ f) × (l' ≡ l)

-- THE CONTRACT of an instruction: that of every call, CallDoes, and `refusal`
abbrev pub Runs : Mem → Call → Frame → List ℕ → code.Executed Refusal → Mem → List ℕ → Type 0
Runs m c f l r m' l' = RunsWith executed m c f l r m' l'

-- THE CONTRACT of a pointer load: the same, and its number
pub record PointerRuns (m : Mem) (c : Call) (f : Frame) (l : List ℕ) (r : PointerExecuted Refusal) (m' : Mem) (l' : List ℕ) : Type 0 where
  pub runs : RunsWith (λ x. pointer_loaded x r.bytes_read) m c f l r.executed m' l'
  -- one that panicked or was refused read no bytes
  pub none : carried_out (pointer_outcome r l') ≡ false → r.bytes_read ≡ 0

-- the execution x of a step is written back to registers of the numbers l, which are l' after it; its instruction answers r
pub record WritesBack (on_panic on_done : InstructionResult → Executed) (x : Execution Refusal) (l : List ℕ) (r : code.Executed Refusal) (l' : List ℕ) : Type 0 where
  pub answer : (value : Executed → Value) → outcome_with value r l' ≡ execution_outcome (λ g. executed (on_panic g)) (λ g. value (on_done g)) x
  pub status : r.status ≡ x.status
  pub frame : r.frame ≡ x.frame
  pub refusal : (e : Refusal) → r.status ≡ Refused e → l' ≡ l
