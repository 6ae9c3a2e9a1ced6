-- What the structs mean that functions return, and the numbers that they are given.
-- Assumes nothing.
use Rattle.std.specs.Prelude.{Bool, [], ◌∷◌, ℕ, zero, suc, eqb}
use Rattle.outcome.specs.Outcome.{Outcome, answered, first_of}
use Rattle.outcome.specs.declared.Refusal.{Refusal}
use Rattle.outcome.specs.declared.Refusal.TheVariants.{Layout, Sizes, NotFormed, Undecodable, Fixed, Allocated, NotAllocated, Range, NoPage, NoChunk, NoJournal, BadMark, BadLength, Pointer, HookValue, Operand}
use Rattle.word.specs.Value.{value}
use Rattle.state.specs.declared.Frame.{Frame}
use Rattle.view.specs.Calls.{Value, verdict}
use Rattle.execution.specs.declared.ExecutionStatus.{ExecutionStatus}
use Rattle.execution.specs.declared.ExecutionStatus.TheVariants.{Running, SuspendedOnHook, Panicked, Refused}
use Rattle.write_back.specs.declared.Executed.{Executed}
use Rattle.write_back.specs.declared.PointerExecuted.{PointerExecuted}
use Rattle.owned.specs.declared.memory.PartialRead.{PartialRead}
use Rattle.owned.specs.declared.memory.Compared.{Compared}
use Rattle.owned.specs.declared.ran.Ran.{Ran}
use Rattle.owned.specs.declared.ran.PointerRan.{PointerRan}

-- the word of a partial read, and how many bytes of the range lead it
abbrev pub word_and_count : PartialRead → ℕ × ℕ
word_and_count r = (value r.word.limbs, r.bytes_read)

abbrev pub partial_outcome : PartialRead → Outcome (ℕ × ℕ)
partial_outcome r = answered r.refusal (word_and_count r)

-- a comparison
abbrev pub compared_outcome : Compared → Outcome Value
compared_outcome r = answered r.refusal (verdict r.equal)

-- ---- instructions
abbrev pub frame_of : (gas heap aux heap_bound aux_bound : ℕ) → Bool → Frame
frame_of gas heap aux heap_bound aux_bound panicked = record {
  gas = gas;
  heap = record { 0 = heap };
  aux = record { 0 = aux };
  heap_bound = heap_bound;
  aux_bound = aux_bound;
  panicked = panicked;
}

-- The refusal with this number. A refused `Ran` has a number of 1 to 16 (its field `numbered`), so `Layout` is read off 1 alone.
abbrev pub refusal_from : ℕ → Refusal
refusal_from n =
    first_of
    ((eqb n 2, Sizes)
    ∷ (eqb n 3, NotFormed)
    ∷ (eqb n 4, Undecodable)
    ∷ (eqb n 5, Fixed)
    ∷ (eqb n 6, Allocated)
    ∷ (eqb n 7, NotAllocated)
    ∷ (eqb n 8, Range)
    ∷ (eqb n 9, NoPage)
    ∷ (eqb n 10, NoChunk)
    ∷ (eqb n 11, NoJournal)
    ∷ (eqb n 12, BadMark)
    ∷ (eqb n 13, BadLength)
    ∷ (eqb n 14, Pointer)
    ∷ (eqb n 15, HookValue)
    ∷ (eqb n 16, Operand)
    ∷ [])
    Layout

-- how it ended: 0 running, 1 suspended on the hook with the value n, 2 panicked, 3 refused with the number n; a `Ran` has no other kind
abbrev pub status_from : (kind n : ℕ) → ExecutionStatus Refusal
status_from zero n = Running
status_from (suc zero) n = SuspendedOnHook n
status_from (suc (suc zero)) n = Panicked
status_from (suc (suc (suc k))) n = Refused (refusal_from n)

-- an instruction that ended so
abbrev pub with_status : ExecutionStatus Refusal → Executed Refusal → Executed Refusal
with_status s x = record { status = s; frame = x.frame }

-- WHAT AN INSTRUCTION RETURNED, as a `Ran` tells it
abbrev pub executed_of : Ran → Executed Refusal
executed_of r = record {
  status = status_from r.kind r.number;
  frame = frame_of r.gas r.heap r.aux r.heap_bound r.aux_bound r.panicked;
}

abbrev pub pointer_executed_of : PointerRan → PointerExecuted Refusal
pointer_executed_of r = record { executed = executed_of r.ran; bytes_read = r.bytes_read }
