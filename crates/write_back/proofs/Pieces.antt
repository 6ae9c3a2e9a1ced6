-- What a write-back tells, by how the step ended.
-- Assumes nothing.
use mathlib.Core.Path.{◌≡◌, refl, sym, ap, ◌∙◌, subst}
use mathlib.Core.Bool.{true, false≢true}
use mathlib.Core.List.{List}
use Prim.Native.Nat.{ℕ, ◌≤◌}
use native.Mathlib.Omega.{arith}
use borrow.Author.Tests.{leb-true}
use Rattle.outcome.specs.declared.Refusal.{Refusal}
use Rattle.outcome.specs.Outcome.{Outcome, panicked, done}
use Rattle.registers.specs.declared.Place.{Place}
use Rattle.registers.specs.declared.Place.TheVariants as place
use Rattle.registers.specs.Registers.{Registers, registers_from, is_register, register_number}
use Rattle.view.specs.Instructions.{InstructionResult, Executed, running, on_hook}
use Rattle.view.specs.Calls.{Value, executed}
use Rattle.execution.specs.declared.Execution.{Execution}
use Rattle.execution.specs.declared.ExecutionStatus.{ExecutionStatus}
use Rattle.execution.specs.declared.ExecutionStatus.TheVariants.{Running, SuspendedOnHook, Panicked, Refused}
use Rattle.execution.specs.Executions.{stop_of, result_of, status_outcome}
use Rattle.write_back.specs.declared.Executed as code
use Rattle.write_back.specs.Runs.{ended_with, WritesBack}

-- a register's number is at most 15
pub number_few : (d : Place) → is_register d ≡ true → (n : ℕ) → n ≡ register_number d → n ≤ 15
number_few (place.Register k) e n q = subst (λ (j : ℕ). j ≤ 15) (sym q) (leb-true k 15 e)
number_few (place.Immediate k) e n q = absurd (false≢true e)
number_few place.Other e n q = absurd (false≢true e)

-- ---- the registers that a result gives; frame and stop are the result's
module _ (on_panic on_done : InstructionResult → Registers) (x : Execution Refusal) (l : List ℕ) (r : code.Executed Refusal) (status : r.status ≡ x.status) (frame : r.frame ≡ x.frame) where
  abbrev panics : InstructionResult → Executed
  panics g = record { frame = g.frame; registers = on_panic g; stop = g.stop }

  abbrev ends : InstructionResult → Executed
  ends g = record { frame = g.frame; registers = on_done g; stop = g.stop }

  abbrev given : ExecutionStatus Refusal → InstructionResult
  given s = record { word = (result_of x).word; operand = (result_of x).operand; frame = x.frame; stop = stop_of s }

  abbrev gives : (Executed → Value) → ExecutionStatus Refusal → Outcome Value
  gives v s = status_outcome (λ g. executed (panics g)) (λ g. v (ends g)) s (given s)

  -- the numbers l' after the write-back are those that the step's status asks for
  abbrev pub Written : ExecutionStatus Refusal → List ℕ → Type 0
  Written Running l' = registers_from l' ≡ on_done (given Running)
  Written (SuspendedOnHook k) l' = registers_from l' ≡ on_done (given (SuspendedOnHook k))
  Written Panicked l' = registers_from l' ≡ on_panic (given Panicked)
  Written (Refused e) l' = l' ≡ l

  module _ (l' : List ℕ) where
    answers : (v : Executed → Value) (s : ExecutionStatus Refusal) → Written s l' → ended_with v s r.frame (registers_from l') ≡ gives v s
    answers v Running e = λ i. done (v (record { frame = frame i; registers = e i; stop = running }))
    answers v (SuspendedOnHook k) e = λ i. done (v (record { frame = frame i; registers = e i; stop = on_hook k }))
    answers v Panicked e = λ i. panicked (executed (record { frame = frame i; registers = e i; stop = running }))
    answers v (Refused k) e = refl

    kept : (s : ExecutionStatus Refusal) → Written s l' → (k : Refusal) → s ≡ Refused k → l' ≡ l
    kept Running e k q = absurd (let z : ◌≡◌ {A = ℕ} 0 1 = cc in omega arith)
    kept (SuspendedOnHook n) e k q = absurd (let z : ◌≡◌ {A = ℕ} 0 1 = cc in omega arith)
    kept Panicked e k q = absurd (let z : ◌≡◌ {A = ℕ} 0 1 = cc in omega arith)
    kept (Refused n) e k q = e

    pub writes_back : (s : ExecutionStatus Refusal) → x.status ≡ s → Written s l' → WritesBack panics ends x l r l'
    writes_back s is w = let e = subst (λ (s : ExecutionStatus Refusal). Written s l') (sym is) w in record {
      answer = λ v. ap (λ (s : ExecutionStatus Refusal). ended_with v s r.frame (registers_from l')) status ∙ answers v x.status e;
      status = status;
      frame = frame;
      refusal = λ k q. kept x.status e k (sym status ∙ q);
    }
