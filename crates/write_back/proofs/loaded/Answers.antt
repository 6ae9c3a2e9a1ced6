use mathlib.Core.Path.{refl, ap, ◌∙◌}
use mathlib.Core.Logic.{⊎_elim}
use Prim.Native.Nat.{ℕ}
use Rattle.outcome.specs.declared.Refusal.{Refusal}
use Rattle.registers.specs.Registers.{registers_from, register_number, cleared}
use Rattle.execution.specs.Executions.{result_of, stop_of}
use Rattle.execution.specs.declared.ExecutionStatus.{ExecutionStatus}
use Rattle.execution.specs.declared.ExecutionStatus.TheVariants.{Running, SuspendedOnHook}
use Rattle.view.specs.Instructions.{InstructionResult, loaded_into}
use Rattle.write_back.proofs.Pieces.{writes_back}
use Rattle.write_back.proofs.loaded.Goals.{in-Refused, in-Panicked, in-Running}
use Rattle.write_back.proofs.loaded.Goals as goal

pub returns : goal.returns
returns c =
    let g = registers_from c.args.registers.now in
    let p = c.args.places in
    let back = writes_back (λ (x : InstructionResult). cleared (register_number p.dst1) g) (λ (x : InstructionResult). (loaded_into g p x).registers) c.args.run c.args.registers.now _ refl refl c.match-run.registers in
    elim c.match-run.branch [
      | in-Refused w ↦ back _ w.in-Refused.is w.registers-is
      | in-Panicked w ↦ back _ w.in-Panicked.is (ap registers_from w.registers-is ∙ w.set_zero.ensures ∙ ap (λ (n : ℕ). cleared n g) w.number.ensures)
      | in-Running w ↦
          let written = λ (s : ExecutionStatus Refusal). ap registers_from w.registers-is ∙ w.write_load.ensures (record { word = (result_of c.args.run).word; operand = (result_of c.args.run).operand; frame = c.args.run.frame; stop = stop_of s }) refl refl in
          ⊎_elim (λ e. back Running e (written Running)) (λ e. back (SuspendedOnHook e.0) e.1 (written (SuspendedOnHook e.0))) w.in-Running.is
    ]
