-- The contract of an instruction, from what its step and its write-back tell.
-- Assumes nothing.
use mathlib.Core.Path.{◌≡◌, refl, sym, ap, ◌∙◌, subst, subst₂}
use mathlib.Core.Bool.{Bool, true, false, cond, not, ◌&&◌, false≢true}
use mathlib.Core.List.{List}
use Prim.Native.Nat.{ℕ}
use Rattle.outcome.specs.declared.Refusal.{Refusal}
use Rattle.outcome.specs.declared.Refusal.TheVariants as refusals
use Rattle.outcome.specs.Outcome.{Outcome, refused, carried_out, number_of}
use Rattle.registers.specs.declared.Place.{Place}
use Rattle.registers.specs.declared.Place.TheVariants as place
use Rattle.registers.specs.declared.LoadPlaces.{LoadPlaces}
use Rattle.registers.specs.declared.StorePlaces.{StorePlaces}
use Rattle.registers.specs.Registers.{Registers, Operand, registers_from, is_register, is_source, register_number, source_of, value_of, load_takes, pointer_takes, store_takes}
use Rattle.fat_pointer.specs.declared.FatPointer.{FatPointer}
use Rattle.fat_pointer.specs.Pointer.{pointer_of}
use Rattle.state.specs.declared.Frame.{Frame}
use Rattle.state.specs.declared.Area.{Area}
use Rattle.store.specs.Mem.{Mem}
use Rattle.formed.specs.Formed.{well_formed}
use Rattle.formed.specs.WellFormed.{WellFormed}
use Rattle.formed.proofs.Meaning.{well_formed_passes}
use Rattle.view.specs.View.{setting_of, view_of}
use Rattle.view.specs.Instructions.{Hook, InstructionResult, Executed, read_count, loaded_into, stored_into, panicked_into}
use Rattle.view.specs.Calls.{Call, Value, Load, Store, LoadPointer, LoadStatic, StoreStatic, executed, pointer_loaded, outcome_of, next_of, answer_of}
use Rattle.execution.specs.declared.Execution.{Execution}
use Rattle.execution.specs.declared.PointerExecution.{PointerExecution}
use Rattle.execution.specs.declared.ExecutionStatus.{ExecutionStatus}
use Rattle.execution.specs.declared.ExecutionStatus.TheVariants.{Running, SuspendedOnHook, Panicked, Refused}
use Rattle.execution.specs.Executions.{result_of, status_outcome, execution_outcome, bytes_read_of, Ends, LoadStep, StoreStep, PointerStep, StaticLoadStep, StaticStoreStep}
use Rattle.write_back.specs.declared.Executed as code
use Rattle.write_back.specs.declared.PointerExecuted.{PointerExecuted}
use Rattle.write_back.specs.Runs.{ended_with, outcome_with, RunsWith, Runs, PointerRuns, WritesBack}

-- ---- places that an instruction takes
both : (a b : Bool) → (a && b) ≡ true → (a ≡ true) × (b ≡ true)
both true b e = (refl, e)
both false b e = absurd (false≢true e)

destinations : (p q : Place) → (is_register p && is_register q) ≡ true → (is_register p ≡ true) × (is_register q ≡ true)
destinations p q e = both (is_register p) (is_register q) e

pub load_parts : (p : LoadPlaces) → load_takes p ≡ true → (is_source p.source ≡ true) × ((is_register p.dst0 ≡ true) × (is_register p.dst1 ≡ true))
load_parts p t = let e = both (is_source p.source) _ t in (e.0, destinations p.dst0 p.dst1 e.1)

-- a register is a source
is_source_lem : (p : Place) → is_register p ≡ true → is_source p ≡ true
is_source_lem (place.Register n) e = e
is_source_lem (place.Immediate n) e = absurd (false≢true e)
is_source_lem place.Other e = absurd (false≢true e)

pub pointer_parts : (p : LoadPlaces) → pointer_takes p ≡ true → (is_source p.source ≡ true) × ((is_register p.dst0 ≡ true) × (is_register p.dst1 ≡ true))
pointer_parts p t = let e = both (is_register p.source) _ t in (is_source_lem p.source e.0, destinations p.dst0 p.dst1 e.1)

pub store_parts : (p : StorePlaces) → store_takes p ≡ true → (is_source p.source ≡ true) × ((is_register p.value ≡ true) × ((is_register p.dst0 ≡ true) × (is_register p.dst1 ≡ true)))
store_parts p t =
    let e = both (is_source p.source) _ t in
    let d = both (is_register p.value) _ e.1 in
    (e.0, (d.0, destinations p.dst0 p.dst1 d.1))

-- ---- the contract
module _ (m : Mem) (c : Call) (f : Frame) (l : List ℕ) {value : Executed → Value} where
  -- an instruction that is refused before its step
  refused_runs : (r : code.Executed Refusal) (k : Refusal) → r.status ≡ Refused k → r.frame ≡ f → answer_of m c ≡ refused (number_of k) → RunsWith value m c f l r m l
  refused_runs r k s e a = record {
    does = record {
      answer = ap (λ (x : ExecutionStatus Refusal). ended_with value x r.frame (registers_from l)) s ∙ sym a;
      kept = λ _. refl;
      changed = λ q. absurd (false≢true (sym (ap carried_out a) ∙ q));
    };
    refusal = λ _ _. (e, refl);
  }

  pub ill_runs : (r : code.Executed Refusal) → well_formed m ≡ false → r.status ≡ Refused refusals.NotFormed → r.frame ≡ f → RunsWith value m c f l r m l
  ill_runs r w s e = refused_runs r refusals.NotFormed s e (ap (λ (b : Bool). cond (not b) (refused 3) (outcome_of (setting_of m) c (view_of m))) w)

  -- one that makes its step, whose outcome o is the instruction's; `told` says that what it answers is what the step's status means
  told_runs : (on_panic on_done : InstructionResult → Value) {gone gives : InstructionResult → Executed} {o : Outcome Value} {x : Execution Refusal} {r : code.Executed Refusal} {m' : Mem} {l' : List ℕ} → answer_of m c ≡ o
      → Ends on_panic on_done m o (next_of (setting_of m) c (view_of m)) f x m' → WritesBack gone gives x l r l' → outcome_with value r l' ≡ execution_outcome on_panic on_done x → RunsWith value m c f l r m' l'
  told_runs on_panic on_done {x = x} a e w told = record {
    does = record {
      answer = told ∙ e.does.answer ∙ sym a;
      kept = λ q. e.does.kept (sym (ap carried_out a) ∙ q);
      changed = λ q. e.does.changed (sym (ap carried_out a) ∙ q);
    };
    refusal = λ k s.
        let is = ap (λ (y : ExecutionStatus Refusal). status_outcome on_panic on_done y (result_of x)) (sym w.status ∙ s) in
        (w.frame ∙ ap (λ (g : InstructionResult). g.frame) (e.refusal (number_of k) is), w.refusal k s);
  }

  step_runs : (on_panic on_done : InstructionResult → Executed) {o : Outcome Value} {x : Execution Refusal} {r : code.Executed Refusal} {m' : Mem} {l' : List ℕ} → answer_of m c ≡ o
      → Ends (λ g. executed (on_panic g)) (λ g. value (on_done g)) m o (next_of (setting_of m) c (view_of m)) f x m' → WritesBack on_panic on_done x l r l' → RunsWith value m c f l r m' l'
  step_runs on_panic on_done a e w = told_runs (λ g. executed (on_panic g)) (λ g. value (on_done g)) a e w (w.answer value)

-- a pointer load that is refused by the test
pub ill_pointer_runs : (m : Mem) (c : Call) (f : Frame) (l : List ℕ) (r : PointerExecuted Refusal) → well_formed m ≡ false
    → r.executed.status ≡ Refused refusals.NotFormed → r.executed.frame ≡ f → r.bytes_read ≡ 0 → PointerRuns m c f l r m l
ill_pointer_runs m c f l r w s e z = record { runs = ill_runs m c f l r.executed w s e; none = λ _. z }

-- ---- the value of a pointer load, by how its step ended
module _ (on_panic on_done : InstructionResult → Executed) (q : FatPointer) (g : InstructionResult) where
  -- the number of bytes that it read is the pointer's
  read_value_lem : (s : ExecutionStatus Refusal) → status_outcome (λ x. executed (on_panic x)) (λ x. pointer_loaded (on_done x) (bytes_read_of s q)) s g
      ≡ status_outcome (λ x. executed (on_panic x)) (λ x. pointer_loaded (on_done x) (read_count q)) s g
  read_value_lem Running = refl
  read_value_lem (SuspendedOnHook n) = refl
  read_value_lem Panicked = refl
  read_value_lem (Refused e) = refl

-- none is read where it is not carried out
unread : (value : Executed → Value) (q : FatPointer) (f : Frame) (g : Registers) (s : ExecutionStatus Refusal) → carried_out (ended_with value s f g) ≡ false → bytes_read_of s q ≡ 0
unread value q f g Running e = absurd (false≢true (sym e))
unread value q f g (SuspendedOnHook n) e = absurd (false≢true (sym e))
unread value q f g Panicked e = refl
unread value q f g (Refused k) e = refl

-- ---- the five, on a well-formed memory: `takes` says whether each place is one that the instruction takes
module _ (m : Mem) (formed : WellFormed m) where
  -- 3 is not met, and 16 is not met where it takes them
  past : (takes : Bool) (o : Outcome Value) → takes ≡ true → cond (not (well_formed m)) (refused 3) (cond (not takes) (refused 16) o) ≡ o
  past takes o t = rw (well_formed_passes m formed, t) refl

  sixteen : (takes : Bool) (o : Outcome Value) → takes ≡ false → cond (not (well_formed m)) (refused 3) (cond (not takes) (refused 16) o) ≡ refused 16
  sixteen takes o t = rw (well_formed_passes m formed, t) refl

  module _ (f : Frame) (l : List ℕ) (r : code.Executed Refusal) where
    abbrev g : Registers
    g = registers_from l

    module _ (s : r.status ≡ Refused refusals.Operand) (e : r.frame ≡ f) where
      pub load_refused : (area : Area) (p : LoadPlaces) → load_takes p ≡ false → Runs m (Load area f g p) f l r m l
      load_refused area p t = refused_runs m (Load area f g p) f l r refusals.Operand s e (sixteen (load_takes p) _ t)

      pub store_refused : (area : Area) (p : StorePlaces) (kernel : Bool) (h : Hook) → store_takes p ≡ false → Runs m (Store area f g p kernel h) f l r m l
      store_refused area p kernel h t = refused_runs m (Store area f g p kernel h) f l r refusals.Operand s e (sixteen (store_takes p) _ t)

      pub static_load_refused : (p : LoadPlaces) → load_takes p ≡ false → Runs m (LoadStatic f g p) f l r m l
      static_load_refused p t = refused_runs m (LoadStatic f g p) f l r refusals.Operand s e (sixteen (load_takes p) _ t)

      pub static_store_refused : (p : StorePlaces) (kernel : Bool) → store_takes p ≡ false → Runs m (StoreStatic f g p kernel) f l r m l
      static_store_refused p kernel t = refused_runs m (StoreStatic f g p kernel) f l r refusals.Operand s e (sixteen (store_takes p) _ t)

    -- x is what the step returned, y the operand that was read, and l' the numbers after the write-back
    module _ (x : Execution Refusal) (y : Operand) (l' : List ℕ) where
      module _ (p : LoadPlaces) (is : y ≡ source_of g p.source) (w : WritesBack (panicked_into g p.dst1) (loaded_into g p) x l r l') where
        pub load_runs : (area : Area) → load_takes p ≡ true → LoadStep m area f y x → Runs m (Load area f g p) f l r m l'
        load_runs area t e =
            step_runs m (Load area f g p) f l (panicked_into g p.dst1) (loaded_into g p) (past (load_takes p) _ t)
            (subst (λ (z : Operand). LoadStep m area f z x) is e (λ a. executed (panicked_into g p.dst1 a)) (λ a. executed (loaded_into g p a))) w

        pub static_load_runs : load_takes p ≡ true → StaticLoadStep m f y x → Runs m (LoadStatic f g p) f l r m l'
        static_load_runs t e =
            step_runs m (LoadStatic f g p) f l (panicked_into g p.dst1) (loaded_into g p) (past (load_takes p) _ t)
            (subst (λ (z : Operand). StaticLoadStep m f z x) is e (λ a. executed (panicked_into g p.dst1 a)) (λ a. executed (loaded_into g p a))) w

      -- n is the value that was read
      module _ (p : StorePlaces) (kernel : Bool) (n : ℕ) (is : y ≡ source_of g p.source) (value : n ≡ value_of kernel g (register_number p.value))
          (w : WritesBack (panicked_into g p.dst1) (stored_into g p) x l r l') (t : store_takes p ≡ true) (m' : Mem) where
        pub store_runs : (area : Area) (h : Hook) → StoreStep m area f y n h x m' → Runs m (Store area f g p kernel h) f l r m' l'
        store_runs area h e =
            step_runs m (Store area f g p kernel h) f l (panicked_into g p.dst1) (stored_into g p) (past (store_takes p) _ t)
            (subst₂ (λ (z : Operand) (k : ℕ). StoreStep m area f z k h x m') is value e (λ a. executed (panicked_into g p.dst1 a)) (λ a. executed (stored_into g p a))) w

        pub static_store_runs : StaticStoreStep m f y n x m' → Runs m (StoreStatic f g p kernel) f l r m' l'
        static_store_runs e =
            step_runs m (StoreStatic f g p kernel) f l (panicked_into g p.dst1) (stored_into g p) (past (store_takes p) _ t)
            (subst₂ (λ (z : Operand) (k : ℕ). StaticStoreStep m f z k x m') is value e (λ a. executed (panicked_into g p.dst1 a)) (λ a. executed (stored_into g p a))) w

  -- a pointer load
  module _ (f : Frame) (l : List ℕ) (p : LoadPlaces) where
    abbrev read : Registers
    read = registers_from l

    pub pointer_refused : (r : PointerExecuted Refusal) → r.executed.status ≡ Refused refusals.Operand → r.executed.frame ≡ f → r.bytes_read ≡ 0 → pointer_takes p ≡ false → PointerRuns m (LoadPointer f read p) f l r m l
    pointer_refused r s e z t = record { runs = refused_runs m (LoadPointer f read p) f l r.executed refusals.Operand s e (sixteen (pointer_takes p) _ t); none = λ _. z }

    -- x is what the step returned, y the operand that was read, and l' the numbers after the write-back
    module _ (x : PointerExecution Refusal) (y : Operand) (r : code.Executed Refusal) (l' : List ℕ) (is : y ≡ source_of read p.source)
        (w : WritesBack (panicked_into read p.dst1) (loaded_into read p) x.execution l r l') where
      pub pointer_runs : pointer_takes p ≡ true → PointerStep m f y x → PointerRuns m (LoadPointer f read p) f l (record { executed = r; bytes_read = x.bytes_read }) m l'
      pointer_runs t e =
          let q = pointer_of (source_of read p.source).word in
          let step = subst (λ (z : Operand). PointerStep m f z x) is e in
          let gone : InstructionResult → Value = λ a. executed (panicked_into read p.dst1 a) in
          let gives : ℕ → InstructionResult → Value = λ n a. pointer_loaded (loaded_into read p a) n in
          record {
            runs =
                told_runs m (LoadPointer f read p) f l gone (gives (read_count q)) (past (pointer_takes p) _ t) (step.ends gone (gives (read_count q))) w
                (w.answer (λ (z : Executed). pointer_loaded z x.bytes_read)
                ∙ ap (λ (n : ℕ). status_outcome gone (gives n) x.execution.status (result_of x.execution)) step.bytes_read
                ∙ read_value_lem (panicked_into read p.dst1) (loaded_into read p) q (result_of x.execution) x.execution.status);
            none = λ e. step.bytes_read ∙ ap (λ (s : ExecutionStatus Refusal). bytes_read_of s q) (sym w.status) ∙ unread (λ (z : Executed). pointer_loaded z x.bytes_read) q r.frame (registers_from l') r.status e;
          }
