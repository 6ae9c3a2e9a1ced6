-- The contracts of the steps, from what their parts tell.
-- Assumes nothing.
use mathlib.Core.Path.{◌≡◌, refl, sym, ap, ◌∙◌, subst, subst₂}
use mathlib.Core.Bool.{Bool, true, false, cond, not, ◌&&◌, false≢true}
use mathlib.Core.List.{List, [], ◌∷◌, ◌++◌}
use Prim.Native.Nat.{ℕ, ◌%◌, ◌^◌, ◌≤◌}
use native.Mathlib.Omega.{arith}
use native.Mathlib.Nat.{mod-eq_of_lt}
use lib.Dec.{ltb}
use borrow.Author.Tests.{ltb-false, not-true, not-false}
use Rattle.std.specs.Prelude.{Result, Ok, Err, ⊤}
use Rattle.outcome.specs.declared.Refusal.{Refusal}
use Rattle.outcome.specs.Outcome.{Outcome, refused, panicked, done, carried_out, refusal_number, first_of, number_of, answer_outcome, status_of}
use Rattle.outcome.specs.Nonzero.{number_nonzero}
use Rattle.word.specs.Value.{big_endian, word_bytes, last_address}
use Rattle.state.specs.declared.Frame.{Frame}
use Rattle.state.specs.declared.Area.{Area}
use Rattle.state.specs.declared.FrameStep.{FrameStep}
use Rattle.state.specs.Access.{frame_accessed}
use Rattle.state.proofs.Laws.{frame_within}
use Rattle.store.specs.Mem.{Mem, layout_of}
use Rattle.formed.specs.Formed.{well_formed}
use Rattle.formed.specs.WellFormed.{WellFormed}
use Rattle.formed.proofs.Meaning.{well_formed_passes}
use Rattle.view.proofs.Refused.{Refusals}
use Rattle.view.specs.View.{View, setting_of, view_of}
use Rattle.view.specs.Steps.{run, word_written}
use Rattle.view.specs.Checks.{Check, word_write_checks}
use Rattle.view.specs.Does.{Shows}
use Rattle.registers.specs.Registers.{Operand}
use Rattle.view.specs.Instructions.{Hook, InstructionResult, running, on_hook, heap_of, static_of, frame_alone, panic, incremented, hooked, static_checks, static_loaded, static_stored}
use Rattle.view.specs.Calls.{Call, Value, WriteWord, nothing, CallDoes, outcome_of, answer_of, first_refusal}
use Rattle.execution.specs.Executions.{stop_of, result_of, status_outcome, execution_outcome, Ends, LoadStep, StoreStep, StaticLoadStep, StaticStoreStep, carried, unpaid, static_step, load_outcome, Loads, store_outcome, Stores}
use Rattle.execution.specs.declared.Execution.{Execution}
use Rattle.execution.specs.declared.ExecutionStatus.{ExecutionStatus}
use Rattle.execution.specs.declared.ExecutionStatus.TheVariants.{Running, SuspendedOnHook, Panicked, Refused}
use Rattle.execution.proofs.Lists.{by_number, by_none, never_last, more_number, more_none, fifteen, write_refusals, store_refusals}

-- ---- numbers
-- the address of an operand within the limit is its number
pub address_is : (x : ℕ) → x ≤ last_address → x % 2 ^ 32 ≡ x
address_is x l = mod-eq_of_lt (omega arith)

-- ---- the contract
module _ (b d : InstructionResult → Value) (m : Mem) {o : Outcome Value} {v : View} (f : Frame) (r : Execution Refusal) where
  refused_ends : (e : Refusal) → r.status ≡ Refused e → result_of r ≡ frame_alone f → o ≡ refused (number_of e) → Ends b d m o v f r m
  refused_ends e s g a = record {
    does = record {
      answer = ap (λ (x : ExecutionStatus Refusal). status_outcome b d x (result_of r)) s ∙ sym a;
      kept = λ _. refl;
      changed = λ q. absurd (false≢true (sym (ap carried_out a) ∙ q));
    };
    refusal = λ k q. g;
  }

  panicked_ends : (g : InstructionResult) → r.status ≡ Panicked → result_of r ≡ g → o ≡ panicked (b g) → Ends b d m o v f r m
  panicked_ends g s e a =
      let t : execution_outcome b d r ≡ panicked (b g) = ap (λ (x : ExecutionStatus Refusal). status_outcome b d x (result_of r)) s ∙ ap (λ (x : InstructionResult). panicked (b x)) e in
      record {
        does = record { answer = t ∙ sym a; kept = λ _. refl; changed = λ q. absurd (false≢true (sym (ap carried_out a) ∙ q)) };
        refusal = λ k q. absurd (let z : ◌≡◌ {A = ℕ} 0 1 = cc in omega arith);
      }

  done_ends : (g : InstructionResult) → execution_outcome b d r ≡ done (d g) → o ≡ done (d g) → {m' : Mem} → Shows (setting_of m) v m' → Ends b d m o v f r m'
  done_ends g t a h = record {
    does = record { answer = t ∙ sym a; kept = λ q. absurd (false≢true (sym q ∙ ap carried_out a)); changed = λ _. h };
    refusal = λ k q. absurd (let z : ◌≡◌ {A = ℕ} 0 1 = cc in omega arith);
  }

-- a well-formed memory has the outcome of the definition
well : (m : Mem) (c : Call) → well_formed m ≡ true → answer_of m c ≡ outcome_of (setting_of m) c (view_of m)
well m c e = ap (λ (b : Bool). cond (not b) (refused 3) (outcome_of (setting_of m) c (view_of m))) e

-- a memory that is only read shows what it showed
shows_itself : (m : Mem) → WellFormed m → Shows (setting_of m) (view_of m) m
shows_itself m f = record { formed = f; setting = refl; view = refl }

told_running : (b d : InstructionResult → Value) (r : Execution Refusal) (g : InstructionResult) → r.status ≡ Running → result_of r ≡ g → execution_outcome b d r ≡ done (d g)
told_running b d r g s e = ap (λ (x : ExecutionStatus Refusal). status_outcome b d x (result_of r)) s ∙ ap (λ (x : InstructionResult). done (d x)) e

carried_is : {w w' y : ℕ} {t : Bool} {f : Frame} → w ≡ w' → carried Running w y t f ≡ carried Running w' y t f
carried_is {y = y} {t = t} {f = f} d = λ i. carried Running (d i) y t f

-- a value that stops has 32 bits
suspended : (hit : Bool) (n : ℕ) → (hit && ltb 4294967295 n) ≡ false → stop_of {N = Refusal} (cond hit (SuspendedOnHook (n % 2 ^ 32)) Running) ≡ cond hit (on_hook n) running
suspended true n e = let l : n ≤ 4294967295 = ltb-false 4294967295 n e in ap on_hook (mod-eq_of_lt (omega arith))
suspended false n e = refl

told_stop : (b d : InstructionResult → Value) (hit : Bool) (k : ℕ) (g : InstructionResult) → status_outcome b d (cond hit (SuspendedOnHook k) Running) g ≡ done (d g)
told_stop b d true k g = refl
told_stop b d false k g = refl

-- ---- what a word write tells by its answer o
number_told : (o : Result ⊤ Refusal) → refusal_number (answer_outcome {A = Value} nothing o) ≡ status_of o
number_told (Ok u) = refl
number_told (Err e) = refl

module _ (m : Mem) (p a n : ℕ) (o : Result ⊤ Refusal) (m' : Mem) (d : CallDoes m (WriteWord p a n) (answer_outcome nothing o) m') where
  number_is : WellFormed m → status_of o ≡ first_refusal (word_write_checks (setting_of m) (view_of m) p a)
  number_is f = sym (number_told o) ∙ ap refusal_number (d.answer ∙ well m (WriteWord p a n) (well_formed_passes m f))

  answered_by : {o' : Result ⊤ Refusal} → o ≡ o' → carried_out (answer_of m (WriteWord p a n)) ≡ carried_out (answer_outcome {A = Value} nothing o')
  answered_by was = sym (ap carried_out d.answer) ∙ ap (λ (y : Result ⊤ Refusal). carried_out (answer_outcome {A = Value} nothing y)) was

  write_kept : {e : Refusal} → o ≡ Err e → m' ≡ m
  write_kept was = d.kept (answered_by was)

  write_shown : {u : ⊤} → o ≡ Ok u → Shows (setting_of m) (word_written (layout_of m.words) p a (word_bytes n) (view_of m)) m'
  write_shown was = d.changed (answered_by was)

-- ---- load and store of page p with the step s
paid_first : (b : InstructionResult → Value) (s : FrameStep) (rest : List (Check Value)) (o : Outcome Value) → not s.paid ≡ false → first_of (unpaid b s ++ rest) o ≡ first_of rest o
paid_first b s rest o e = rw e

module _ (m : Mem) (p : ℕ) (x : Operand) (s : FrameStep) where
  module _ (r : Execution Refusal) (e : not s.paid ≡ true) (q : r.status ≡ Panicked) (g : result_of r ≡ panic s.frame) where
    pub load_panics : Loads m p x s r
    load_panics b d f = panicked_ends b d m f r (panic s.frame) q g (rw e)

    pub store_panics : (n : ℕ) (h : Hook) (f : Frame) → Stores m p x n h f s r m
    store_panics n h f b d = panicked_ends b d m f r (panic s.frame) q g (rw e)

  -- the step is paid, and a is the address of the operand x
  module _ (limit : s.paid ≡ true → x.word ≤ last_address) (paid : not s.paid ≡ false) (a : ℕ) (address : a ≡ x.word % 2 ^ 32) where
    at_operand : a ≡ x.word
    at_operand = address ∙ address_is x.word (limit (not-false _ paid))

    pub load_done : WellFormed m → (w : ℕ) → w ≡ big_endian (run (view_of m) p a 32) → (r : Execution Refusal) → r.status ≡ Running
        → result_of r ≡ carried Running w (incremented x.word) x.tag s.frame → Loads m p x s r
    load_done formed w e r q g b d f =
        let given = carried Running (big_endian (run (view_of m) p x.word 32)) (incremented x.word) x.tag s.frame in
        done_ends b d m f r given (told_running b d r given q (g ∙ carried_is (e ∙ ap (λ (b : ℕ). big_endian (run (view_of m) p b 32)) at_operand))) (paid_first b s [] (done (d given)) paid)
        (shows_itself m formed)

    module _ (n : ℕ) (h : Hook) (f : Frame) where
      abbrev tests : ℕ → List (Check Value)
      tests b = word_write_checks (setting_of m) (view_of m) p b ++ fifteen (hooked h b) n

      abbrev given : InstructionResult
      given = record { word = 0; operand = record { word = incremented x.word; tag = false }; frame = s.frame; stop = cond (hooked h x.word) (on_hook n) running }

      tests_same : first_refusal (tests a) ≡ first_refusal (tests x.word)
      tests_same = ap (λ (b : ℕ). first_refusal (tests b)) at_operand

      tested : (b d : InstructionResult → Value) → store_outcome b d (setting_of m) (view_of m) p x n h s ≡ first_of (tests x.word) (done (d given))
      tested b d = paid_first b s (tests x.word) (done (d given)) paid

      refusals : Refusals (tests x.word)
      refusals = store_refusals (setting_of m) (view_of m) p x.word (hooked h x.word) n

      store_refused : (e : Refusal) → number_of e ≡ first_refusal (tests a) → (r : Execution Refusal) → r.status ≡ Refused e → result_of r ≡ frame_alone f → Stores m p x n h f s r m
      store_refused e q r t g b d = refused_ends b d m f r e t g (tested b d ∙ by_number refusals (number_of e) (q ∙ tests_same) (number_nonzero e) (done (d given)))

      -- the hook is hit by a value that is too wide
      pub store_wide : (b : Bool) → b ≡ (hooked h a && ltb 4294967295 n) → b ≡ true → (e : Refusal) → number_of e ≡ first_refusal (word_write_checks (setting_of m) (view_of m) p a ++ ((true, refused 15) ∷ []))
          → (r : Execution Refusal) → r.status ≡ Refused e → result_of r ≡ frame_alone f → Stores m p x n h f s r m
      store_wide b is holds e q =
          store_refused e (q ∙ ap (λ (c : Bool). first_refusal (word_write_checks (setting_of m) (view_of m) p a ++ ((c, refused 15) ∷ []))) (sym holds ∙ is))

      -- the word write answered o
      module _ (formed : WellFormed m) (o : Result ⊤ Refusal) (m' : Mem) (d : CallDoes m (WriteWord p a n) (answer_outcome nothing o) m') where
        pub store_refused_by : {e : Refusal} → o ≡ Err e → (r : Execution Refusal) → r.status ≡ Refused e → result_of r ≡ frame_alone f → Stores m p x n h f s r m'
        store_refused_by {e} was r t g =
            subst (λ (y : Mem). Stores m p x n h f s r y) (sym (write_kept m p a n o m' d was))
            (store_refused e (more_number (fifteen (hooked h a) n) (write_refusals (setting_of m) (view_of m) p a) (number_of e) (sym (ap status_of was) ∙ number_is m p a n o m' d formed) (number_nonzero e)) r t g)

        pub store_done : (b : Bool) → b ≡ (hooked h a && ltb 4294967295 n) → b ≡ false → {u : ⊤} → o ≡ Ok u
            → (r : Execution Refusal) (t : ExecutionStatus Refusal) (w : ℕ) → t ≡ cond (hooked h a) (SuspendedOnHook (n % 2 ^ 32)) Running → w ≡ 0 → r.status ≡ t
            → result_of r ≡ carried t w (incremented x.word) false s.frame → Stores m p x n h f s r m'
        store_done b is e q r t w u z v g on_panic on_done =
            done_ends on_panic on_done m f r given answers (tested on_panic on_done ∙ by_none refusals none (done (on_done given)))
            (subst (λ (c : ℕ). Shows (setting_of m) (word_written (layout_of m.words) p c (word_bytes n) (view_of m)) m') at_operand (write_shown m p a n o m' d q))
          where
            narrow : (hooked h a && ltb 4294967295 n) ≡ false
            narrow = sym is ∙ e

            none : first_refusal (tests x.word) ≡ 0
            none =
                sym tests_same
                ∙ sym (more_none (fifteen (hooked h a) n) (write_refusals (setting_of m) (view_of m) p a) (sym (number_is m p a n o m' d formed) ∙ ap status_of q))
                ∙ ap (λ (c : Bool). first_refusal ((c, refused 15) ∷ [])) narrow

            stops : t ≡ cond (hooked h x.word) (SuspendedOnHook (n % 2 ^ 32)) Running
            stops = u ∙ ap (λ (b : ℕ). cond (hooked h b) (SuspendedOnHook (n % 2 ^ 32)) Running) at_operand

            stop_is : stop_of t ≡ cond (hooked h x.word) (on_hook n) running
            stop_is = ap stop_of stops ∙ suspended (hooked h x.word) n (ap (λ (c : ℕ). hooked h c && ltb 4294967295 n) (sym at_operand) ∙ narrow)

            given_is : result_of r ≡ given
            given_is = g ∙ (λ i. record { word = z i; operand = record { word = incremented x.word; tag = false }; frame = s.frame; stop = stop_is i })

            answers : execution_outcome on_panic on_done r ≡ done (on_done given)
            answers =
                ap (λ (y : ExecutionStatus Refusal). status_outcome on_panic on_done y (result_of r)) (v ∙ stops) ∙ told_stop on_panic on_done (hooked h x.word) (n % 2 ^ 32) (result_of r)
                ∙ ap (λ (y : InstructionResult). done (on_done y)) given_is

-- ---- the steps: s and the page p are theirs
module _ (m : Mem) (f : Frame) (x : Operand) (s : FrameStep) where
  module _ (area : Area) (is : s ≡ frame_accessed f area x.word) where
    pub within : s.paid ≡ true → x.word ≤ last_address
    within e = frame_within f area x.word (sym (ap (λ (u : FrameStep). u.paid) is) ∙ e)

    module _ (p : ℕ) (page : p ≡ heap_of f area) {r : Execution Refusal} where
      pub load_ends : Loads m p x s r → LoadStep m area f x r
      load_ends e b d = subst (λ (o : Outcome Value). Ends b d m o (view_of m) f r m) (λ i. load_outcome b d (view_of m) (page i) x (is i)) (e b d f)

      pub store_ends : (n : ℕ) (h : Hook) {m' : Mem} → Stores m p x n h f s r m' → StoreStep m area f x n h r m'
      store_ends n h {m'} e = subst₂ (λ (q : ℕ) (t : FrameStep). Stores m q x n h f t r m') page is e

  module _ (is : s ≡ static_step f x.word) where
    pub static_within : s.paid ≡ true → x.word ≤ last_address
    static_within e = ltb-false last_address x.word (not-true _ (sym (ap (λ (u : FrameStep). u.paid) is) ∙ e))

    -- the static step pays within the limit
    static_first : (b : InstructionResult → Value) (rest : List (Check Value)) (o : Outcome Value) → first_of (unpaid b (static_step f x.word) ++ rest) o ≡ first_of (static_checks b f x.word ++ rest) o
    static_first b rest o = go (ltb last_address x.word)
      where
        go : (far : Bool) → first_of ((not (not far), panicked (b (panic f))) ∷ rest) o ≡ first_of ((far, panicked (b (panic f))) ∷ rest) o
        go true = refl
        go false = refl

    module _ (p : ℕ) (page : p ≡ static_of (layout_of m.words)) {r : Execution Refusal} where
      pub static_load_ends : Loads m p x s r → StaticLoadStep m f x r
      static_load_ends e b d =
          subst (λ (o : Outcome Value). Ends b d m o (view_of m) f r m)
          ((λ i. load_outcome b d (view_of m) (page i) x (is i)) ∙ static_first b [] (done (d (static_loaded (setting_of m) (view_of m) f x)))) (e b d f)

      -- the hook is off
      pub static_store_ends : (n : ℕ) {m' : Mem} → Stores m p x n (record { on = false; address = 0 }) f s r m' → StaticStoreStep m f x n r m'
      static_store_ends n {m'} e b d =
          let checks = word_write_checks (setting_of m) (view_of m) (static_of (layout_of m.words)) x.word in
          let last = done (d (static_stored f x)) in
          subst (λ (o : Outcome Value). Ends b d m o (word_written (layout_of m.words) (static_of (layout_of m.words)) x.word (word_bytes n) (view_of m)) f r m')
          (static_first b (checks ++ ((false, refused 15) ∷ [])) last ∙ never_last (static_checks b f x.word ++ checks) (refused 15) last)
          (subst₂ (λ (q : ℕ) (t : FrameStep). Stores m q x n (record { on = false; address = 0 }) f t r m') page is e b d)
