-- There are steps of the instructions: every memory, frame, registers of 65 numbers, places, mode and hook have one, with the outcome that the
-- definition gives.
-- Assumes nothing.
use mathlib.Core.Path.{◌≡◌, refl, sym, ap, ◌∙◌, subst}
use mathlib.Core.Bool.{Bool, true, false, cond, not, ◌&&◌, false≢true}
use mathlib.Core.List.{List, [], ◌∷◌, ◌++◌}
use Prim.Native.Nat.{ℕ, ◌≤◌}
use native.Mathlib.Omega.{arith}
use lib.Dec.{eqb, ltb}
use lib.ListN.{length, length-set}
use borrow.Author.Tests.{ltb-false, not-false}
use Rattle.outcome.specs.Outcome.{Outcome, refused, panicked, done, carried_out, first_of, number_of}
use Rattle.outcome.specs.declared.Refusal.{Refusal}
use Rattle.outcome.specs.declared.Refusal.TheVariants.{NotFormed, Undecodable, NoPage, NoChunk, NoJournal, Pointer, HookValue}
use Rattle.outcome.specs.declared.Refusal.TheVariants as refusals
use Rattle.word.specs.Value.{last_address}
use Rattle.registers.specs.declared.Place.{Place}
use Rattle.registers.specs.declared.LoadPlaces.{LoadPlaces}
use Rattle.registers.specs.declared.StorePlaces.{StorePlaces}
use Rattle.registers.specs.Registers.{Registers, Operand, registers_from, is_register, register_number, with_register, put_flag, source_of, value_of, load_takes, pointer_takes, store_takes}
use Rattle.registers.proofs.Values.{numbers_put, put_is}
use Rattle.state.specs.declared.Frame.{Frame}
use Rattle.state.specs.declared.Area.{Area}
use Rattle.state.specs.Access.{frame_accessed}
use Rattle.state.proofs.Laws.{frame_within}
use Rattle.store.specs.Mem.{Mem}
use Rattle.formed.specs.Formed.{well_formed}
use Rattle.formed.proofs.Meaning.{well_formed_means}
use Rattle.view.specs.View.{View, Setting, setting_of, view_of}
use Rattle.view.specs.Checks.{Check, word_write_checks}
use Rattle.fat_pointer.specs.Pointer.{pointer_of}
use Rattle.view.specs.Instructions as view
use Rattle.view.specs.Instructions.{InstructionResult, Executed, Stop, running, on_hook, heap_of, static_of, panic, hooked, panicked_into, loaded_into, stored_into, place_checks, access_checks, loaded, pointer_checks, read_count, pointed, static_checks, static_loaded, store_checks, stored, static_store_checks, static_stored}
use Rattle.view.specs.Calls.{Call, Value, Load, Store, LoadPointer, LoadStatic, StoreStatic, executed, pointer_loaded, outcome_of, next_of, answer_of, CallDoes, first_refusal}
use Rattle.reads.proofs.Calls.{only_reads}
use Rattle.plain.proofs.Tests.{Clear, clear}
use Rattle.execution.specs.declared.Hook.{Hook}
use Rattle.execution.specs.declared.ExecutionStatus.{ExecutionStatus}
use Rattle.execution.specs.declared.ExecutionStatus.TheVariants.{Running, SuspendedOnHook, Panicked, Refused}
use Rattle.execution.specs.Executions.{hook_of}
use Rattle.write_back.specs.declared.Executed as code
use Rattle.write_back.specs.declared.PointerExecuted.{PointerExecuted}
use Rattle.write_back.specs.Runs.{ended_with, outcome_with, executed_outcome, pointer_outcome, RunsWith, Runs, PointerRuns}
use Rattle.write_back.proofs.Laws.{load_parts, pointer_parts, store_parts}
use Rattle.write_back.proofs.Pieces.{number_few}
use Rattle.lists.specs.Steps.{PublicStep, did_load, did_store, did_load_pointer, did_load_static, did_store_static}
use Rattle.lists.proofs.Reach.{Reached}
use Rattle.lists.proofs.Writing.{word_there}
use Rattle.lists.specs.Goes.{Goes, Numbered}
use Rattle.lists.proofs.Inhabited.{Answers, Same, same, setting_same, ref, ref_mut, limbs, value_is}

-- ---- registers that are written are those of 65 numbers too
set_numbers : (l : List ℕ) → length l ≡ 65 → (n : ℕ) → n ≤ 15 → (w : ℕ) (t : Bool) → Numbered (with_register n w t (registers_from l))
set_numbers l count n few w t = go (eqb n 0) refl
  where
    after : Registers
    after = record { word = λ k. cond (eqb k n) w ((registers_from l).word k); flags = put_flag (registers_from l).flags n t }

    go : (b : Bool) → eqb n 0 ≡ b → Numbered (with_register n w t (registers_from l))
    go true e = record { numbers = l; count = count; are = sym (ap (λ (b : Bool). cond b (registers_from l) after) e) }
    go false e = record {
      numbers = numbers_put l n (limbs w) t;
      count = simp length-set count;
      are = put_is l n (limbs w) t count few e ∙ ap (λ (v : ℕ). with_register n v t (registers_from l)) (value_is w);
    }

numbered_set : {g : Registers} → Numbered g → (d : Place) → is_register d ≡ true → (w : ℕ) (t : Bool) → Numbered (with_register (register_number d) w t g)
numbered_set k d e w t =
    subst (λ (g : Registers). Numbered (with_register (register_number d) w t g)) k.are
    (set_numbers k.numbers k.count (register_number d) (number_few d e (register_number d) refl) w t)

numbered_by : (b : Bool) {g h : Registers} → Numbered g → Numbered h → Numbered (cond b g h)
numbered_by true k j = k
numbered_by false k j = j

module _ {g : Registers} (k : Numbered g) (r : InstructionResult) where
  numbered_load : (p : LoadPlaces) → (is_register p.dst0 ≡ true) × (is_register p.dst1 ≡ true) → Numbered (loaded_into g p r).registers
  numbered_load p d =
      let h = numbered_set k p.dst0 d.0 r.word false in
      numbered_by p.increment (numbered_set h p.dst1 d.1 r.operand.word r.operand.tag) (numbered_set h p.dst1 d.1 0 false)

  numbered_store : (p : StorePlaces) → (is_register p.dst0 ≡ true) × (is_register p.dst1 ≡ true) → Numbered (stored_into g p r).registers
  numbered_store p d = numbered_set (numbered_by p.increment (numbered_set k p.dst0 d.0 r.operand.word r.operand.tag) k) p.dst1 d.1 0 false

-- ---- an answer for each outcome that an instruction can have; `value` is the value of one that is carried out, and a panic stops nothing
data Ran (value : Executed → Value) : Outcome Value → Type 0 where
  is_refused : (e : Refusal) → Ran value (refused (number_of e))
  is_panicked : (e : Executed) → running ≡ e.stop → Numbered e.registers → Ran value (panicked (executed e))
  is_done : (e : Executed) → Numbered e.registers → Ran value (done (value e))

abbrev AllRan : (Executed → Value) → List (Check Value) → Type 0
AllRan value [] = Unit {0}
AllRan value ((b, o) ∷ rest) = Ran value o × AllRan value rest

first_ran : {value : Executed → Value} (checks : List (Check Value)) → AllRan value checks → (o : Outcome Value) → Ran value o → Ran value (first_of checks o)
first_ran [] a o r = r
first_ran ((true, x) ∷ rest) a o r = a.0
first_ran ((false, x) ∷ rest) a o r = first_ran rest a.1 o r

-- 3 comes first, and then 16
answer_ran : {value : Executed → Value} (m : Mem) (c : Call) → Ran value (outcome_of (setting_of m) c (view_of m)) → Ran value (answer_of m c)
answer_ran m c r = first_ran ((not (well_formed m), refused 3) ∷ []) (is_refused NotFormed, tt) (outcome_of (setting_of m) c (view_of m)) r

taken_ran : {value : Executed → Value} (takes : Bool) (o : Outcome Value) → (takes ≡ true → Ran value o) → Ran value (cond (not takes) (refused 16) o)
taken_ran true o r = r refl
taken_ran false o r = is_refused refusals.Operand

write_ran : {value : Executed → Value} (s : Setting) (v : View) (p a : ℕ) (rest : List (Check Value)) → AllRan value rest → AllRan value (word_write_checks s v p a ++ rest)
write_ran s v p a rest r = (is_refused Undecodable, (is_refused NoPage, (is_refused NoChunk, (is_refused NoJournal, r))))

abbrev status_for : Stop → ExecutionStatus Refusal
status_for running = Running
status_for (on_hook n) = SuspendedOnHook n

told_again : (value : Executed → Value) (s : Stop) (f : Frame) (g : Registers) → ended_with value (status_for s) f g ≡ done (value (record { frame = f; registers = g; stop = s }))
told_again value running f g = refl
told_again value (on_hook n) f g = refl

not_refused : (s : Stop) (n : Refusal) → status_for s ≡ Refused n → ⊥
not_refused running n e = let z : ◌≡◌ {A = ℕ} 0 1 = cc in omega arith
not_refused (on_hook k) n e = let z : ◌≡◌ {A = ℕ} 0 1 = cc in omega arith

module _ (f : Frame) (l : List ℕ) (count : length l ≡ 65) {value : Executed → Value} where
  abbrev execute : {o : Outcome Value} → Ran value o → code.Executed Refusal
  execute (is_refused n) = record { status = Refused n; frame = f }
  execute (is_panicked e q k) = record { status = Panicked; frame = e.frame }
  execute (is_done e k) = record { status = status_for e.stop; frame = e.frame }

  -- the numbers of the registers after it
  abbrev after : {o : Outcome Value} → Ran value o → List ℕ
  after (is_refused n) = l
  after (is_panicked e q k) = k.numbers
  after (is_done e k) = k.numbers

  after_long : {o : Outcome Value} (r : Ran value o) → length (after r) ≡ length l
  after_long (is_refused n) = refl
  after_long (is_panicked e q k) = k.count ∙ sym count
  after_long (is_done e k) = k.count ∙ sym count

  told_execute : {o : Outcome Value} (r : Ran value o) → outcome_with value (execute r) (after r) ≡ o
  told_execute (is_refused n) = refl
  told_execute (is_panicked e q k) = λ i. panicked (executed (record { frame = e.frame; registers = k.are i; stop = q i }))
  told_execute (is_done e k) =
      told_again value e.stop e.frame (registers_from k.numbers) ∙ (λ i. done (value (record { frame = e.frame; registers = k.are i; stop = e.stop })))

  alone : {o : Outcome Value} (r : Ran value o) (n : Refusal) → (execute r).status ≡ Refused n → ((execute r).frame ≡ f) × (after r ≡ l)
  alone (is_refused k) n e = (refl, refl)
  alone (is_panicked d q k) n e = absurd (let z : ◌≡◌ {A = ℕ} 0 1 = cc in omega arith)
  alone (is_done d k) n e = absurd (not_refused d.stop n e)

  runs : (m : Mem) (c : Call) {o : Outcome Value} (r : Ran value o) (m' : Mem) → CallDoes m c o m' → RunsWith value m c f l (execute r) m' (after r)
  runs m c r m' d = record { does = subst (λ (o : Outcome Value). CallDoes m c o m') (sym (told_execute r)) d; refusal = alone r }

-- a pointer load that reads n bytes where it is carried out
module _ (f : Frame) (l : List ℕ) (count : length l ≡ 65) (n : ℕ) where
  abbrev bytes_of : {o : Outcome Value} → Ran (λ e. pointer_loaded e n) o → ℕ
  bytes_of (is_refused k) = 0
  bytes_of (is_panicked e q k) = 0
  bytes_of (is_done e k) = n

  abbrev pointer_execute : {o : Outcome Value} → Ran (λ e. pointer_loaded e n) o → PointerExecuted Refusal
  pointer_execute r = record { executed = execute f l count r; bytes_read = bytes_of r }

  same_value : {o : Outcome Value} (r : Ran (λ e. pointer_loaded e n) o)
      → pointer_outcome (pointer_execute r) (after f l count r) ≡ outcome_with (λ e. pointer_loaded e n) (execute f l count r) (after f l count r)
  same_value (is_refused k) = refl
  same_value (is_panicked e q k) = refl
  same_value (is_done e k) = refl

  told_pointer : {o : Outcome Value} (r : Ran (λ e. pointer_loaded e n) o) → pointer_outcome (pointer_execute r) (after f l count r) ≡ o
  told_pointer r = same_value r ∙ told_execute f l count r

  none_read : {o : Outcome Value} (r : Ran (λ e. pointer_loaded e n) o) → carried_out o ≡ false → bytes_of r ≡ 0
  none_read (is_refused k) e = refl
  none_read (is_panicked d q k) e = refl
  none_read (is_done d k) e = absurd (false≢true (sym e))

  pointer_runs : (m : Mem) (c : Call) {o : Outcome Value} (r : Ran (λ e. pointer_loaded e n) o) (m' : Mem) → CallDoes m c o m' → PointerRuns m c f l (pointer_execute r) m' (after f l count r)
  pointer_runs m c r m' d = record {
    runs = record { does = subst (λ (o : Outcome Value). CallDoes m c o m') (sym (told_pointer r)) d; refusal = alone f l count r };
    none = λ e. none_read r (ap carried_out (sym (told_pointer r)) ∙ e);
  }

-- ---- loads
module _ (f : Frame) (k : Registers) (numbered : Numbered k) (p : LoadPlaces) (m : Mem) where
  abbrev x : Operand
  x = source_of k p.source

  abbrev gone : InstructionResult → Value
  gone r = executed (panicked_into k p.dst1 r)

  panicked_ran : {value : Executed → Value} (r : InstructionResult) → running ≡ r.stop → is_register p.dst1 ≡ true → Ran value (panicked (gone r))
  panicked_ran r e d = is_panicked (panicked_into k p.dst1 r) e (numbered_set numbered p.dst1 d 0 false)

  done_ran : {value : Executed → Value} (r : InstructionResult) → (is_register p.dst0 ≡ true) × (is_register p.dst1 ≡ true) → Ran value (done (value (loaded_into k p r)))
  done_ran r d = is_done (loaded_into k p r) (numbered_load numbered r p d)

  load_ran : (area : Area) → Ran executed (answer_of m (Load area f k p))
  load_ran area =
      answer_ran m (Load area f k p)
      (taken_ran (load_takes p) _ (λ t.
      let d = (load_parts p t).1 in
      first_ran (access_checks gone area f x.word) (panicked_ran (panic (frame_accessed f area x.word).frame) refl d.1, tt) (done (executed (loaded_into k p (loaded (view_of m) area f x)))) (done_ran (loaded (view_of m) area f x) d)))

  pointer_ran : Ran (λ e. pointer_loaded e (read_count (pointer_of x.word))) (answer_of m (LoadPointer f k p))
  pointer_ran =
      answer_ran m (LoadPointer f k p)
      (taken_ran (pointer_takes p) _ (λ t.
      let d = (pointer_parts p t).1 in
      first_ran (pointer_checks gone f x) (panicked_ran (panic f) refl d.1, (panicked_ran (panic f) refl d.1, (is_refused Pointer, tt))) (done (pointer_loaded (loaded_into k p (pointed (view_of m) f x)) (read_count (pointer_of x.word)))) (done_ran (pointed (view_of m) f x) d)))

  static_ran : Ran executed (answer_of m (LoadStatic f k p))
  static_ran =
      answer_ran m (LoadStatic f k p)
      (taken_ran (load_takes p) _ (λ t.
      let d = (load_parts p t).1 in
      first_ran (static_checks gone f x.word) (panicked_ran (panic f) refl d.1, tt) (done (executed (loaded_into k p (static_loaded (setting_of m) (view_of m) f x)))) (done_ran (static_loaded (setting_of m) (view_of m) f x) d)))

module _ (f : Frame) (l : List ℕ) (count : length l ≡ 65) (p : LoadPlaces) (m : Mem) where
  abbrev g : Registers
  g = registers_from l

  abbrev own : Numbered g
  own = record { numbers = l; count = count; are = refl }

  load_step : (area : Area) → PublicStep m (Load area f g p) (answer_of m (Load area f g p)) m
  load_step area =
      let ran = load_ran f g own p m area in
      subst (λ (o : Outcome Value). PublicStep m (Load area f g p) o m) (told_execute f l count ran)
      (did_load
      (record {
        lifetimes = ([], ([], ([], ([], ([], tt)))));
        args = (ref m.bytes, (ref m.keys, (ref m.order, (ref m.words, (ref_mut l, (f, (area, (p, tt))))))));
        result = execute f l count ran;
        last = (tt, (tt, (tt, (tt, (after f l count ran, (tt, (tt, (tt, tt))))))));
        asked = tt;
        kept = (tt, (tt, (tt, (tt, (tt, (tt, (tt, (tt, tt))))))));
        ensures = runs f l count m (Load area f g p) ran m (only_reads m (Load area f g p) (answer_of m (Load area f g p)) refl refl);
      }))

  pointer_step : PublicStep m (LoadPointer f g p) (answer_of m (LoadPointer f g p)) m
  pointer_step =
      let ran = pointer_ran f g own p m in
      let n = read_count (pointer_of (source_of g p.source).word) in
      subst (λ (o : Outcome Value). PublicStep m (LoadPointer f g p) o m) (told_pointer f l count n ran)
      (did_load_pointer
      (record {
        lifetimes = ([], ([], ([], ([], ([], tt)))));
        args = (ref m.bytes, (ref m.keys, (ref m.order, (ref m.words, (ref_mut l, (f, (p, tt)))))));
        result = pointer_execute f l count n ran;
        last = (tt, (tt, (tt, (tt, (after f l count ran, (tt, (tt, tt)))))));
        asked = tt;
        kept = (tt, (tt, (tt, (tt, (tt, (tt, (tt, tt)))))));
        ensures = pointer_runs f l count n m (LoadPointer f g p) ran m (only_reads m (LoadPointer f g p) (answer_of m (LoadPointer f g p)) refl refl);
      }))

  static_step : PublicStep m (LoadStatic f g p) (answer_of m (LoadStatic f g p)) m
  static_step =
      let ran = static_ran f g own p m in
      subst (λ (o : Outcome Value). PublicStep m (LoadStatic f g p) o m) (told_execute f l count ran)
      (did_load_static
      (record {
        lifetimes = ([], ([], ([], ([], ([], tt)))));
        args = (ref m.bytes, (ref m.keys, (ref m.order, (ref m.words, (ref_mut l, (f, (p, tt)))))));
        result = execute f l count ran;
        last = (tt, (tt, (tt, (tt, (after f l count ran, (tt, (tt, tt)))))));
        asked = tt;
        kept = (tt, (tt, (tt, (tt, (tt, (tt, (tt, tt)))))));
        ensures = runs f l count m (LoadStatic f g p) ran m (only_reads m (LoadStatic f g p) (answer_of m (LoadStatic f g p)) refl refl);
      }))

module _ (f : Frame) (g : Registers) (k : Numbered g) (p : LoadPlaces) where
  pub can_load : (area : Area) → Answers (Load area f g p)
  can_load area m = subst (λ (h : Registers). PublicStep m (Load area f h p) (answer_of m (Load area f h p)) m) k.are (load_step f k.numbers k.count p m area)

  pub can_load_pointer : Answers (LoadPointer f g p)
  can_load_pointer m = subst (λ (h : Registers). PublicStep m (LoadPointer f h p) (answer_of m (LoadPointer f h p)) m) k.are (pointer_step f k.numbers k.count p m)

  pub can_load_static : Answers (LoadStatic f g p)
  can_load_static m = subst (λ (h : Registers). PublicStep m (LoadStatic f h p) (answer_of m (LoadStatic f h p)) m) k.are (static_step f k.numbers k.count p m)

-- ---- stores
-- a store that has passed its checks has passed those of a word write
module _ (s : Setting) (v : View) (p a : ℕ) (rest : List (Check Value)) where
  write_clear : Clear (word_write_checks s v p a ++ rest) → first_refusal (word_write_checks s v p a) ≡ 0
  write_clear c = rw (c.0, c.1.0, c.1.1.0, c.1.1.1.0) refl

-- a call that is carried out, on a memory that is well formed
carried_formed : (m : Mem) (o : Outcome Value) → carried_out (cond (not (well_formed m)) (refused 3) o) ≡ true → (well_formed m ≡ true) × (carried_out o ≡ true)
carried_formed m o e = go (well_formed m) refl e
  where
    go : (b : Bool) → well_formed m ≡ b → carried_out (cond (not b) (refused 3) o) ≡ true → (well_formed m ≡ true) × (carried_out o ≡ true)
    go true q e = (q, e)
    go false q e = absurd (false≢true e)

module _ (m : Mem) (f : Frame) (l : List ℕ) (count : length l ≡ 65) (c : Call) (ran : Ran executed (answer_of m c))
    (step : (m' : Mem) → Same m m' → Runs m c f l (execute f l count ran) m' (after f l count ran) → PublicStep m c (executed_outcome (execute f l count ran) (after f l count ran)) m')
    (there : well_formed m ≡ true → carried_out (outcome_of (setting_of m) c (view_of m)) ≡ true → Reached (setting_of m) (next_of (setting_of m) c (view_of m))) where
  stores : Goes m c (answer_of m c)
  stores = go (carried_out (answer_of m c)) refl
    where
      goes : (m' : Mem) → Same m m' → CallDoes m c (answer_of m c) m' → Goes m c (answer_of m c)
      goes m' s d = record { after = m'; step = subst (λ (o : Outcome Value). PublicStep m c o m') (told_execute f l count ran) (step m' s (runs f l count m c ran m' d)) }

      go : (b : Bool) → carried_out (answer_of m c) ≡ b → Goes m c (answer_of m c)
      go false e = goes m (same m) (record { answer = refl; kept = λ _. refl; changed = λ q. absurd (false≢true (sym e ∙ q)) })
      go true e =
          let k = carried_formed m (outcome_of (setting_of m) c (view_of m)) e in
          let t = there k.0 k.1 in
          goes t.memory (setting_same (well_formed_means m k.0) t.shows) (record { answer = refl; kept = λ q. absurd (false≢true (sym q ∙ e)); changed = λ _. t.shows })

module _ (f : Frame) (g : Registers) (p : StorePlaces) (kernel : Bool) where
  abbrev y : Operand
  y = source_of g p.source

  abbrev n : ℕ
  n = value_of kernel g (register_number p.value)

  abbrev broken : InstructionResult → Value
  broken r = executed (panicked_into g p.dst1 r)

  module _ (area : Area) (h : view.Hook) (page : heap_of f area ≤ 4294967295) (m : Mem) where
    store_there : well_formed m ≡ true → carried_out (outcome_of (setting_of m) (Store area f g p kernel h) (view_of m)) ≡ true
        → Reached (setting_of m) (next_of (setting_of m) (Store area f g p kernel h) (view_of m))
    store_there w e =
        let c = clear (place_checks (store_takes p) ++ store_checks broken (setting_of m) (view_of m) area f y.word n h) (executed (stored_into g p (stored area f y n h))) e in
        let l : y.word ≤ last_address = frame_within f area y.word (not-false _ c.1.0) in
        word_there m (heap_of f area) y.word page (omega arith) n (well_formed_means m w, write_clear (setting_of m) (view_of m) (heap_of f area) y.word ((hooked h y.word && ltb 4294967295 n, refused 15) ∷ []) c.1.1)

  module _ (m : Mem) where
    static_there : well_formed m ≡ true → carried_out (outcome_of (setting_of m) (StoreStatic f g p kernel) (view_of m)) ≡ true
        → Reached (setting_of m) (next_of (setting_of m) (StoreStatic f g p kernel) (view_of m))
    static_there w e =
        let c = clear (place_checks (store_takes p) ++ static_store_checks broken (setting_of m) (view_of m) f y.word) (executed (stored_into g p (static_stored f y))) e in
        let l : y.word ≤ last_address = ltb-false last_address y.word c.1.0 in
        let k = well_formed_means m w in
        word_there m (static_of (setting_of m).layout) y.word (k.encoded.layout_width 0 (omega arith)) (omega arith) n
        (k, write_clear (setting_of m) (view_of m) (static_of (setting_of m).layout) y.word [] c.1.1)

  module _ (numbered : Numbered g) (m : Mem) where
    broken_ran : (r : InstructionResult) → running ≡ r.stop → is_register p.dst1 ≡ true → Ran executed (panicked (broken r))
    broken_ran r e d = is_panicked (panicked_into g p.dst1 r) e (numbered_set numbered p.dst1 d 0 false)

    stored_ran : (r : InstructionResult) → (is_register p.dst0 ≡ true) × (is_register p.dst1 ≡ true) → Ran executed (done (executed (stored_into g p r)))
    stored_ran r d = is_done (stored_into g p r) (numbered_store numbered r p d)

    store_ran : (area : Area) (h : view.Hook) → Ran executed (answer_of m (Store area f g p kernel h))
    store_ran area h =
        answer_ran m (Store area f g p kernel h)
        (taken_ran (store_takes p) _ (λ t.
        let d = (store_parts p t).1.1 in
        first_ran (store_checks broken (setting_of m) (view_of m) area f y.word n h)
        (broken_ran (panic (frame_accessed f area y.word).frame) refl d.1, write_ran (setting_of m) (view_of m) (heap_of f area) y.word ((hooked h y.word && ltb 4294967295 n, refused 15) ∷ []) (is_refused HookValue, tt))
        (done (executed (stored_into g p (stored area f y n h)))) (stored_ran (stored area f y n h) d)))

    static_store_ran : Ran executed (answer_of m (StoreStatic f g p kernel))
    static_store_ran =
        answer_ran m (StoreStatic f g p kernel)
        (taken_ran (store_takes p) _ (λ t.
        let d = (store_parts p t).1.1 in
        first_ran (static_store_checks broken (setting_of m) (view_of m) f y.word)
        (broken_ran (panic f) refl d.1, write_ran (setting_of m) (view_of m) (static_of (setting_of m).layout) y.word [] tt)
        (done (executed (stored_into g p (static_stored f y)))) (stored_ran (static_stored f y) d)))

module _ (f : Frame) (l : List ℕ) (count : length l ≡ 65) (p : StorePlaces) (kernel : Bool) (m : Mem) where
  abbrev registers : Registers
  registers = registers_from l

  abbrev numbers : Numbered registers
  numbers = record { numbers = l; count = count; are = refl }

  goes_store : (area : Area) (h : Hook) → heap_of f area ≤ 4294967295 → Goes m (Store area f registers p kernel (hook_of h)) (answer_of m (Store area f registers p kernel (hook_of h)))
  goes_store area h page =
      let c = Store area f registers p kernel (hook_of h) in
      let ran = store_ran f registers p kernel numbers m area (hook_of h) in
      stores m f l count c ran
      (λ m' s d.
      did_store
      (record {
        lifetimes = ([], ([], ([], ([], ([], tt)))));
        args = (ref_mut m.bytes, (ref_mut m.keys, (ref_mut m.order, (ref_mut m.words, (ref_mut l, (f, (area, (p, (kernel, (h, tt))))))))));
        result = execute f l count ran;
        last = (m'.bytes, (m'.keys, (m'.order, (m'.words, (after f l count ran, (tt, (tt, (tt, (tt, (tt, tt))))))))));
        asked = tt;
        kept = (s.bytes, (s.keys, (s.order, (s.words, (tt, (tt, (tt, (tt, (tt, (tt, tt))))))))));
        ensures = d;
      }))
      (store_there f registers p kernel area (hook_of h) page m)

  goes_store_static : Goes m (StoreStatic f registers p kernel) (answer_of m (StoreStatic f registers p kernel))
  goes_store_static =
      let ran = static_store_ran f registers p kernel numbers m in
      stores m f l count (StoreStatic f registers p kernel) ran
      (λ m' s d.
      did_store_static
      (record {
        lifetimes = ([], ([], ([], ([], ([], tt)))));
        args = (ref_mut m.bytes, (ref_mut m.keys, (ref_mut m.order, (ref_mut m.words, (ref_mut l, (f, (p, (kernel, tt))))))));
        result = execute f l count ran;
        last = (m'.bytes, (m'.keys, (m'.order, (m'.words, (after f l count ran, (tt, (tt, (tt, tt))))))));
        asked = tt;
        kept = (s.bytes, (s.keys, (s.order, (s.words, (tt, (tt, (tt, (tt, tt))))))));
        ensures = d;
      }))
      (static_there f registers p kernel m)

module _ (f : Frame) (g : Registers) (k : Numbered g) (p : StorePlaces) (kernel : Bool) where
  pub can_store : (area : Area) (h : view.Hook) → heap_of f area ≤ 4294967295 → (m : Mem) → Goes m (Store area f g p kernel h) (answer_of m (Store area f g p kernel h))
  can_store area h page m =
      subst (λ (r : Registers). Goes m (Store area f r p kernel h) (answer_of m (Store area f r p kernel h))) k.are
      (goes_store f k.numbers k.count p kernel m area (record { on = h.on; address = record { 0 = h.address } }) page)

  pub can_store_static : (m : Mem) → Goes m (StoreStatic f g p kernel) (answer_of m (StoreStatic f g p kernel))
  can_store_static m =
      subst (λ (r : Registers). Goes m (StoreStatic f r p kernel) (answer_of m (StoreStatic f r p kernel))) k.are (goes_store_static f k.numbers k.count p kernel m)
