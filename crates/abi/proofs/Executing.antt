-- The contract of an exported instruction, from those of the instruction and of its parts.
-- Assumes nothing.
use mathlib.Core.Path.{◌≡◌, refl, sym, ap, ◌∙◌, subst}
use mathlib.Core.Bool.{Bool, true, false, not, ◌&&◌, false≢true}
use mathlib.Core.List.{List, [], ◌∷◌, ◌++◌}
use mathlib.Core.Logic.{◌⊎◌, ⊎_elim}
use Prim.Native.Nat.{ℕ, suc, ◌<◌}
use native.Mathlib.Omega.{arith}
use lib.Dec.{eqb, ltb}
use lib.ListN.{length, get_or}
use borrow.Author.Tests.{ne_eqb, eqb-true, ltb-true}
use Rattle.index.proofs.Logic.{and_left, and_right}
use Rattle.outcome.specs.Outcome.{Outcome, refused, panicked, done, first_of, number_of}
use Rattle.outcome.specs.declared.Refusal.{Refusal}
use Rattle.registers.specs.declared.LoadPlaces.{LoadPlaces}
use Rattle.registers.specs.declared.StorePlaces.{StorePlaces}
use Rattle.registers.specs.Registers.{Registers, registers_from, register_number, source_of, value_of, load_takes, pointer_takes, store_takes}
use Rattle.state.specs.declared.Frame.{Frame}
use Rattle.state.specs.declared.Area.{Area}
use Rattle.store.specs.Mem.{Mem}
use Rattle.formed.specs.Formed.{well_formed}
use Rattle.view.specs.View.{setting_of, view_of}
use Rattle.view.specs.Checks.{Check, word_write_checks}
use Rattle.view.specs.Instructions.{Hook, InstructionResult, Executed, Stop, running, on_hook, heap_of, hooked, place_checks, panicked_into, loaded_into, stored_into, access_checks, loaded, store_checks, stored, pointer_checks, pointed, static_checks, static_loaded, static_store_checks, static_stored}
use Rattle.view.specs.Calls.{Call, Value, Load, Store, LoadPointer, LoadStatic, StoreStatic, executed, pointer_loaded, answer_of, CallDoes}
use Rattle.execution.specs.declared.ExecutionStatus.{ExecutionStatus}
use Rattle.execution.specs.declared.ExecutionStatus.TheVariants.{Running, SuspendedOnHook, Panicked, Refused}
use Rattle.write_back.specs.declared.Executed as code
use Rattle.write_back.specs.declared.PointerExecuted.{PointerExecuted}
use Rattle.write_back.specs.Runs.{ended_with, outcome_with, RunsWith, Runs, PointerRuns}
use Rattle.frames.specs.Frames.{bit, flag, frame_from, frame_numbers}
use Rattle.abi.specs.Executing.{fit, outcome_from, pointer_value, executed_status, frame_after, stop_value, read_value, ReportsExecuted, ExecutesWith, Executes, PointerExecutes}

-- ---- an outcome that a status is enough for: a refusal's number is none of 0, 100, 101; P says which stops there are
data Reportable (P : Stop → Type 0) : Outcome Value → Type 0 where
  refuses : {n : ℕ} → (ltb 0 n && ltb n 100) ≡ true → Reportable P (refused n)
  panics : {e : Executed} → Reportable P (panicked (executed e))
  gives : {e : Executed} → P e.stop → Reportable P (done (executed e))
  loads_pointer : {e : Executed} {n : ℕ} → P e.stop → Reportable P (done (pointer_loaded e n))

data All (P : Stop → Type 0) : List (Check Value) → Type 0 where
  end : All P []
  next : {b : Bool} {o : Outcome Value} {rest : List (Check Value)} → Reportable P o → All P rest → All P ((b, o) ∷ rest)

first : {P : Stop → Type 0} (checks : List (Check Value)) → All P checks → {o : Outcome Value} → Reportable P o → Reportable P (first_of checks o)
first [] end p = p
first ((true, o) ∷ rest) (next q h) p = q
first ((false, o) ∷ rest) (next q h) p = first rest h p

-- a store may stop; no other instruction does
abbrev Any : Stop → Type 0
Any s = Unit {0}

abbrev Never : Stop → Type 0
Never s = s ≡ running

-- the instructions have such outcomes
module _ (m : Mem) (f : Frame) (g : Registers) where
  formed : {P : Stop → Type 0} {o : Outcome Value} → Reportable P o → Reportable P (first_of ((not (well_formed m), refused 3) ∷ []) o)
  formed p = first ((not (well_formed m), refused 3) ∷ []) (next (refuses refl) end) p

  module _ (p : LoadPlaces) where
    abbrev gone : InstructionResult → Value
    gone r = executed (panicked_into g p.dst1 r)

    load_reportable : (area : Area) → Reportable Never (answer_of m (Load area f g p))
    load_reportable area =
        formed
        (first (place_checks (load_takes p) ++ access_checks gone area f (source_of g p.source).word) (next (refuses refl) (next panics end))
        (gives {e = loaded_into g p (loaded (view_of m) area f (source_of g p.source))} refl))

    pointer_reportable : Reportable Never (answer_of m (LoadPointer f g p))
    pointer_reportable =
        formed
        (first (place_checks (pointer_takes p) ++ pointer_checks gone f (source_of g p.source)) (next (refuses refl) (next panics (next panics (next (refuses refl) end))))
        (loads_pointer {e = loaded_into g p (pointed (view_of m) f (source_of g p.source))} refl))

    static_reportable : Reportable Never (answer_of m (LoadStatic f g p))
    static_reportable =
        formed
        (first (place_checks (load_takes p) ++ static_checks gone f (source_of g p.source).word) (next (refuses refl) (next panics end))
        (gives {e = loaded_into g p (static_loaded (setting_of m) (view_of m) f (source_of g p.source))} refl))

  module _ (p : StorePlaces) (kernel : Bool) where
    abbrev broken : InstructionResult → Value
    broken r = executed (panicked_into g p.dst1 r)

    writes : {P : Stop → Type 0} (q a : ℕ) (rest : List (Check Value)) → All P rest → All P (word_write_checks (setting_of m) (view_of m) q a ++ rest)
    writes q a rest h = next (refuses refl) (next (refuses refl) (next (refuses refl) (next (refuses refl) h)))

    store_reportable : (area : Area) (h : Hook) → Reportable Any (answer_of m (Store area f g p kernel h))
    store_reportable area h =
        let x = source_of g p.source in
        let n = value_of kernel g (register_number p.value) in
        formed
        (first (place_checks (store_takes p) ++ store_checks broken (setting_of m) (view_of m) area f x.word n h)
        (next (refuses refl) (next panics (writes (heap_of f area) x.word ((hooked h x.word && ltb 4294967295 n, refused 15) ∷ []) (next (refuses refl) end))))
        (gives {e = stored_into g p (stored area f x n h)} tt))

    static_store_reportable : Reportable Never (answer_of m (StoreStatic f g p kernel))
    static_store_reportable =
        formed
        (first (place_checks (store_takes p) ++ static_store_checks broken (setting_of m) (view_of m) f (source_of g p.source).word)
        (next (refuses refl) (next panics (next (refuses refl) (next (refuses refl) (next (refuses refl) (next (refuses refl) end))))))
        (gives {e = stored_into g p (static_stored f (source_of g p.source))} refl))

-- the calls that are instructions
pub data Instruction : Call → Type 0 where
  load : {area : Area} {f : Frame} {g : Registers} {p : LoadPlaces} → Instruction (Load area f g p)
  store : {area : Area} {f : Frame} {g : Registers} {p : StorePlaces} {kernel : Bool} {h : Hook} → Instruction (Store area f g p kernel h)
  load_pointer : {f : Frame} {g : Registers} {p : LoadPlaces} → Instruction (LoadPointer f g p)
  load_static : {f : Frame} {g : Registers} {p : LoadPlaces} → Instruction (LoadStatic f g p)
  store_static : {f : Frame} {g : Registers} {p : StorePlaces} {kernel : Bool} → Instruction (StoreStatic f g p kernel)

-- the stops of each
abbrev pub Stops : {c : Call} → Instruction c → Stop → Type 0
Stops load = Never
Stops store = Any
Stops load_pointer = Never
Stops load_static = Never
Stops store_static = Never

reportable : (m : Mem) {c : Call} (i : Instruction c) → Reportable (Stops i) (answer_of m c)
reportable m (load {area} {f} {g} {p}) = load_reportable m f g p area
reportable m (store {area} {f} {g} {p} {kernel} {h}) = store_reportable m f g p kernel area h
reportable m (load_pointer {f} {g} {p}) = pointer_reportable m f g p
reportable m (load_static {f} {g} {p}) = static_reportable m f g p
reportable m (store_static {f} {g} {p} {kernel}) = static_store_reportable m f g p kernel

-- what is known of each
refusal_is : {P : Stop → Type 0} {o : Outcome Value} → Reportable P o → (n : ℕ) → o ≡ refused n → (0 < n) × (n < 100)
refusal_is (refuses {n = k} h) n q =
    let e : k ≡ n = cc in
    subst (λ (j : ℕ). (0 < j) × (j < 100)) e (ltb-true 0 k (and_left (ltb 0 k) (ltb k 100) h), ltb-true k 100 (and_right (ltb 0 k) (ltb k 100) h))
refusal_is panics n q = absurd (let z : ◌≡◌ {A = ℕ} 0 1 = cc in omega arith)
refusal_is (gives p) n q = absurd (let z : ◌≡◌ {A = ℕ} 0 1 = cc in omega arith)
refusal_is (loads_pointer p) n q = absurd (let z : ◌≡◌ {A = ℕ} 0 1 = cc in omega arith)

stop_is : {P : Stop → Type 0} {o : Outcome Value} → Reportable P o → (e : Executed) → o ≡ done (executed e) → P e.stop
stop_is (refuses h) e q = absurd (let z : ◌≡◌ {A = ℕ} 0 1 = cc in omega arith)
stop_is panics e q = absurd (let z : ◌≡◌ {A = ℕ} 0 1 = cc in omega arith)
stop_is {P} (gives {e = d} p) e q =
    let same : d ≡ e = cc in
    subst (λ (x : Executed). P x.stop) same p
stop_is (loads_pointer p) e q = absurd (let z : ◌≡◌ {A = ℕ} 0 1 = cc in omega arith)

stop_read_is : {P : Stop → Type 0} {o : Outcome Value} → Reportable P o → (e : Executed) (n : ℕ) → o ≡ done (pointer_loaded e n) → P e.stop
stop_read_is (refuses h) e n q = absurd (let z : ◌≡◌ {A = ℕ} 0 1 = cc in omega arith)
stop_read_is panics e n q = absurd (let z : ◌≡◌ {A = ℕ} 0 1 = cc in omega arith)
stop_read_is (gives p) e n q = absurd (let z : ◌≡◌ {A = ℕ} 0 1 = cc in omega arith)
stop_read_is {P} (loads_pointer {e = d} p) e n q =
    let same : d ≡ e = cc in
    subst (λ (x : Executed). P x.stop) same p

-- values that tell the stop
abbrev TellsStop : (Executed → Value) → Type 1
TellsStop value = (P : Stop → Type 0) (e : Executed) → Reportable P (done (value e)) → P e.stop

-- ---- numbers and back
flag_bit : (b : Bool) → flag (bit b) ≡ b
flag_bit true = refl
flag_bit false = refl

frame_back : (f : Frame) → frame_from (frame_numbers f) ≡ f
frame_back f = λ i. record { gas = f.gas; heap = f.heap; aux = f.aux; heap_bound = f.heap_bound; aux_bound = f.aux_bound; panicked = flag_bit f.panicked i }

-- the numbers are those of what they mean
numbers_back : (f : Frame) → frame_numbers f ≡ frame_numbers (frame_from (frame_numbers f))
numbers_back f = sym (ap frame_numbers (frame_back f))

-- a status of a refusal is none of the others
none : {r : ℕ} → (r ≡ 0 → ⊥) → (r ≡ 100 → ⊥) → (r ≡ 101 → ⊥) → (r ≡ 0) ⊎ ((r ≡ 100) ⊎ (r ≡ 101)) → ⊥
none a b c = ⊎_elim a (⊎_elim b c)

-- ---- what is left by an instruction that ended so, with registers of the numbers l; h is the hook's value
record Left (value : Executed → Value) (s : ExecutionStatus Refusal) (x : code.Executed Refusal) (frame l : List ℕ) (r h : ℕ) (frame' : List ℕ) : Type 0 where
  same : outcome_from value r h frame' l ≡ ended_with value s x.frame (registers_from l)
  kept : (r ≡ 0 → ⊥) → (r ≡ 100 → ⊥) → (r ≡ 101 → ⊥) → (frame' ≡ frame) × ((e : Refusal) × (s ≡ Refused e))
  frame_numbers_lem : (r ≡ 0) ⊎ ((r ≡ 100) ⊎ (r ≡ 101)) → frame' ≡ frame_numbers (frame_from frame')

module _ (value : Executed → Value) (tells : TellsStop value) (P : Stop → Type 0) (x : code.Executed Refusal) (frame l : List ℕ) (h : ℕ) where
  left : (s : ExecutionStatus Refusal) → Reportable P (ended_with value s x.frame (registers_from l)) → ((k : ℕ) → s ≡ SuspendedOnHook k → P (on_hook k) → h ≡ k)
      → Left value s x frame l (executed_status number_of s) h (frame_after s x frame)
  left Running p q = record {
    same = ap (λ (f : Frame). done (value (record { frame = f; registers = registers_from l; stop = running }))) (frame_back x.frame);
    kept = λ a b c. absurd (a refl);
    frame_numbers_lem = λ _. numbers_back x.frame;
  }
  left (SuspendedOnHook k) p q =
      let e = q k refl (tells P _ p) in
      record {
        same = λ i. done (value (record { frame = frame_back x.frame i; registers = registers_from l; stop = on_hook (e i) }));
        kept = λ a b c. absurd (c refl);
        frame_numbers_lem = λ _. numbers_back x.frame;
      }
  left Panicked p q = record {
    same = ap (λ (f : Frame). panicked (executed (record { frame = f; registers = registers_from l; stop = running }))) (frame_back x.frame);
    kept = λ a b c. absurd (b refl);
    frame_numbers_lem = λ _. numbers_back x.frame;
  }
  left (Refused e) p q =
      let n = number_of e in
      let k = refusal_is p n refl in
      record {
        same = rw (ne_eqb n 0 (λ z. omega arith), ne_eqb n 100 (λ z. omega arith), ne_eqb n 101 (λ z. omega arith)) refl;
        kept = λ a b c. (refl, (e, refl));
        frame_numbers_lem = λ e. absurd (none (λ z. omega arith) (λ z. omega arith) (λ z. omega arith) e);
      }

-- ---- the contract
-- the lengths that a fit frame and other numbers have
pub lengths : (frame others : List ℕ) {n : ℕ} → fit frame others n ≡ true → (length frame ≡ 6) × (length others ≡ n)
lengths frame others {n} e = (eqb-true (length frame) 6 (and_left _ _ e), eqb-true (length others) n (and_right (eqb (length frame) 6) _ e))

module _ {value : Executed → Value} {m : Mem} {c : Call} {frame l : List ℕ} {fits : Bool} {h : ℕ} where
  -- d is the call as it was made, with the frame f
  executes_with : TellsStop value → fits ≡ true → (i : Instruction c) → {d : Call} → d ≡ c → {f : Frame} {m' : Mem} {l' : List ℕ} (x : code.Executed Refusal) → RunsWith value m d f l x m' l'
      → {r : ℕ} {frame' : List ℕ} → ReportsExecuted number_of x frame r frame' → ((k : ℕ) → x.status ≡ SuspendedOnHook k → Stops i (on_hook k) → h ≡ k) → ExecutesWith value m c frame l fits r h m' frame' l'
  executes_with tells fit i q {f} {m'} {l'} x runs {r} {frame'} t stop =
      let done : CallDoes m c (outcome_with value x l') m' = subst (λ (y : Call). CallDoes m y (outcome_with value x l') m') q runs.does in
      let left_is : Left value x.status x frame l' r h frame' =
      subst (λ (z : ℕ). Left value x.status x frame l' z h frame') (sym t.status)
      (subst (λ (z : List ℕ). Left value x.status x frame l' (executed_status number_of x.status) h z) (sym t.frame_is)
      (left value tells (Stops i) x frame l' h x.status (subst (Reportable (Stops i)) (sym done.answer) (reportable m i)) stop)) in
      record {
        unfit = λ e. absurd (false≢true (sym e ∙ fit));
        does = λ _. record { answer = left_is.same ∙ done.answer; kept = done.kept; changed = done.changed };
        kept = λ a b e. let k = left_is.kept a b e in (k.0, (runs.refusal k.1.0 k.1.1).1);
        frame_numbers_lem = left_is.frame_numbers_lem;
      }

module _ {m : Mem} {c : Call} {frame l : List ℕ} {fits : Bool} {h : ℕ} where
  pub executes : fits ≡ true → (i : Instruction c) → {d : Call} → d ≡ c → {f : Frame} {m' : Mem} {l' : List ℕ} (x : code.Executed Refusal) → Runs m d f l x m' l'
      → {r : ℕ} {frame' : List ℕ} → ReportsExecuted number_of x frame r frame' → ((k : ℕ) → x.status ≡ SuspendedOnHook k → Stops i (on_hook k) → h ≡ k) → Executes m c frame l fits r h m' frame' l'
  executes = executes_with (λ P e p. stop_is p e refl)

-- no instruction but a store stops
pub no_stop : {h k : ℕ} → on_hook k ≡ running → h ≡ k
no_stop e = absurd (let z : ◌≡◌ {A = ℕ} 0 1 = cc in omega arith)

-- a stop's value is the output's number, and without a stop the output is as it was
pub stop_told : {N : Type 0} (s : ExecutionStatus N) (out : List ℕ) {out' : List ℕ} → out' ≡ stop_value s out → (k : ℕ) → s ≡ SuspendedOnHook k → get_or out' 0 0 ≡ k
stop_told {N} s out e k q = ap (λ (l : List ℕ). get_or l 0 0) (e ∙ ap (λ (z : ExecutionStatus N). stop_value z out) q)

pub stop_kept : {N : Type 0} (number : N → ℕ) (s : ExecutionStatus N) (out : List ℕ) {out' : List ℕ} {r : ℕ} → out' ≡ stop_value s out → r ≡ executed_status number s → (r ≡ 101 → ⊥) → out' ≡ out
stop_kept number Running out e q n = e
stop_kept number (SuspendedOnHook k) out e q n = absurd (n q)
stop_kept number Panicked out e q n = e
stop_kept number (Refused k) out e q n = e

-- ---- a pointer load
-- where it is carried out, its output is how many bytes it read
told_read : (s : ExecutionStatus Refusal) (n : ℕ) (out : List ℕ) {out' : List ℕ} → out' ≡ read_value s n out → ((k : ℕ) → s ≡ SuspendedOnHook k → ⊥)
    → (f : Frame) (g : Registers) → ended_with (pointer_value out') s f g ≡ ended_with (λ x. pointer_loaded x n) s f g
told_read Running n out e never f g = ap (λ (l : List ℕ). done (pointer_loaded (record { frame = f; registers = g; stop = running }) (get_or l 0 0))) e
told_read (SuspendedOnHook k) n out e never f g = absurd (never k refl)
told_read Panicked n out e never f g = refl
told_read (Refused k) n out e never f g = refl

-- it never stops
no_read_stop : (m : Mem) (f : Frame) (g : Registers) (p : LoadPlaces) (x : code.Executed Refusal) (n : ℕ) (l : List ℕ) → outcome_with (λ y. pointer_loaded y n) x l ≡ answer_of m (LoadPointer f g p)
    → (k : ℕ) → x.status ≡ SuspendedOnHook k → ⊥
no_read_stop m f g p x n l e k s =
    let is = sym (ap (λ (y : ExecutionStatus Refusal). ended_with (λ z. pointer_loaded z n) y x.frame (registers_from l)) s) ∙ e in
    let stop = stop_read_is (pointer_reportable m f g p) (record { frame = x.frame; registers = registers_from l; stop = on_hook k }) n (sym is) in
    let z : ◌≡◌ {A = ℕ} (suc k) k = no_stop stop in
    omega arith

module _ {m : Mem} {f : Frame} {g : Registers} {p : LoadPlaces} {frame l : List ℕ} {fits : Bool} where
  pub pointer_executes : fits ≡ true → {d : Call} → d ≡ LoadPointer f g p → {before : Frame} {m' : Mem} {l' : List ℕ} (x : PointerExecuted Refusal) → PointerRuns m d before l x m' l'
      → {r : ℕ} {frame' : List ℕ} → ReportsExecuted number_of x.executed frame r frame' → (out : List ℕ) {out' : List ℕ} → out' ≡ read_value x.executed.status x.bytes_read out
      → PointerExecutes m (LoadPointer f g p) frame l fits r out' m' frame' l'
  pointer_executes fit {d} q {before} {m'} {l'} x runs t out {out'} e =
      let does = runs.runs.does in
      let never = no_read_stop m f g p x.executed x.bytes_read l' (does.answer ∙ ap (answer_of m) q) in
      let told : RunsWith (pointer_value out') m d before l x.executed m' l' =
      record {
        does = record {
          answer = told_read x.executed.status x.bytes_read out e never x.executed.frame (registers_from l') ∙ does.answer;
          kept = does.kept;
          changed = does.changed;
        };
        refusal = runs.runs.refusal;
      } in
      executes_with (λ P y r. stop_read_is r y (get_or out' 0 0) refl) fit load_pointer q x.executed told t (λ k s _. absurd (never k s))

pub read_kept : {N : Type 0} (number : N → ℕ) (s : ExecutionStatus N) (n : ℕ) (out : List ℕ) {out' : List ℕ} {r : ℕ} → out' ≡ read_value s n out → r ≡ executed_status number s → (r ≡ 0 → ⊥) → out' ≡ out
read_kept number Running n out e q z = absurd (z q)
read_kept number (SuspendedOnHook k) n out e q z = e
read_kept number Panicked n out e q z = e
read_kept number (Refused k) n out e q z = e

-- ---- the calls as they are made
pub load_is : {area area' : Area} {f f' : Frame} {g : Registers} {p p' : LoadPlaces} → area ≡ area' → f ≡ f' → p ≡ p' → Load area f g p ≡ Load area' f' g p'
load_is {g = g} d e q = λ i. Load (d i) (e i) g (q i)

pub store_is : {area area' : Area} {f f' : Frame} {g : Registers} {p p' : StorePlaces} {kernel : Bool} {h h' : Hook} → area ≡ area' → f ≡ f' → p ≡ p' → h ≡ h' → Store area f g p kernel h ≡ Store area' f' g p' kernel h'
store_is {g = g} {kernel = kernel} d e q k = λ i. Store (d i) (e i) g (q i) kernel (k i)

pub pointer_is : {f f' : Frame} {g : Registers} {p p' : LoadPlaces} → f ≡ f' → p ≡ p' → LoadPointer f g p ≡ LoadPointer f' g p'
pointer_is {g = g} e q = λ i. LoadPointer (e i) g (q i)

pub static_is : {f f' : Frame} {g : Registers} {p p' : LoadPlaces} → f ≡ f' → p ≡ p' → LoadStatic f g p ≡ LoadStatic f' g p'
static_is {g = g} e q = λ i. LoadStatic (e i) g (q i)

pub static_store_is : {f f' : Frame} {g : Registers} {p p' : StorePlaces} {kernel : Bool} → f ≡ f' → p ≡ p' → StoreStatic f g p kernel ≡ StoreStatic f' g p' kernel
static_store_is {g = g} {kernel = kernel} e q = λ i. StoreStatic (e i) g (q i) kernel
