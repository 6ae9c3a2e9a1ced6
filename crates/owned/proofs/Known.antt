-- Instructions that a hint carries out: of registers alone, and without growth.
-- Assumes nothing.
use mathlib.Core.Path.{◌≡◌, refl, sym, ap, ◌∙◌, subst}
use mathlib.Core.Bool.{Bool, true, false, not, ◌&&◌, cond, false≢true, true≢false}
use mathlib.Core.List.{List, [], ◌∷◌}
use Prim.Native.Nat.{ℕ, ◌+◌, ◌%◌, ◌^◌, ◌≤◌}
use native.Mathlib.Omega.{arith}
use lib.Dec.{leb, ltb}
use borrow.Author.Tests.{le-leb, le-ltb, leb-true, ltb-false, not-true}
use Rattle.outcome.specs.declared.Refusal.{Refusal}
use Rattle.std.specs.Prelude.{Ok}
use Rattle.outcome.specs.Outcome.{done}
use Rattle.word.specs.declared.Word.{Word}
use Rattle.word.specs.Value.{value, big_endian, last_address}
use Rattle.word.proofs.Limbs.{no_limbs}
use Rattle.index.proofs.Logic.{and_left, and_right}
use Rattle.registers.specs.declared.Operand as code
use Rattle.registers.specs.declared.Place.{Place}
use Rattle.registers.specs.declared.Place.TheVariants.{Register}
use Rattle.registers.specs.declared.LoadPlaces.{LoadPlaces}
use Rattle.registers.specs.declared.StorePlaces.{StorePlaces}
use Rattle.registers.specs.Registers.{Registers, Operand, registers_from, operand_of, register_number, cleared, source_of, value_of, load_takes, store_takes, place_from, load_places_from, store_places_from}
use Rattle.state.specs.declared.Frame.{Frame}
use Rattle.state.specs.declared.Area.{Area}
use Rattle.state.specs.declared.Area.TheVariants.{Heap, Aux}
use Rattle.state.specs.declared.FrameStep.{FrameStep}
use Rattle.state.specs.Access.{new_bound, accessed, bound_of, with_growth, frame_accessed}
use Rattle.state.proofs.Laws.{no_wrap}
use Rattle.store.specs.Mem.{Mem}
use Rattle.formed.specs.WellFormed.{WellFormed}
use Rattle.view.specs.View.{view_of}
use Rattle.view.specs.Steps.{run}
use Rattle.view.specs.Instructions.{Hook, InstructionResult, running, heap_of, hooked, incremented, loaded_into, stored_into}
use Rattle.view.specs.Calls.{Load, Store, WriteWord, nothing, CallDoes}
use Rattle.execution.specs.declared.Execution.{Execution}
use Rattle.execution.specs.declared.ExecutionStatus.TheVariants.{Running, SuspendedOnHook}
use Rattle.execution.proofs.Laws.{address_is, load_done, load_ends, store_done, store_ends}
use Rattle.write_back.specs.Runs.{Runs}
use Rattle.write_back.proofs.Laws.{load_runs, store_runs}
use Rattle.write_back.proofs.Pieces.{writes_back}
use Rattle.owned.specs.Known.{paid_below, running_with, LoadKnown, WriteKnown, StoreKnown}

-- ---- nothing was done
pub load_unknown : {m : Mem} {l : List ℕ} {page bound : ℕ} {p : LoadPlaces} → LoadKnown m l page bound p false l
load_unknown = record { known = λ e. absurd (false≢true e); unknown = λ _. refl }

pub write_unknown : {m : Mem} {page address word : ℕ} → WriteKnown m page address word false m
write_unknown = record { known = λ e. absurd (false≢true e); unknown = λ _. refl }

pub store_unknown : {m m' : Mem} {l : List ℕ} {page bound : ℕ} {p : StorePlaces} {kernel : Bool} {h : Hook} → m' ≡ m → StoreKnown m l page bound p kernel h false m' l
store_unknown e = record { known = λ q. absurd (false≢true q); unknown = λ _. (e, refl) }

-- ---- registers
-- three numbers that are registers'
abbrev pub few : (source dst0 dst1 : ℕ) → Bool
few source dst0 dst1 = leb source 15 && (leb dst0 15 && leb dst1 15)

place_is : (n : ℕ) → leb n 15 ≡ true → place_from n ≡ Register n
place_is n e = let l = leb-true n 15 e in rw (le-leb n 65535 (omega arith)) refl

pub source_few : (source dst0 dst1 : ℕ) → few source dst0 dst1 ≡ true → leb source 15 ≡ true
source_few source dst0 dst1 e = and_left (leb source 15) _ e

pub load_takes_lem : (source dst0 dst1 : ℕ) (increment : Bool) {p : LoadPlaces} → few source dst0 dst1 ≡ true → p ≡ load_places_from source dst0 dst1 increment → load_takes p ≡ true
load_takes_lem source dst0 dst1 increment e q =
    let d = and_right (leb source 15) _ e in
    ap load_takes q ∙ rw (place_is source (and_left (leb source 15) _ e), place_is dst0 (and_left (leb dst0 15) _ d), place_is dst1 (and_right (leb dst0 15) _ d)) e

pub store_takes_lem : (source value dst0 dst1 : ℕ) (increment : Bool) {p : StorePlaces} → few source dst0 dst1 ≡ true → value ≤ 15 → p ≡ store_places_from source value dst0 dst1 increment → store_takes p ≡ true
store_takes_lem source value dst0 dst1 increment e v q =
    let d = and_right (leb source 15) _ e in
    let w = le-leb value 15 v in
    ap store_takes q
    ∙ rw (place_is source (and_left (leb source 15) _ e), place_is value w, place_is dst0 (and_left (leb dst0 15) _ d), place_is dst1 (and_right (leb dst0 15) _ d), w) e

-- ---- an access that pays nothing
pub far_is : (x bound : ℕ) → ltb last_address x ≡ true → false ≡ paid_below x bound
far_is x bound e = rw e refl

pub near_is : (x bound a : ℕ) → ltb last_address x ≡ false → a ≡ x % 2 ^ 32 → leb (a + 32) bound ≡ paid_below x bound
near_is x bound a e q = ap (λ (z : ℕ). leb (z + 32) bound) (q ∙ address_is x (ltb-false last_address x e)) ∙ sym (ap (λ (b : Bool). not b && leb (x + 32) bound) e)

pub near_sum : (x a : ℕ) → ltb last_address x ≡ false → a ≡ x % 2 ^ 32 → a + 32 ≤ 4294967295
near_sum x a e q =
    let l = ltb-false last_address x e in
    let k = q ∙ address_is x l in
    omega (arith, l, k)

module _ (x bound : ℕ) (paid : paid_below x bound ≡ true) where
  pub paid_near : x ≤ last_address
  paid_near = ltb-false last_address x (not-true (ltb last_address x) (and_left (not (ltb last_address x)) _ paid))

  paid_free : (gas : ℕ) → accessed gas bound x ≡ record { gas = gas; bound = bound; paid = true }
  paid_free gas =
      let l = paid_near in
      let new = no_wrap x l in
      let k = leb-true (x + 32) bound (and_right (not (ltb last_address x)) _ paid) in
      rw (le-ltb last_address x l, le-leb (new_bound x) bound (omega (arith, new, k))) refl

access_free : (f : Frame) (area : Area) (x : ℕ) → paid_below x (bound_of f area) ≡ true → frame_accessed f area x ≡ record { frame = f; paid = true }
access_free f Heap x e = ap (with_growth f Heap) (paid_free x f.heap_bound e f.gas)
access_free f Aux x e = ap (with_growth f Aux) (paid_free x f.aux_bound e f.gas)

-- ---- the instructions: y is the operand that was read, at the address a, and `next` the one that was written
module _ (m : Mem) (formed : WellFormed m) (l : List ℕ) (page bound source dst0 dst1 : ℕ) (increment : Bool) (regs : few source dst0 dst1 ≡ true) where
  abbrev g : Registers
  g = registers_from l

  module _ (y : Operand) (is : y ≡ source_of g (Register source)) (paid : paid_below y.word bound ≡ true) (a : ℕ) (address : a ≡ y.word % 2 ^ 32) (next : code.Operand) (l' : List ℕ) where
    free : (area : Area) (f : Frame) → bound_of f area ≡ bound → record { frame = f; paid = true } ≡ frame_accessed f area y.word
    free area f e = sym (access_free f area y.word (ap (paid_below y.word) e ∙ paid))

    source_is : {p : Place} → p ≡ place_from source → y ≡ source_of g p
    source_is e = is ∙ ap (source_of g) (sym (e ∙ place_is source (source_few source dst0 dst1 regs)))

    -- w is the word that was read
    pub load_known : (w : Word) → value w.limbs ≡ big_endian (run (view_of m) page a 32) → operand_of next ≡ record { word = incremented y.word; tag = y.tag }
        → (p : LoadPlaces) → p ≡ load_places_from source dst0 dst1 increment
        → ((x : InstructionResult) → x.word ≡ value w.limbs → x.operand ≡ operand_of next → registers_from l' ≡ (loaded_into g p x).registers)
        → LoadKnown m l page bound (load_places_from source dst0 dst1 increment) true l'
    load_known w e n p q written =
        subst (λ (z : LoadPlaces). LoadKnown m l page bound z true l') q (record { known = λ _. runs; unknown = λ t. absurd (true≢false t) })
      where
        runs : (area : Area) (f : Frame) → heap_of f area ≡ page → bound_of f area ≡ bound → Runs m (Load area f g p) f l (running_with f) m l'
        runs area f h b =
            let x : Execution Refusal = record { status = Running; word = w; operand = next; frame = f } in
            let s : FrameStep = record { frame = f; paid = true } in
            load_runs m formed f l (running_with f) x y l' p (source_is (ap (λ (z : LoadPlaces). z.source) q))
            (writes_back (λ (z : InstructionResult). cleared (register_number p.dst1) g) (λ (z : InstructionResult). (loaded_into g p z).registers) x l (running_with f) refl refl l' Running refl (written (record { word = value w.limbs; operand = operand_of next; frame = f; stop = running }) refl refl))
            area (load_takes_lem source dst0 dst1 increment regs q)
            (load_ends m f y s area (free area f b) page (sym h)
            (load_done m page y s (λ _. paid_near y.word bound paid) refl a address formed (value w.limbs) e x refl (λ i. record { word = value w.limbs; operand = n i; frame = f; stop = running })))

    -- the word k of register v was written
    pub store_known : (v : ℕ) → v ≤ 15 → (kernel : Bool) (h : Hook) (k : ℕ) → k ≡ value_of kernel g v → hooked h a ≡ false → (m' : Mem) → CallDoes m (WriteWord page a k) (done nothing) m'
        → operand_of next ≡ record { word = incremented y.word; tag = false }
        → (p : StorePlaces) → p ≡ store_places_from source v dst0 dst1 increment
        → ((x : InstructionResult) → x.operand ≡ operand_of next → registers_from l' ≡ (stored_into g p x).registers)
        → StoreKnown m l page bound (store_places_from source v dst0 dst1 increment) kernel h true m' l'
    store_known v few kernel h k e off m' d n p q written =
        subst (λ (z : StorePlaces). StoreKnown m l page bound z kernel h true m' l') q (record { known = λ _. runs; unknown = λ t. absurd (true≢false t) })
      where
        number_is : v ≡ register_number p.value
        number_is = sym (ap (λ (z : StorePlaces). register_number z.value) q ∙ ap register_number (place_is v (le-leb v 15 few)))

        runs : (area : Area) (f : Frame) → heap_of f area ≡ page → bound_of f area ≡ bound → Runs m (Store area f g p kernel h) f l (running_with f) m' l'
        runs area f page_is b =
            let x : Execution Refusal = record { status = Running; word = record { limbs = 0 ∷ 0 ∷ 0 ∷ 0 ∷ [] }; operand = next; frame = f } in
            let s : FrameStep = record { frame = f; paid = true } in
            store_runs m formed f l (running_with f) x y l' p kernel k (source_is (ap (λ (z : StorePlaces). z.source) q)) (e ∙ ap (value_of kernel g) number_is)
            (writes_back (λ (z : InstructionResult). cleared (register_number p.dst1) g) (λ (z : InstructionResult). (stored_into g p z).registers) x l (running_with f) refl refl l' Running refl (written (record { word = value x.word.limbs; operand = operand_of next; frame = f; stop = running }) refl))
            (store_takes_lem source v dst0 dst1 increment regs few q) m' area h
            (store_ends m f y s area (free area f b) page (sym page_is) k h
            (store_done m page y s (λ _. paid_near y.word bound paid) refl a address k h f formed (Ok tt) m' d false (ap (λ (t : Bool). t && ltb 4294967295 k) (sym off)) refl refl
            x Running 0 (ap (λ (t : Bool). cond t (SuspendedOnHook (k % 2 ^ 32)) Running) (sym off)) refl refl (λ i. record { word = no_limbs i; operand = n i; frame = f; stop = running })))
