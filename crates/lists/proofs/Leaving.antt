-- Loads and stores that are carried out have steps.
-- Assumes nothing.
use mathlib.Core.Path.{◌≡◌, refl, ap, ◌∙◌, subst}
use mathlib.Core.Bool.{Bool, true, false, cond, not}
use mathlib.Core.List.{List, ◌∷◌, ◌++◌}
use Prim.Native.Nat.{ℕ, ◌≤◌}
use native.Mathlib.Omega.{arith}
use Rattle.outcome.specs.Outcome.{Outcome, refused, panicked, done, carried_out}
use Rattle.registers.specs.declared.StorePlaces.{StorePlaces}
use Rattle.registers.specs.declared.Place.TheVariants.{Register}
use Rattle.registers.specs.Registers.{Registers, Operand, register_number, source_of, value_of, store_takes}
use Rattle.state.specs.declared.Frame.{Frame}
use Rattle.state.specs.declared.Area.{Area}
use Rattle.state.specs.Access.{frame_accessed}
use Rattle.store.specs.Mem.{Mem}
use Rattle.formed.specs.Formed.{well_formed}
use Rattle.view.specs.View.{setting_of, view_of}
use Rattle.view.specs.Checks.{Check}
use Rattle.view.specs.Instructions.{Hook, heap_of, panic, panicked_into, loaded_into, stored_into, place_checks, loaded, store_checks, stored}
use Rattle.view.specs.Calls.{Value, Load, Store, executed, answer_of}
use Rattle.growth.specs.Charges.{LoadOrStore, by_load, by_store}
use Rattle.growth.proofs.Carried.{is_done}
use Rattle.lists.specs.Steps.{PublicStep}
use Rattle.lists.specs.Goes.{Goes, Numbered}
use Rattle.lists.specs.Worked.{Leaves, numbers_at, registers_at, load_places, store_places}
use Rattle.lists.proofs.Instructions.{can_load, can_store}

-- the registers of the run worked out by hand: register 1 has the address, without a tag
pub numbered_at : (x : ℕ) → Numbered (registers_at x)
numbered_at x = record { numbers = numbers_at x; count = refl; are = refl }

pub word_at : (x : ℕ) → (source_of (registers_at x) (Register 1)).word ≡ x
word_at x = omega arith

module _ (m : Mem) (w : well_formed m ≡ true) (area : Area) where
  -- a load's answer, by whether its access is paid
  abbrev pub answer : Frame → ℕ → Bool → Outcome Value
  answer f x p =
      let y = source_of (registers_at x) (Register 1) in
      cond (not p) (panicked (executed (panicked_into (registers_at x) (Register 4) (panic (frame_accessed f area y.word).frame))))
      (done (executed (loaded_into (registers_at x) load_places (loaded (view_of m) area f y))))

  pub load_is : (f : Frame) (x : ℕ) → answer_of m (Load area f (registers_at x) load_places) ≡ answer f x (frame_accessed f area x).paid
  load_is f x =
      ap (λ (b : Bool). cond (not b) (refused 3) (answer f x (frame_accessed f area (source_of (registers_at x) (Register 1)).word).paid)) w
      ∙ ap (λ (n : ℕ). answer f x (frame_accessed f area n).paid) (word_at x)

  pub load_step : (f : Frame) (x : ℕ) {o : Outcome Value} → answer_of m (Load area f (registers_at x) load_places) ≡ o → PublicStep m (Load area f (registers_at x) load_places) o m
  load_step f x e = subst (λ (o : Outcome Value). PublicStep m (Load area f (registers_at x) load_places) o m) e (can_load f (registers_at x) (numbered_at x) load_places area m)

  pub load_leaves : (f : Frame) (x : ℕ) → (frame_accessed f area x).paid ≡ true → Leaves m (Load area f (registers_at x) load_places) (frame_accessed f area x).frame m
  load_leaves f x p = record {
    result = loaded_into (registers_at x) load_places (loaded (view_of m) area f (source_of (registers_at x) (Register 1)));
    step = load_step f x (load_is f x ∙ ap (answer f x) p);
    frame = ap (λ (n : ℕ). (frame_accessed f area n).frame) (word_at x);
  }

module _ (m : Mem) (area : Area) (f : Frame) (g : Registers) (p : StorePlaces) (kernel : Bool) (h : Hook) where
  abbrev operand : Operand
  operand = source_of g p.source

  abbrev value : ℕ
  value = value_of kernel g (register_number p.value)

  pub store_goes : Numbered g → heap_of f area ≤ 4294967295 → carried_out (answer_of m (Store area f g p kernel h)) ≡ true
      → Goes m (Store area f g p kernel h) (done (executed (stored_into g p (stored area f operand value h))))
  store_goes k page c =
      let checks : List (Check Value) =
      (not (well_formed m), refused 3) ∷ (place_checks (store_takes p) ++ store_checks (λ r. executed (panicked_into g p.dst1 r)) (setting_of m) (view_of m) area f operand.word value h) in
      subst (λ (o : Outcome Value). Goes m (Store area f g p kernel h) o) (is_done checks (executed (stored_into g p (stored area f operand value h))) tt c) (can_store f g k p kernel area h page m)

-- ---- of a run
pub leaves_load : {m m' : Mem} {area : Area} {f f' : Frame} (x : ℕ) → Leaves m (Load area f (registers_at x) load_places) f' m' → LoadOrStore PublicStep area x f f'
leaves_load {area = area} {f = f} {f' = f'} x l =
    subst (λ (n : ℕ). LoadOrStore PublicStep area n f f') (word_at x)
    (subst (LoadOrStore PublicStep area (source_of (registers_at x) (Register 1)).word f) l.frame (by_load {g = registers_at x} {p = load_places} l.step))

pub leaves_store : {m m' : Mem} {area : Area} {f f' : Frame} (x : ℕ) {h : Hook} → Leaves m (Store area f (registers_at x) store_places false h) f' m' → LoadOrStore PublicStep area x f f'
leaves_store {area = area} {f = f} {f' = f'} x {h} l =
    subst (λ (n : ℕ). LoadOrStore PublicStep area n f f') (word_at x)
    (subst (LoadOrStore PublicStep area (source_of (registers_at x) (Register 1)).word f) l.frame (by_store {g = registers_at x} {p = store_places} {kernel = false} {h = h} l.step))
