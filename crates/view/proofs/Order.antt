-- 16 precedes an EraVM panic, and a panic the instruction's 4, 9, 10, 11, 14 and 15; what it leaves of frame and registers.
-- Assumes nothing.
use mathlib.Core.Path.{◌≡◌, refl, ap}
use mathlib.Core.Bool.{Bool, true, false}
use Prim.Native.Nat.{ℕ, ◌<◌}
use borrow.Author.Tests.{lt-ltb}
use Rattle.outcome.specs.Outcome.{Outcome, refused, panicked}
use Rattle.word.specs.Value.{last_address}
use Rattle.fat_pointer.specs.Pointer.{pointer_of}
use Rattle.state.specs.declared.Frame.{Frame}
use Rattle.state.specs.declared.Growth.{Growth}
use Rattle.state.specs.declared.Area.{Area}
use Rattle.state.specs.declared.Area.TheVariants.{Heap, Aux}
use Rattle.state.specs.Access.{with_growth, frame_accessed}
use Rattle.state.proofs.Laws.{accessed_short}
use Rattle.view.specs.View.{View, Setting}
use Rattle.registers.specs.declared.Place.{Place}
use Rattle.registers.specs.declared.LoadPlaces.{LoadPlaces}
use Rattle.registers.specs.declared.StorePlaces.{StorePlaces}
use Rattle.registers.specs.Registers.{Registers, Operand, source_of, load_takes, pointer_takes, store_takes}
use Rattle.view.specs.Instructions.{Hook, panic, panicked_into}
use Rattle.view.specs.Calls.{Value, Load, Store, LoadPointer, LoadStatic, StoreStatic, executed, outcome_of}

abbrev pub emptied : Frame → Frame
emptied f = record { gas = 0; heap = f.heap; aux = f.aux; heap_bound = f.heap_bound; aux_bound = f.aux_bound; panicked = f.panicked }

-- an access that is not paid leaves the frame with its gas emptied, and no more
pub unpaid : (f : Frame) (area : Area) (x : ℕ) → (frame_accessed f area x).paid ≡ false → (frame_accessed f area x).frame ≡ emptied f
unpaid f Heap x e = ap (λ (g : Growth). (with_growth f Heap g).frame) (accessed_short f.gas f.heap_bound x e)
unpaid f Aux x e = ap (λ (g : Growth). (with_growth f Aux g).frame) (accessed_short f.gas f.aux_bound x e)

-- an operand above the limit is not paid for
past : (f : Frame) (area : Area) (x : ℕ) → last_address < x → (frame_accessed f area x).paid ≡ false
past f Heap x l = rw (lt-ltb last_address x l) refl
past f Aux x l = rw (lt-ltb last_address x l) refl

-- whatever the memory, the page, the value, the mode and the hook are; x is the operand
module _ (s : Setting) (v : View) (f : Frame) (g : Registers) where
  -- ---- 16 precedes every panic
  module _ (p : LoadPlaces) where
    pub load_places_lem : (area : Area) → load_takes p ≡ false → outcome_of s (Load area f g p) v ≡ refused 16
    load_places_lem area e = rw e

    pub pointer_places : pointer_takes p ≡ false → outcome_of s (LoadPointer f g p) v ≡ refused 16
    pointer_places e = rw e

    pub load_static_places : load_takes p ≡ false → outcome_of s (LoadStatic f g p) v ≡ refused 16
    load_static_places e = rw e

  module _ (p : StorePlaces) (kernel : Bool) (e : store_takes p ≡ false) where
    pub store_places_lem : (area : Area) (h : Hook) → outcome_of s (Store area f g p kernel h) v ≡ refused 16
    store_places_lem area h = rw e

    pub store_static_places : outcome_of s (StoreStatic f g p kernel) v ≡ refused 16
    store_static_places = rw e

  -- ---- and a panic the other refusals; it clears dst1
  abbrev gone : Place → Frame → Outcome Value
  gone dst1 h = panicked (executed (panicked_into g dst1 (panic h)))

  module _ (p : LoadPlaces) where
    abbrev x : Operand
    x = source_of g p.source

    module _ (area : Area) (t : load_takes p ≡ true) where
      pub load_unpaid : (frame_accessed f area x.word).paid ≡ false → outcome_of s (Load area f g p) v ≡ gone p.dst1 (emptied f)
      load_unpaid e = rw (t, e) (ap (gone p.dst1) (unpaid f area x.word e))

      pub load_limit : last_address < x.word → outcome_of s (Load area f g p) v ≡ gone p.dst1 (emptied f)
      load_limit l = load_unpaid (past f area x.word l)

    -- without charge
    pub load_static_limit : load_takes p ≡ true → last_address < x.word → outcome_of s (LoadStatic f g p) v ≡ gone p.dst1 f
    load_static_limit t l = rw (t, lt-ltb last_address x.word l)

    module _ (t : pointer_takes p ≡ true) where
      pub untagged : x.tag ≡ false → outcome_of s (LoadPointer f g p) v ≡ gone p.dst1 f
      untagged e = rw (t, e)

      pub offset_limit : x.tag ≡ true → last_address < (pointer_of x.word).offset → outcome_of s (LoadPointer f g p) v ≡ gone p.dst1 f
      offset_limit e l = rw (t, e, lt-ltb last_address (pointer_of x.word).offset l)

  module _ (p : StorePlaces) (kernel : Bool) (t : store_takes p ≡ true) where
    abbrev y : Operand
    y = source_of g p.source

    module _ (area : Area) (h : Hook) where
      pub store_unpaid : (frame_accessed f area y.word).paid ≡ false → outcome_of s (Store area f g p kernel h) v ≡ gone p.dst1 (emptied f)
      store_unpaid e = rw (t, e) (ap (gone p.dst1) (unpaid f area y.word e))

      pub store_limit : last_address < y.word → outcome_of s (Store area f g p kernel h) v ≡ gone p.dst1 (emptied f)
      store_limit l = store_unpaid (past f area y.word l)

    pub store_static_limit : last_address < y.word → outcome_of s (StoreStatic f g p kernel) v ≡ gone p.dst1 f
    store_static_limit l = rw (t, lt-ltb last_address y.word l)
