-- What a load or a store that is carried out leaves of its frame: its access was paid, and its frame is the one that the access leaves.
-- Assumes nothing.
use mathlib.Core.Path.{◌≡◌, refl, sym, ap, ◌∙◌, subst}
use mathlib.Core.Bool.{Bool, true, false, not, false≢true, true≢false}
use mathlib.Core.List.{List, [], ◌∷◌, ◌++◌}
use Prim.Native.Nat.{ℕ}
use borrow.Author.Tests.{not-false}
use Rattle.outcome.specs.Outcome.{Outcome, refused, panicked, done, carried_out, first_of}
use Rattle.registers.specs.declared.LoadPlaces.{LoadPlaces}
use Rattle.registers.specs.declared.StorePlaces.{StorePlaces}
use Rattle.registers.specs.Registers.{Registers, register_number, source_of, value_of, load_takes, store_takes}
use Rattle.state.specs.declared.Frame.{Frame}
use Rattle.state.specs.declared.Growth.{Growth}
use Rattle.state.specs.declared.Area.{Area}
use Rattle.state.specs.declared.Area.TheVariants.{Heap, Aux}
use Rattle.state.specs.Access.{accessed, bound_of, frame_accessed}
use Rattle.state.proofs.Laws.{Pays, accessed_paid}
use Rattle.store.specs.Mem.{Mem}
use Rattle.formed.specs.Formed.{well_formed}
use Rattle.view.specs.View.{setting_of, view_of}
use Rattle.view.specs.Checks.{Check}
use Rattle.view.specs.Instructions.{Hook, Executed, access_checks, store_checks, loaded, stored, place_checks, loaded_into, stored_into, panicked_into}
use Rattle.view.specs.Calls.{Value, Load, Store, nothing, executed, pointer_loaded, partial_word, number, lengths, bytes, verdict, answer_of}
use Rattle.plain.proofs.Tests.{Clear, clear}
use Rattle.growth.specs.Charges.{same_area}

-- ---- a call that is carried out has the definition's value
-- each condition has a refusal or a panic beside it
abbrev pub NoneDone : List (Check Value) → Type 0
NoneDone [] = Unit {0}
NoneDone ((b, refused n) ∷ rest) = NoneDone rest
NoneDone ((b, panicked a) ∷ rest) = NoneDone rest
NoneDone ((b, done a) ∷ rest) = ⊥

pub is_done : (checks : List (Check Value)) (a : Value) → NoneDone checks → carried_out (first_of checks (done a)) ≡ true → first_of checks (done a) ≡ done a
is_done [] a n e = refl
is_done ((true, refused k) ∷ rest) a n e = absurd (false≢true e)
is_done ((false, refused k) ∷ rest) a n e = is_done rest a n e
is_done ((true, panicked x) ∷ rest) a n e = absurd (false≢true e)
is_done ((false, panicked x) ∷ rest) a n e = is_done rest a n e
is_done ((b, done x) ∷ rest) a n e = absurd n

-- the frame of a value, and of an outcome; f where there is none
abbrev frame_given : Frame → Value → Frame
frame_given f (executed r) = r.frame
frame_given f (pointer_loaded r n) = r.frame
frame_given f nothing = f
frame_given f (number n) = f
frame_given f (partial_word w n) = f
frame_given f (lengths heap aux) = f
frame_given f (bytes bs) = f
frame_given f (verdict b) = f

abbrev pub frame_told : Frame → Outcome Value → Frame
frame_told f (refused n) = f
frame_told f (panicked v) = frame_given f v
frame_told f (done v) = frame_given f v

-- ---- loads and stores
-- the access of an area at x, given the frame f, is paid and leaves the frame g
pub record Paid (area : Area) (x : ℕ) (f g : Frame) : Type 0 where
  pub paid : (frame_accessed f area x).paid ≡ true
  pub frame : g ≡ (frame_accessed f area x).frame

-- an instruction that is carried out has passed its checks, and its frame is the definition's
passed : (r v : Executed) (checks : List (Check Value)) → NoneDone checks → done (executed r) ≡ first_of checks (done (executed v)) → Clear checks × (r.frame ≡ v.frame)
passed r v checks n e =
    let c : carried_out (first_of checks (done (executed v))) ≡ true = sym (ap carried_out e) in
    (clear checks (executed v) c, ap (frame_told v.frame) (e ∙ is_done checks (executed v) n c))

-- the check of the access is the third: the memory and the places are before it
module _ (m : Mem) (area : Area) (f : Frame) (g : Registers) where
  pub load_paid : (p : LoadPlaces) (r : Executed) → done (executed r) ≡ answer_of m (Load area f g p) → Paid area (source_of g p.source).word f r.frame
  load_paid p r e =
      let x = source_of g p.source in
      let checks : List (Check Value) = place_checks (load_takes p) ++ access_checks (λ i. executed (panicked_into g p.dst1 i)) area f x.word in
      let c = passed r (loaded_into g p (loaded (view_of m) area f x)) ((not (well_formed m), refused 3) ∷ checks) tt e in
      record { paid = not-false _ c.0.1.1.0; frame = c.1 }

  pub store_paid : (p : StorePlaces) (kernel : Bool) (h : Hook) (r : Executed) → done (executed r) ≡ answer_of m (Store area f g p kernel h)
      → Paid area (source_of g p.source).word f r.frame
  store_paid p kernel h r e =
      let x = source_of g p.source in
      let n = value_of kernel g (register_number p.value) in
      let checks : List (Check Value) = place_checks (store_takes p) ++ store_checks (λ i. executed (panicked_into g p.dst1 i)) (setting_of m) (view_of m) area f x.word n h in
      let c = passed r (stored_into g p (stored area f x n h)) ((not (well_formed m), refused 3) ∷ checks) tt e in
      record { paid = not-false _ c.0.1.1.0; frame = c.1 }

-- ---- what the access moves
-- gas and bound of an area
abbrev pub growth_of : Area → Frame → Bool → Growth
growth_of area f paid = record { gas = f.gas; bound = bound_of f area; paid = paid }

-- an access on a frame is one on its gas and its area's bound
pub on_frame : (area : Area) (f : Frame) (x : ℕ) → accessed f.gas (bound_of f area) x ≡ growth_of area (frame_accessed f area x).frame (frame_accessed f area x).paid
on_frame Heap f x = refl
on_frame Aux f x = refl

other_stays : (area b : Area) (f : Frame) (x : ℕ) → same_area b area ≡ false → bound_of (frame_accessed f area x).frame b ≡ bound_of f b
other_stays Heap Heap f x n = absurd (true≢false n)
other_stays Heap Aux f x n = refl
other_stays Aux Heap f x n = refl
other_stays Aux Aux f x n = absurd (true≢false n)

module _ (area : Area) (x : ℕ) (f g : Frame) (p : Paid area x f g) where
  pub paid_is : growth_of area g true ≡ accessed f.gas (bound_of f area) x
  paid_is =
      ap (λ (h : Frame). growth_of area h true) p.frame
      ∙ ap (growth_of area (frame_accessed f area x).frame) (sym p.paid)
      ∙ sym (on_frame area f x)

  pub paid_pays : Pays f.gas (bound_of f area) x (growth_of area g true)
  paid_pays = subst (Pays f.gas (bound_of f area) x) (sym paid_is) (accessed_paid f.gas (bound_of f area) x (sym (ap (λ (r : Growth). r.paid) paid_is)))

  -- the other bound does not move
  pub paid_other : (b : Area) → same_area b area ≡ false → bound_of g b ≡ bound_of f b
  paid_other b n = ap (λ (h : Frame). bound_of h b) p.frame ∙ other_stays area b f x n
