-- GROWTH ADDS UP over every run of loads and stores in one frame, of any relation S (plain/specs/Claim.antt says what S is).
-- Assumes nothing.
use Rattle.std.specs.Prelude.{◌≡◌, Bool, true, false, cond, List, [], ◌∷◌, ℕ, ◌+◌, ◌-◌, ◌≤◌, max}
use Rattle.outcome.specs.Outcome.{done}
use Rattle.registers.specs.declared.LoadPlaces.{LoadPlaces}
use Rattle.registers.specs.declared.StorePlaces.{StorePlaces}
use Rattle.registers.specs.Registers.{Registers, source_of}
use Rattle.state.specs.declared.Frame.{Frame}
use Rattle.state.specs.declared.Area.{Area}
use Rattle.state.specs.declared.Area.TheVariants.{Heap, Aux}
use Rattle.state.specs.Access.{bound_of}
use Rattle.store.specs.Mem.{Mem}
use Rattle.view.specs.Instructions.{Hook, Executed}
use Rattle.view.specs.Calls.{Load, Store, executed}
use Rattle.plain.specs.Claim.{Steps}

-- ---- runs
-- A LOAD OR STORE that neither panics nor is refused, of an area at an address, on any memory, with any registers and places.
-- The address is the word at its source place.
-- It is given the frame f and leaves the frame g.
-- A store that stops on the hook is carried out, so it is one too
pub data LoadOrStore (S : Steps) : (area : Area) (address : ℕ) (f g : Frame) → Type 0 where
  by_load : {m m' : Mem} {area : Area} {f : Frame} {g : Registers} {p : LoadPlaces} {r : Executed}
      → S m (Load area f g p) (done (executed r)) m' → LoadOrStore S area (source_of g p.source).word f r.frame
  by_store : {m m' : Mem} {area : Area} {f : Frame} {g : Registers} {p : StorePlaces} {kernel : Bool} {h : Hook} {r : Executed}
      → S m (Store area f g p kernel h) (done (executed r)) m' → LoadOrStore S area (source_of g p.source).word f r.frame

-- its charge: the area, the address, and the amount
pub record Charge : Type 0 where
  pub area : Area
  pub address : ℕ
  pub amount : ℕ

-- the amount is the gas given less the gas left
abbrev pub charge_of : Area → ℕ → Frame → Frame → Charge
charge_of area address f g = record { area = area; address = address; amount = f.gas - g.gas }

-- A RUN: one or more of them, from the frame f to the frame g, each given the frame that the last one left; with their charges.
-- Each may be lent another memory, so calls that leave this frame as it is may come between.
-- Each may be lent other registers too: they are not handed on
pub data LoadsAndStores (S : Steps) : (f : Frame) (charges : List Charge) (g : Frame) → Type 0 where
  one : {area : Area} {a : ℕ} {f g : Frame} → LoadOrStore S area a f g → LoadsAndStores S f (charge_of area a f g ∷ []) g
  more : {area : Area} {a : ℕ} {f g h : Frame} {charges : List Charge}
      → LoadOrStore S area a f g → LoadsAndStores S g charges h → LoadsAndStores S f (charge_of area a f g ∷ charges) h

-- ---- one area of a run
abbrev pub same_area : Area → Area → Bool
same_area Heap Heap = true
same_area Heap Aux = false
same_area Aux Heap = false
same_area Aux Aux = true

-- the sum of its charges
unfoldable pub sum_of : Area → List Charge → ℕ
sum_of area [] = 0
sum_of area (c ∷ charges) = cond (same_area area c.area) c.amount 0 + sum_of area charges

-- its addresses
unfoldable pub addresses : Area → List Charge → List ℕ
addresses area [] = []
addresses area (c ∷ charges) = cond (same_area area c.area) (c.address ∷ addresses area charges) (addresses area charges)

-- the highest of them; `last_bound` takes it only where there is one
unfoldable pub highest : List ℕ → ℕ
highest [] = 0
highest (a ∷ list) = max a (highest list)

-- the larger of the first bound and the highest address + 32, or the first bound where the area was not accessed
abbrev pub last_bound : ℕ → List ℕ → ℕ
last_bound first [] = first
last_bound first (a ∷ list) = max first (highest (a ∷ list) + 32)

-- ---- THE CLAIM
pub record AddsUp (area : Area) (f : Frame) (charges : List Charge) (g : Frame) : Type 0 where
  -- the charges sum to the last bound less the first
  pub sum : sum_of area charges ≡ bound_of g area - bound_of f area
  -- the first is not above the last, so this is a true difference
  pub ordered : bound_of f area ≤ bound_of g area
  pub last : bound_of g area ≡ last_bound (bound_of f area) (addresses area charges)
  -- numbers have any size here: this follows from the operand limit
  pub limit : sum_of area charges ≤ 4294967295

pub record GrowthAddsUp (S : Steps) : Type 0 where
  -- heap and aux taken separately
  pub areas : {f g : Frame} {charges : List Charge} → LoadsAndStores S f charges g → (area : Area) → AddsUp area f charges g
  -- both sums and the gas left make the gas given
  pub gas : {f g : Frame} {charges : List Charge} → LoadsAndStores S f charges g → sum_of Heap charges + sum_of Aux charges + g.gas ≡ f.gas
