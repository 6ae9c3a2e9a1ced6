-- Growth adds up.
-- Assumes nothing.
use mathlib.Core.Path.{◌≡◌, refl, sym, ap, ◌∙◌, subst}
use mathlib.Core.Bool.{Bool, true, false, false≢true}
use mathlib.Core.List.{List, [], ◌∷◌}
use Prim.Native.Nat.{ℕ, ◌+◌, ◌≤◌, max}
use native.Mathlib.Omega.{arith}
use Rattle.word.specs.Value.{last_address}
use Rattle.state.specs.declared.Frame.{Frame}
use Rattle.state.specs.declared.Area.{Area}
use Rattle.state.specs.declared.Area.TheVariants.{Heap, Aux}
use Rattle.state.specs.Access.{bound_of}
use Rattle.plain.specs.Claim.{Steps}
use Rattle.growth.specs.Meet.{LoadsAndStoresMeet}
use Rattle.growth.specs.Charges.{LoadOrStore, by_load, by_store, Charge, charge_of, LoadsAndStores, one, more, same_area, sum_of, addresses, highest, last_bound, AddsUp, GrowthAddsUp}
use Rattle.growth.proofs.Carried.{Paid, load_paid, store_paid, paid_pays, paid_other}

-- ---- one area
-- what a run keeps of it
record Totals (area : Area) (f : Frame) (charges : List Charge) (g : Frame) : Type 0 where
  sum : sum_of area charges + bound_of f area ≡ bound_of g area
  last : bound_of g area ≡ last_bound (bound_of f area) (addresses area charges)
  within : highest (addresses area charges) ≤ last_address

none : (area : Area) (f : Frame) → Totals area f [] f
unfolding sum_of addresses highest
none area f = record { sum = omega arith; last = refl; within = omega arith }

-- an access at a before those of the list
last_before : (first a : ℕ) (list : List ℕ) → last_bound (max first (a + 32)) list ≡ last_bound first (a ∷ list)
unfolding highest
last_before first a [] = omega arith
last_before first a (b ∷ list) = omega arith

within_before : (a : ℕ) (list : List ℕ) → a ≤ last_address → highest list ≤ last_address → highest (a ∷ list) ≤ last_address
unfolding highest
within_before a list l k = omega arith

same_is : (b area : Area) → same_area b area ≡ true → area ≡ b
same_is Heap Heap e = refl
same_is Heap Aux e = absurd (false≢true e)
same_is Aux Heap e = absurd (false≢true e)
same_is Aux Aux e = refl

-- a load or store at a, before a run with these totals
module _ (b : Area) (a : ℕ) (f g h : Frame) (charges : List Charge) (k : Totals b g charges h) where
  own : Paid b a f g → same_area b b ≡ true → Totals b f (charge_of b a f g ∷ charges) h
  unfolding sum_of addresses
  own p e =
      let pays = paid_pays b a f g p in
      record {
        sum = rw e (let s = k.sum in let t = pays.top in let price = pays.price in omega arith);
        last = rw e (k.last ∙ ap (λ (x : ℕ). last_bound x (addresses b charges)) pays.top ∙ last_before (bound_of f b) a (addresses b charges));
        within = rw e (within_before a (addresses b charges) pays.within k.within);
      }

  other : (area : Area) → bound_of g b ≡ bound_of f b → same_area b area ≡ false → Totals b f (charge_of area a f g ∷ charges) h
  unfolding sum_of addresses
  other area z e = record {
    sum = rw e (let s = k.sum in omega arith);
    last = rw e (k.last ∙ ap (λ (x : ℕ). last_bound x (addresses b charges)) z);
    within = rw e k.within;
  }

  before : (area : Area) → Paid area a f g → Totals b f (charge_of area a f g ∷ charges) h
  before area p = go (same_area b area) refl
    where
      go : (t : Bool) → same_area b area ≡ t → Totals b f (charge_of area a f g ∷ charges) h
      go true e =
          let z = same_is b area e in
          subst (λ (x : Area). Paid x a f g → same_area b x ≡ true → Totals b f (charge_of x a f g ∷ charges) h) (sym z) own p e
      go false e = other area (paid_other area a f g p b e) e

-- the claim, from it
adds_up : {area : Area} {f g : Frame} {charges : List Charge} → Totals area f charges g → AddsUp area f charges g
adds_up {area} {f} {g} {charges} k =
    let s = k.sum in
    let most = at_most (addresses area charges) k.last k.within in
    record { sum = omega arith; ordered = omega arith; last = k.last; limit = omega arith }
  where
    -- the operand limit, and 32
    at_most : (list : List ℕ) → bound_of g area ≡ last_bound (bound_of f area) list → highest list ≤ last_address → bound_of g area ≤ max (bound_of f area) (last_address + 32)
    at_most [] e l = omega arith
    at_most (a ∷ list) e l = omega arith

-- ---- the gas of both
gas_before : (area : Area) (a : ℕ) (f g h : Frame) (charges : List Charge) → Paid area a f g → sum_of Heap charges + sum_of Aux charges + h.gas ≡ g.gas
    → sum_of Heap (charge_of area a f g ∷ charges) + sum_of Aux (charge_of area a f g ∷ charges) + h.gas ≡ f.gas
unfolding sum_of
gas_before Heap a f g h charges p e = let price = (paid_pays Heap a f g p).price in omega arith
gas_before Aux a f g h charges p e = let price = (paid_pays Aux a f g p).price in omega arith

gas_none : (f : Frame) → sum_of Heap [] + sum_of Aux [] + f.gas ≡ f.gas
unfolding sum_of
gas_none f = omega arith

-- ---- runs
module _ (S : Steps) (I : LoadsAndStoresMeet S) where
  paid : {area : Area} {a : ℕ} {f g : Frame} → LoadOrStore S area a f g → Paid area a f g
  paid (by_load {m} {area = area} {f = f} {g = g} {p = p} {r = r} s) = load_paid m area f g p r (I.loads s).answer
  paid (by_store {m} {area = area} {f = f} {g = g} {p = p} {kernel = kernel} {h = h} {r = r} s) = store_paid m area f g p kernel h r (I.stores s).answer

  totals : {f g : Frame} {charges : List Charge} → LoadsAndStores S f charges g → (area : Area) → Totals area f charges g
  totals {f} {g} (one {area = c} {a = a} x) area = before area a f g g [] (none area g) c (paid x)
  totals {f = f} {g = h} (more {area = c} {a = a} {g = g} {charges = charges} x rest) area = before area a f g h charges (totals rest area) c (paid x)

  gas : {f g : Frame} {charges : List Charge} → LoadsAndStores S f charges g → sum_of Heap charges + sum_of Aux charges + g.gas ≡ f.gas
  gas {f} {g} (one {area = c} {a = a} x) = gas_before c a f g g [] (paid x) (gas_none g)
  gas {f = f} {g = h} (more {area = c} {a = a} {g = g} {charges = charges} x rest) = gas_before c a f g h charges (paid x) (gas rest)

  pub growth_adds_up : GrowthAddsUp S
  growth_adds_up = record { areas = λ r area. adds_up (totals r area); gas = gas }
