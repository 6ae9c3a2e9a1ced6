-- A QUOTE IS WHAT ITS LOADS PAY, one after another, a panicking one included, of any relation S (plain/specs/Claim.antt says what S is).
-- Assumes nothing.
use Rattle.std.specs.Prelude.{◌≡◌, List, [], ◌∷◌, ℕ, suc, ◌≤◌, ◌<◌, length}
use Rattle.outcome.specs.Outcome.{panicked, done}
use Rattle.registers.specs.declared.LoadPlaces.{LoadPlaces}
use Rattle.registers.specs.Registers.{Registers, source_of}
use Rattle.state.specs.declared.Frame.{Frame}
use Rattle.state.specs.declared.Area.{Area}
use Rattle.state.specs.Access.{bound_of}
use Rattle.state.specs.Quote.{end_of, quoted}
use Rattle.store.specs.Mem.{Mem}
use Rattle.view.specs.Instructions.{Executed}
use Rattle.view.specs.Calls.{Load, executed}
use Rattle.plain.specs.Claim.{Steps}

-- Loads of one area at the addresses of a list, one after another, up to the first that panics.
-- The address of a load is the word at its source place.
-- Each is given the frame that the last one left, and any memory, registers and places: registers are not handed on.
-- The first frame is f and the last one h; n loads were carried out, so n is the position of the one that panicked, or the list's length
pub data LoadRun (S : Steps) (area : Area) : (f : Frame) (list : List ℕ) (n : ℕ) (h : Frame) → Type 0 where
  none : {f : Frame} → LoadRun S area f [] 0 f
  more : {m m' : Mem} {f h : Frame} {g : Registers} {p : LoadPlaces} {r : Executed} {list : List ℕ} {n : ℕ}
      → S m (Load area f g p) (done (executed r)) m' → LoadRun S area r.frame list n h → LoadRun S area f ((source_of g p.source).word ∷ list) (suc n) h
  ends : {m m' : Mem} {f : Frame} {g : Registers} {p : LoadPlaces} {r : Executed} {list : List ℕ}
      → S m (Load area f g p) (panicked (executed r)) m' → LoadRun S area f ((source_of g p.source).word ∷ list) 0 r.frame

pub record QuoteOfLoads (S : Steps) : Type 0 where
  -- the quote of at most 4,096 addresses, with a frame's gas and its area's bound, is the gas that loads of them spend, the bound that they reach, and
  -- where they end
  pub equals : {area : Area} {f h : Frame} {list : List ℕ} {n : ℕ} → length list ≤ 4096 → LoadRun S area f list n h
      → quoted list f.gas (bound_of f area) ≡ done (end_of f.gas h.gas (bound_of h area) n)
  -- loads leave no more gas than they are given, so that what is spent is a true difference
  pub falls : {area : Area} {f h : Frame} {list : List ℕ} {n : ℕ} → LoadRun S area f list n h → h.gas ≤ f.gas
  -- loads that end before the list does leave no gas: a panic spends all of it
  pub empties : {area : Area} {f h : Frame} {list : List ℕ} {n : ℕ} → LoadRun S area f list n h → n < length list → h.gas ≡ 0
