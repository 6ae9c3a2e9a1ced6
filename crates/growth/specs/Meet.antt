-- What the claims of this crate know of a relation S (plain/specs/Claim.antt says what S is).
-- Assumes nothing.
use Rattle.std.specs.Prelude.{Bool}
use Rattle.outcome.specs.Outcome.{Outcome}
use Rattle.registers.specs.declared.LoadPlaces.{LoadPlaces}
use Rattle.registers.specs.declared.StorePlaces.{StorePlaces}
use Rattle.registers.specs.Registers.{Registers}
use Rattle.state.specs.declared.Frame.{Frame}
use Rattle.state.specs.declared.Area.{Area}
use Rattle.store.specs.Mem.{Mem}
use Rattle.view.specs.Instructions.{Hook}
use Rattle.view.specs.Calls.{Value, Load, Store, CallDoes}
use Rattle.plain.specs.Claim.{Steps}

-- loads and stores meet their contracts, on any buffers, well formed or not
pub record LoadsAndStoresMeet (S : Steps) : Type 0 where
  pub loads : {m m' : Mem} {area : Area} {f : Frame} {g : Registers} {p : LoadPlaces} {o : Outcome Value} → S m (Load area f g p) o m' → CallDoes m (Load area f g p) o m'
  pub stores : {m m' : Mem} {area : Area} {f : Frame} {g : Registers} {p : StorePlaces} {kernel : Bool} {h : Hook} {o : Outcome Value}
      → S m (Store area f g p kernel h) o m' → CallDoes m (Store area f g p kernel h) o m'
