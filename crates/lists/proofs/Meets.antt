-- What a step does: an opening its own contract, every other call the one that all share.
-- Assumes nothing.
use mathlib.Core.Path.{◌≡◌, refl, subst}
use mathlib.Core.Bool.{true}
use mathlib.Core.List.{List}
use Prim.Native.Nat.{ℕ}
use Rattle.outcome.specs.Outcome.{Outcome}
use Rattle.store.specs.Mem.{Mem}
use Rattle.formed.specs.Formed.{well_formed}
use Rattle.view.specs.View.{Setting}
use Rattle.view.specs.Calls.{Call, Value, Open, Lookup, CallDoes, OpenDoes}

-- a refused lookup shows an empty part, so a lookup meets the shared contract only on a well-formed memory
abbrev pub Shown : Mem → Call → Type 0
Shown m c = (p k : ℕ) (z : List ℕ) → c ≡ Lookup p k z → well_formed m ≡ true

-- an opening does its own; any other call what is shared
pub record Meets (m : Mem) (c : Call) (o : Outcome Value) (m' : Mem) : Type 0 where
  pub opens : (s : Setting) (calldata : List ℕ) → c ≡ Open s calldata → OpenDoes m s calldata o m'
  pub calls : ((s : Setting) (calldata : List ℕ) → c ≡ Open s calldata → ⊥) → Shown m c → CallDoes m c o m'

pub by_open : {m m' : Mem} {o : Outcome Value} (s : Setting) (calldata : List ℕ) → OpenDoes m s calldata o m' → Meets m (Open s calldata) o m'
by_open {m} {m'} {o} s calldata d = record {
  opens = λ t bs e.
      let a : s ≡ t = cc in
      let b : calldata ≡ bs = cc in
      subst (λ (x : Setting). OpenDoes m x bs o m') a (subst (λ (x : List ℕ). OpenDoes m s x o m') b d);
  calls = λ n. absurd (n s calldata refl);
}

pub by_call : {m m' : Mem} {o : Outcome Value} (c : Call) → ((s : Setting) (calldata : List ℕ) → c ≡ Open s calldata → ⊥) → (Shown m c → CallDoes m c o m') → Meets m c o m'
by_call c n d = record { opens = λ s calldata e. absurd (n s calldata e); calls = λ _. d }
