-- The rule of a lookup.
-- Assumes nothing.
use mathlib.Core.Path.{◌≡◌, refl, sym, ap, ◌∙◌}
use mathlib.Core.Bool.{Bool, true, false, cond, not, ◌&&◌, false≢true}
use mathlib.Core.List.{List, [], ◌∷◌}
use Prim.Native.Nat.{ℕ, ◌+◌, ◌*◌}
use native.Mathlib.Omega.{arith}
use lib.Dec.{eqb}
use lib.ListN.{length}
use Rattle.outcome.specs.Outcome.{Outcome, refused, done, carried_out, first_of}
use Rattle.store.specs.Mem.{Mem}
use Rattle.formed.specs.Formed.{well_formed, zeros}
use Rattle.formed.proofs.Same.{tab_long}
use Rattle.view.specs.View.{view_of}
use Rattle.view.specs.Steps.{run}
use Rattle.view.specs.Calls.{Value, nothing, LookupRule}

-- a list with an element is not empty
full : (xs : List ℕ) → length xs ≡ 256 → xs ≡ [] → ⊥
full xs l e = let z : ◌≡◌ {A = ℕ} 256 0 = sym l ∙ ap length e in omega arith

pub lookup_rule : (m : Mem) (p k : ℕ) (z : List ℕ) → LookupRule m p k z
lookup_rule m p k z = let r = go (well_formed m) (eqb (length z) 256 && zeros z) in record { refused_empty = r.0; empty_refused = r.1 }
  where
    said : Bool → Bool → Outcome Value
    said f b = first_of ((not f, refused 3) ∷ []) (first_of ((not b, refused 8) ∷ []) (done nothing))

    part : Bool → Bool → List ℕ
    part f b = cond f (cond b (run (view_of m) p (256 * k) 256) []) []

    go : (f b : Bool) → (carried_out (said f b) ≡ false → part f b ≡ []) × (part f b ≡ [] → carried_out (said f b) ≡ false)
    go true true = (
      λ e. absurd (false≢true (sym e)),
      λ e. absurd (full (run (view_of m) p (256 * k) 256) (tab_long 256 (λ i. (view_of m).bytes p (256 * k + i))) e),
    )
    go true false = (λ e. refl, λ e. refl)
    go false b = (λ e. refl, λ e. refl)
