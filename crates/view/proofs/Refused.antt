-- Lists of checks: the number of the first refusal, and the contract of a call that is refused or passes them all.
-- Assumes nothing.
use mathlib.Core.Path.{◌≡◌, refl, sym, ap, ◌∙◌}
use mathlib.Core.Bool.{Bool, true, false, true≢false, false≢true}
use mathlib.Core.List.{List, [], ◌∷◌}
use Prim.Native.Nat.{ℕ, suc}
use native.Mathlib.Omega.{arith}
use Rattle.outcome.specs.Outcome.{Outcome, refused, panicked, done, carried_out, first_of, refusal_number}
use Rattle.store.specs.Mem.{Mem}
use Rattle.formed.specs.Formed.{well_formed}
use Rattle.formed.specs.WellFormed.{WellFormed}
use Rattle.formed.proofs.Meaning.{well_formed_passes}
use Rattle.view.specs.View.{View, Setting}
use Rattle.view.specs.Checks.{Check, on_memory}
use Rattle.view.specs.Does.{Does, Shows}
use Rattle.view.specs.Calls.{Call, Value, CallDoes, nothing, first_refusal}

-- a check that holds gives its number; one that does not leaves it to the rest
pub first_holds : (b : Bool) (n : ℕ) (rest : List (Check Value)) → b ≡ true → n ≡ first_refusal ((b, refused n) ∷ rest)
first_holds b n rest e = rw e refl

pub first_fails : (b : Bool) (o : Outcome Value) (rest : List (Check Value)) → b ≡ false → first_refusal rest ≡ first_refusal ((b, o) ∷ rest)
first_fails b o rest e = rw e refl

-- where no number is given, the check fails and none of the rest gives one
pub none_first : (b : Bool) (n : ℕ) (rest : List (Check Value)) → first_refusal ((b, refused (suc n)) ∷ rest) ≡ 0 → (b ≡ false) × (first_refusal rest ≡ 0)
none_first true n rest e = absurd (omega arith)
none_first false n rest e = (refl, e)

-- a refusal is told by its number
pub refusal_told : (o : Outcome Value) (n : ℕ) → n ≡ refusal_number o → (n ≡ 0 → ⊥) → refused n ≡ o
refusal_told (refused m) n e z = ap refused e
refusal_told (panicked v) n e z = absurd (z e)
refusal_told (done v) n e z = absurd (z e)

-- ---- a list of refusals
pub data Refusals : List (Check Value) → Type 0 where
  end : Refusals []
  next : {b : Bool} {n : ℕ} {rest : List (Check Value)} → Refusals rest → Refusals ((b, refused (suc n)) ∷ rest)

pub none_done : {checks : List (Check Value)} → Refusals checks → first_refusal checks ≡ 0 → first_of checks (done nothing) ≡ done nothing
none_done end e = refl
none_done (next {b} {n} {rest} r) e = let h = none_first b n rest e in rw h.0 (none_done r h.1)

-- ---- the contract of a call
-- on a memory that is not well formed
pub ill_does : (m : Mem) (c : Call) → well_formed m ≡ false → CallDoes m c (refused 3) m
ill_does m c e = record { answer = rw e refl; kept = λ _. refl; changed = λ h. absurd (true≢false (sym h ∙ rw e refl)) }

-- on a well-formed one, refused or done
module _ (m : Mem) (formed : WellFormed m) (checks : List (Check Value)) (s : Setting) (v : View) where
  passes : on_memory m checks nothing ≡ first_of checks (done nothing)
  passes = rw (well_formed_passes m formed) refl

  pub refused_does : (n : ℕ) → n ≡ first_refusal checks → (n ≡ 0 → ⊥) → Does m (on_memory m checks nothing) s v (refused n) m
  refused_does n e z =
      let t = refusal_told (first_of checks (done nothing)) n e z ∙ sym passes in
      record { answer = t; kept = λ _. refl; changed = λ c. absurd (false≢true (ap carried_out t ∙ c)) }

  pub done_does : Refusals checks → first_refusal checks ≡ 0 → {m' : Mem} → Shows s v m' → Does m (on_memory m checks nothing) s v (done nothing) m'
  done_does r e shows =
      let t = passes ∙ none_done r e in
      record { answer = sym t; kept = λ c. absurd (false≢true (sym c ∙ ap carried_out t)); changed = λ _. shows }
