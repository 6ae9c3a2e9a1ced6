-- The first check that holds, in lists of refusals that are joined.
-- Assumes nothing.
use mathlib.Core.Path.{◌≡◌, refl, sym, ap}
use mathlib.Core.Bool.{Bool, true, false, ◌&&◌}
use mathlib.Core.List.{List, [], ◌∷◌, ◌++◌}
use Prim.Native.Nat.{ℕ}
use native.Mathlib.Omega.{arith}
use lib.Dec.{ltb}
use Rattle.view.proofs.Refused.{Refusals, end, next}
use Rattle.outcome.specs.Outcome.{Outcome, refused, first_of}
use Rattle.view.specs.View.{View, Setting}
use Rattle.view.specs.Checks.{Check, word_write_checks}
use Rattle.view.specs.Calls.{Value, first_refusal}
use Rattle.checks.proofs.Passed.{room_refusals}

-- ---- what decides, by its number
pub by_number : {checks : List (Check Value)} → Refusals checks → (n : ℕ) → n ≡ first_refusal checks → (n ≡ 0 → ⊥) → (o : Outcome Value) → first_of checks o ≡ refused n
by_number end n e z o = absurd (z e)
by_number (next {b = true} {n = k} r) n e z o = ap refused (sym e)
by_number (next {b = false} r) n e z o = by_number r n e z o

pub by_none : {checks : List (Check Value)} → Refusals checks → first_refusal checks ≡ 0 → (o : Outcome Value) → first_of checks o ≡ o
by_none end e o = refl
by_none (next {b = true} {n = k} r) e o = absurd (omega arith)
by_none (next {b = false} r) e o = by_none r e o

-- a last check that fails decides nothing
pub never_last : (checks : List (Check Value)) (never o : Outcome Value) → first_of (checks ++ ((false, never) ∷ [])) o ≡ first_of checks o
never_last [] never o = refl
never_last ((true, _) ∷ rest) never o = refl
never_last ((false, _) ∷ rest) never o = never_last rest never o

-- ---- more checks after them
module _ (rest : List (Check Value)) where
  pub more_number : {checks : List (Check Value)} → Refusals checks → (n : ℕ) → n ≡ first_refusal checks → (n ≡ 0 → ⊥) → n ≡ first_refusal (checks ++ rest)
  more_number end n e z = absurd (z e)
  more_number (next {b = true} r) n e z = e
  more_number (next {b = false} r) n e z = more_number r n e z

  pub more_none : {checks : List (Check Value)} → Refusals checks → first_refusal checks ≡ 0 → first_refusal rest ≡ first_refusal (checks ++ rest)
  more_none end e = refl
  more_none (next {b = true} {n = k} r) e = absurd (omega arith)
  more_none (next {b = false} r) e = more_none r e

-- ---- the refusals of a word write, and 15 after them
abbrev pub fifteen : Bool → ℕ → List (Check Value)
fifteen hit n = (hit && ltb 4294967295 n, refused 15) ∷ []

module _ (s : Setting) (v : View) (p a : ℕ) where
  pub write_refusals : Refusals (word_write_checks s v p a)
  write_refusals = next (room_refusals s v p a 32 1)

  module _ (hit : Bool) (n : ℕ) where
    pub store_refusals : Refusals (word_write_checks s v p a ++ fifteen hit n)
    store_refusals = next (next (next (next (next end))))
