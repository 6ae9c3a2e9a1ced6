-- Chains of tests.
-- Assumes nothing.
use mathlib.Core.Path.{◌≡◌, refl, sym}
use mathlib.Core.Logic.{◌⊎◌, inl, inr}
use mathlib.Core.Bool.{Bool, true, false, not, ◌&&◌, ◌||◌, false≢true}

-- a test that cannot hold
pub refute : (b : Bool) → (b ≡ true → ⊥) → false ≡ b
refute true h = absurd (h refl)
refute false h = refl

pub and_stop : (a b : Bool) → a ≡ false → false ≡ (a && b)
and_stop a b e = rw e

pub and_pass : (a b : Bool) → a ≡ true → b ≡ (a && b)
and_pass a b e = rw e

pub or_off : (a b : Bool) → a ≡ false → a || b ≡ true → b ≡ true
or_off true b e h = absurd (false≢true (sym e))
or_off false b e h = h

pub or_first : (a b : Bool) → a || b ≡ false → a ≡ false
or_first true b e = e
or_first false b e = refl

pub or_rest : (a b : Bool) → a || b ≡ false → b ≡ false
or_rest true b e = absurd (false≢true (sym e))
or_rest false b e = e

pub or_on : (a b : Bool) → b ≡ true → a || b ≡ true
or_on true b e = refl
or_on false b e = e

pub or_left : (a b : Bool) → a ≡ true → a || b ≡ true
or_left true b e = refl
or_left false b e = absurd (false≢true e)

pub or_either : (a b : Bool) → a || b ≡ true → (a ≡ true) ⊎ (b ≡ true)
or_either true b e = inl refl
or_either false b e = inr e

pub not_on : (a : Bool) → not a ≡ true → a ≡ false
not_on true e = sym e
not_on false e = refl
