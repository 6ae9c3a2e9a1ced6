-- Facts on tests and numbers that the laws share.
-- Assumes nothing.
use mathlib.Core.Path.{◌≡◌, refl, sym, ◌∙◌}
use mathlib.Core.Logic.{◌⊎◌, inl, inr}
use mathlib.Core.Bool.{Bool, true, false, ◌&&◌, false≢true, and-false}
use Prim.Native.Nat.{ℕ, ◌≤◌, ◌<◌}
use native.Mathlib.Nat.{le_of_suc-le-suc, lt_of_not-le}
use native.Mathlib.Decide.{ℕ_discrete, dec_lt}
use native.Mathlib.Omega.{arith}

pub and_left : (a b : Bool) → a && b ≡ true → a ≡ true
and_left true b e = refl
and_left false b e = e

pub and_right : (a b : Bool) → a && b ≡ true → b ≡ true
and_right true b e = e
and_right false b e = absurd (false≢true e)

split : {a b : ℕ} → Dec (a ≡ b) → (a ≡ b) ⊎ (a ≡ b → ⊥)
split (yes p) = inl p
split (no q) = inr q

pub same_or_not : (a b : ℕ) → (a ≡ b) ⊎ (a ≡ b → ⊥)
same_or_not a b = split (ℕ_discrete a b)

pub le_of_not_lt : {m n : ℕ} → (m < n → ⊥) → n ≤ m
le_of_not_lt h = le_of_suc-le-suc (lt_of_not-le h)

below : {a b : ℕ} → Dec (a < b) → (a < b) ⊎ (b ≤ a)
below (yes p) = inl p
below (no q) = inr (le_of_not_lt q)

pub lt_or_ge : (a b : ℕ) → (a < b) ⊎ (b ≤ a)
lt_or_ge a b = below (dec_lt a b)

pub and_false_right : (a b : Bool) → b ≡ false → (a && b) ≡ false
and_false_right a b e = rw e (and-false a)

pub and_both : (a b : Bool) → a ≡ true → b ≡ true → (a && b) ≡ true
and_both a b p q = rw (p, q)

pub lt_by : {a b x y : ℕ} → a ≡ x → b ≡ y → x < y → a < b
lt_by p q h = omega arith

-- two tests that hold together are the same
pub both_ways : (a b : Bool) → (a ≡ true → b ≡ true) → (b ≡ true → a ≡ true) → a ≡ b
both_ways true b f g = sym (f refl)
both_ways false true f g = g refl
both_ways false false f g = refl

-- a test that cannot hold fails
pub not_held : (b : Bool) → (b ≡ true → ⊥) → b ≡ false
not_held true h = absurd (h refl)
not_held false h = refl

-- a test by a call: `if !call() {..}`
pub passed : {b x : Bool} → b ≡ x → b ≡ true → x ≡ true
passed e q = sym e ∙ q

pub failed : {b x : Bool} → b ≡ x → b ≡ false → x ≡ false
failed e q = sym e ∙ q
