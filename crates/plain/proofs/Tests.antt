-- Facts on tests that the laws share: disjunctions, ranges of numbers, and the checks of a call that is carried out.
-- Assumes nothing.
use mathlib.Core.Path.{◌≡◌, refl, ap, ◌∙◌}
use mathlib.Core.Logic.{⊎_elim}
use mathlib.Core.List.{List, [], ◌∷◌}
use mathlib.Core.Bool.{Bool, true, false, ◌&&◌, ◌||◌, and-or_distrib_left, false≢true}
use Prim.Native.Nat.{ℕ, suc, ◌+◌, ◌≤◌, ◌<◌}
use native.Mathlib.Omega.{arith}
use lib.Dec.{leb, ltb, eqb}
use borrow.Author.Tests.{lt-ltb, le-ltb, le-leb, lt-leb, eq-eqb, ne_eqb}
use Rattle.index.proofs.Logic.{same_or_not, lt_or_ge}
use Rattle.outcome.specs.Outcome.{Outcome, refused, panicked, done, carried_out, first_of}

-- a test that follows adds nothing
pub or_absorb : (x h : Bool) → (x ≡ true → h ≡ true) → h ≡ x || h
or_absorb true h f = f refl
or_absorb false h f = refl

pub or_neither : (a b : Bool) → a ≡ false → b ≡ false → a || b ≡ false
or_neither a b p q = rw (p, q)

-- ---- the numbers from k to k + n
-- none where n is 0
pub range_none : (t : Bool) (k j : ℕ) → (t && (leb k j && ltb j (k + 0))) ≡ false
range_none false k j = refl
range_none true k j = ⊎_elim (λ (l : j < k). rw (lt-leb k j l)) (λ (g : k ≤ j). rw (le-leb k j g) (le-ltb j (k + 0) (omega arith))) (lt_or_ge j k)

-- one more, at the end
pub range_more : (t : Bool) (k n j : ℕ) → (t && (leb k j && ltb j (k + suc n))) ≡ (t && eqb j (k + n)) || (t && (leb k j && ltb j (k + n)))
range_more t k n j = ap (λ (b : Bool). t && b) last ∙ and-or_distrib_left t (eqb j (k + n)) (leb k j && ltb j (k + n))
  where
    last : (leb k j && ltb j (k + suc n)) ≡ eqb j (k + n) || (leb k j && ltb j (k + n))
    last =
        ⊎_elim
        (λ (e : j ≡ k + n). rw (eq-eqb j (k + n) e, le-leb k j (omega arith), lt-ltb j (k + suc n) (omega arith)))
        (λ (ne : j ≡ k + n → ⊥).
        rw (ne_eqb j (k + n) ne)
        (⊎_elim
        (λ (l : j < k + n). rw (lt-ltb j (k + n) l, lt-ltb j (k + suc n) (omega arith)))
        (λ (g : k + n ≤ j). rw (le-ltb j (k + n) g, le-ltb j (k + suc n) (omega (arith, ne))))
        (lt_or_ge j (k + n))))
        (same_or_not j (k + n))

-- ---- a call that is carried out has passed its checks
abbrev pub Clear : {A : Type 0} → List (Bool × Outcome A) → Type 0
Clear [] = Unit {0}
Clear ((b, refused n) ∷ rest) = (b ≡ false) × Clear rest
Clear ((b, panicked a) ∷ rest) = (b ≡ false) × Clear rest
Clear ((b, done a) ∷ rest) = Unit {0}

pub clear : {A : Type 0} (checks : List (Bool × Outcome A)) (a : A) → carried_out (first_of checks (done a)) ≡ true → Clear checks
clear [] a e = tt
clear ((true, refused n) ∷ rest) a e = absurd (false≢true e)
clear ((false, refused n) ∷ rest) a e = (refl, clear rest a e)
clear ((true, panicked x) ∷ rest) a e = absurd (false≢true e)
clear ((false, panicked x) ∷ rest) a e = (refl, clear rest a e)
clear ((b, done x) ∷ rest) a e = tt
