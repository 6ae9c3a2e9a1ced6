-- A list whose places are all written.
-- Assumes nothing.
use mathlib.Core.Path.{◌≡◌, refl, ap, ◌∙◌}
use mathlib.Core.List.{List, [], ◌∷◌}
use Prim.Native.Nat.{ℕ, suc}
use native.Mathlib.Omega.{arith}
use lib.ListN.{length, set}

-- l with the numbers v written from place k on, one after the other
abbrev pub put : List ℕ → ℕ → List ℕ → List ℕ
put l k [] = l
put l k (y ∷ v) = put (set l k y) (suc k) v

later : (x : ℕ) (l : List ℕ) (k : ℕ) (v : List ℕ) → put (x ∷ l) (suc k) v ≡ x ∷ put l k v
later x l k [] = refl
later x l k (y ∷ v) = later x (set l k y) (suc k) v

pub overwritten : (v l : List ℕ) → length l ≡ length v → put l 0 v ≡ v
overwritten [] [] h = refl
overwritten [] (x ∷ l) h = absurd (omega arith)
overwritten (y ∷ v) [] h = absurd (omega arith)
overwritten (y ∷ v) (x ∷ l) h = later y l 0 v ∙ ap (λ (t : List ℕ). y ∷ t) (overwritten v l (omega arith))
