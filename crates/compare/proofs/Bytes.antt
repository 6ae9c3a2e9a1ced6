-- Numbers compared as slices, and one by one.
-- Assumes nothing.
use mathlib.Core.Path.{◌≡◌, sym, ap, ◌∙◌}
use mathlib.Core.Bool.{Bool}
use mathlib.Core.List.{List}
use Prim.Native.Nat.{ℕ, ◌<◌}
use native.Mathlib.Omega.{arith}
use lib.Dec.{eqb}
use lib.ListN.{length, get_or}
use lib.Seq.{ext_get_or}
use borrow.Author.Tests.{eq-eqb, eqb-true}
use Rattle.std.specs.Str.{bytes_eq}
use Rattle.std.proofs.lemmas.Slice.Eq.{bytes_eq-Decides}
use Rattle.index.specs.Index.{all}
use Rattle.index.proofs.All.{all_at, all_intro}
use Rattle.index.proofs.Logic.{both_ways}

-- n numbers on each side: f j and g j at j
module _ (xs ys : List ℕ) (f g : ℕ → ℕ) (n : ℕ) where
  abbrev each : ℕ → Bool
  each j = eqb (f j) (g j)

  pub same_numbers : length xs ≡ n → length ys ≡ n → ((j : ℕ) → j < n → get_or xs j 0 ≡ f j) → ((j : ℕ) → j < n → get_or ys j 0 ≡ g j) → bytes_eq xs ys ≡ all each n
  same_numbers k l left right =
      both_ways _ _
      (λ t. let e = (bytes_eq-Decides xs ys).0 t in all_intro each n (λ j h. eq-eqb _ _ (sym (left j h) ∙ ap (λ (zs : List ℕ). get_or zs j 0) e ∙ right j h)))
      (λ a. (bytes_eq-Decides xs ys).1 (ext_get_or 0 xs ys (k ∙ sym l) (λ j h. let u : j < n = omega arith in left j u ∙ eqb-true _ _ (all_at each n j a u) ∙ sym (right j u))))
