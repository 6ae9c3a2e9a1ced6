-- The six numbers of a layout, and which check decides a comparison.
-- Assumes nothing.
use mathlib.Core.Path.{◌≡◌}
use mathlib.Core.Bool.{Bool, true, false, and_assoc}
use mathlib.Core.List.{List}
use Prim.Native.Nat.{ℕ}
use lib.Dec.{eqb}
use lib.ListN.{get_or}
use Rattle.outcome.specs.Outcome.{refused, done}
use Rattle.index.specs.Index.{all}
use Rattle.store.specs.Mem.{Mem, layout_of}
use Rattle.formed.specs.Formed.{well_formed}
use Rattle.formed.specs.WellFormed.{WellFormed}
use Rattle.formed.proofs.Meaning.{well_formed_passes}
use Rattle.view.specs.View.{view_of}
use Rattle.view.specs.Steps.{alike}
use Rattle.view.specs.Checks.{same_layout}
use Rattle.view.specs.Calls.{verdict, comparison_of}

-- ---- the layouts
pub layout_is : (l r : List ℕ) → all (λ i. eqb (get_or l i 0) (get_or r i 0)) 6 ≡ same_layout (layout_of l) (layout_of r)
unfolding all
layout_is l r = simp and_assoc

-- ---- the answers
module _ (m n : Mem) where
  pub left_ill : well_formed m ≡ false → refused 3 ≡ comparison_of m n
  left_ill f = rw f

  pub right_ill : well_formed m ≡ true → well_formed n ≡ false → refused 3 ≡ comparison_of m n
  right_ill f g = rw (f, g)

  module _ (f : WellFormed m) (g : WellFormed n) where
    pub layouts_differ : same_layout (layout_of m.words) (layout_of n.words) ≡ false → refused 1 ≡ comparison_of m n
    layouts_differ s = rw (well_formed_passes m f, well_formed_passes n g, s)

    pub decided : same_layout (layout_of m.words) (layout_of n.words) ≡ true → (b : Bool) → alike (view_of m) (view_of n) ≡ b → done (verdict b) ≡ comparison_of m n
    decided s b e = rw (well_formed_passes m f, well_formed_passes n g, s, e)
