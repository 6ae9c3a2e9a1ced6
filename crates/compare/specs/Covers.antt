-- One half of a comparison.
-- Assumes nothing.
use Rattle.std.specs.Prelude.{Bool, not, ◌&&◌, ◌||◌, ℕ, ◌/◌, eqb}
use Rattle.index.specs.Index.{all}
use Rattle.view.specs.View.{View}

-- page p: w has it too if v has, and w has the same byte wherever v holds a chunk
abbrev pub covers_page : View → View → ℕ → Bool
covers_page v w p = (not (v.allocated p) || w.allocated p) && all (λ a. not (v.held p (a / 256)) || eqb (v.bytes p a) (w.bytes p a)) 4294967327

-- w covers v: it has every page that v has, and the bytes of every chunk that v holds. Two views are alike where each covers the other
unfoldable pub covers : View → View → Bool
covers v w = all (covers_page v w) 4294967296
