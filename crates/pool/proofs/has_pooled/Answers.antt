use mathlib.Core.Path.{ap, ◌∙◌}
use mathlib.Core.List.{List}
use Prim.Native.Nat.{ℕ}
use lib.Dec.{leb}
use Rattle.bits.specs.Bits.{ones_of}
use Rattle.pool.proofs.Pools.{lent_is, lent_few, lent_skip, lent_zeros}
use Rattle.pool.proofs.has_pooled.Goals as goal

pub has_ones-requires : goal.has_ones-requires
has_ones-requires c =
    (lent_few _ c.requires _ c.pool_place-at.ensures, lent_skip _ c.requires _ c.pool_place-at.ensures, lent_zeros _ c.requires _ c.pool_place-at.ensures)

pub returns : goal.returns
returns c =
    c.has_ones.ensures ∙ ap (λ (x : List ℕ). leb c.args.n (ones_of x)) (lent_is _ c.requires _ c.pool_place-at.ensures)
