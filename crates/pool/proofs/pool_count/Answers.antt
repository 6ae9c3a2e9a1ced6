use mathlib.Core.Path.{ap, ◌∙◌}
use Rattle.bits.specs.Bits.{ones_of}
use Rattle.pool.proofs.Pools.{lent_is, lent_few, lent_skip, lent_zeros}
use Rattle.pool.proofs.pool_count.Goals as goal

pub count-requires : goal.count-requires
count-requires c =
    (lent_few _ c.requires _ c.pool_place-at.ensures, lent_skip _ c.requires _ c.pool_place-at.ensures, lent_zeros _ c.requires _ c.pool_place-at.ensures)

pub returns : goal.returns
returns c =
    c.count.ensures ∙ ap ones_of (lent_is _ c.requires _ c.pool_place-at.ensures)
