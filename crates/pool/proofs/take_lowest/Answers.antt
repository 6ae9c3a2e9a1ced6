use mathlib.Core.Path.{ap, ◌∙◌}
use native.Mathlib.Omega.{arith}
use Rattle.bits.specs.Bits.{lowest_of}
use Rattle.pool.proofs.Pools.{lent_is, lent_few, lent_skip, lent_zeros, clear_asks, cleared}
use Rattle.pool.proofs.take_lowest.Goals as goal

pub lowest-s-requires : goal.lowest-s-requires
lowest-s-requires c =
    let e = lent_is _ c.requires.0 _ c.pool_place-at.ensures in
    (lent_few _ c.requires.0 _ c.pool_place-at.ensures, rw e c.requires.1, lent_skip _ c.requires.0 _ c.pool_place-at.ensures, lent_zeros _ c.requires.0 _ c.pool_place-at.ensures)

pub clear-requires : goal.clear-requires
clear-requires c =
    clear_asks _ c.requires.0 _ c.pool_place-at.ensures (λ i. omega (arith, c.slice_known-1.given i)) c.requires.1 _ (c.lowest-s.ensures ∙ ap lowest_of (lent_is _ c.requires.0 _ c.pool_place-at.ensures))

pub returns : goal.returns
returns c =
    (c.lowest-s.ensures ∙ ap lowest_of (lent_is _ c.requires.0 _ c.pool_place-at.ensures), cleared _ c.requires.0 _ c.pool_place-at.ensures _ _ c.clear.ensures)
