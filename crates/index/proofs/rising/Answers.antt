use Rattle.std.proofs.Common.{◌<◌, refl, sym, length-take-le, get_or-take}
use Rattle.index.specs.Index.{key_before}
use Rattle.index.proofs.All.{all_none, all_more, all_fails}
use Rattle.index.proofs.Orders.{no_rise, rise, before_suc, past_table}
use Rattle.index.proofs.rising.Goals as goal

pub loop-s-init : goal.loop-s-init
unfolding key_before
loop-s-init c = (all_none _, refl)

pub returns-then-keys-s : goal.returns-then-keys-s
returns-then-keys-s c =
    let i = c.loop-s.s-index in
    let below : i < c.args.n = rw (length-take-le c.args.n c.args.order.now c.requires) at c.loop-s-test.true in
    sym (all_fails _ _ i below (past_table _ _ i (rw get_or-take at c.if-keys-s.true)))

pub returns-then-k-prev : goal.returns-then-k-prev
returns-then-k-prev c =
    let i = c.loop-s.s-index in
    let below : i < c.args.n = rw (length-take-le c.args.n c.args.order.now c.requires) at c.loop-s-test.true in
    sym (all_fails _ _ i below (no_rise _ _ i _ c.loop-s.invariant.1 (rw get_or-take at c.if-k-prev.true)))

pub loop-s-preserved : goal.loop-s-preserved
loop-s-preserved c =
    let i = c.loop-s.s-index in
    let below : i < c.args.n = rw (length-take-le c.args.n c.args.order.now c.requires) at c.loop-s-test.true in
    rw get_or-take (all_more _ i c.loop-s.invariant.0 (rise _ _ i _ c.loop-s.invariant.1 (rw get_or-take at c.if-k-prev.false)), before_suc _ _ i)
