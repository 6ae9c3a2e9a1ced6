use Rattle.std.proofs.Common.{refl}
use Rattle.bits.proofs.Loops.{part_item}
use Rattle.pool.specs.Give.{repooled_all}
use Rattle.pool.proofs.Puts.{all_asks, all_more}
use Rattle.pool.proofs.put_slots.Goals as goal

pub loop-s-init : goal.loop-s-init
unfolding repooled_all
loop-s-init c = refl

pub put_slot-requires : goal.put_slot-requires
put_slot-requires c =
    let a = c.args in
    let h = part_item a.order.now a.from a.to c.requires.end c.loop-s.s-index c.loop-s-test.true in
    rw h.1 (all_asks a.words.now a.order.now a.from a.to c.requires c.loop-s.s-index h.0 c.loop-s.words c.loop-s.invariant)

pub loop-s-preserved : goal.loop-s-preserved
loop-s-preserved c =
    let a = c.args in
    let h = part_item a.order.now a.from a.to c.requires.end c.loop-s.s-index c.loop-s-test.true in
    all_more a.words.now a.order.now c.loop-s.words c.put_slot.new.words a.from c.loop-s.s-index c.loop-s.invariant (rw h.1 at c.put_slot.ensures)
