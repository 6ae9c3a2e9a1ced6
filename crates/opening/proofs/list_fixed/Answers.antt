use Rattle.std.proofs.Common.{arith}
use Rattle.opening.proofs.Fixed.{first_none, first_asks, first_more, first_four}
use Rattle.opening.proofs.list_fixed.Goals as goal

pub loop-i-init : goal.loop-i-init
loop-i-init c = first_none c.args.words.now c.args.entries.now c.args.order.now c.requires

pub overflow_add-words : goal.overflow_add-words
overflow_add-words c =
    omega (arith, c.requires.width c.loop-i.i c.loop-i-test.true)

pub insert-requires : goal.insert-requires
insert-requires c =
    first_asks c.args.words.now c.loop-i.entries c.loop-i.order c.loop-i.i c.loop-i.invariant c.requires.apart c.loop-i-test.true (omega arith) (omega arith)

pub loop-i-preserved : goal.loop-i-preserved
loop-i-preserved c =
    first_more c.args.words.now c.loop-i.entries c.loop-i.order c.loop-i.i c.loop-i.invariant (omega arith) c.insert.new.keys c.insert.new.order c.insert.ensures.0 c.insert.ensures.1

pub returns : goal.returns
returns c =
    first_four c.args.words.now c.loop-i.entries c.loop-i.order c.loop-i.i c.loop-i.invariant c.loop-i.auto.i-end c.loop-i-test.false
