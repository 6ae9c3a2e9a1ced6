use Prim.Native.Nat.{◌-◌}
use native.Mathlib.Omega.{arith}
use Rattle.store.specs.Mem.{mem}
use Rattle.journal.proofs.Undos.{back_asks, back_more, back_none, undo_shows}
use Rattle.journal.proofs.undo.Goals as goal

pub loop-i-init : goal.loop-i-init
loop-i-init c =
    (c.requires.mark, back_none (mem c.args.bytes.now c.args.keys.now c.args.order.now c.args.words.now) c.requires.formed _ c.args.j c.requires.which)

pub put_back-requires : goal.put_back-requires
put_back-requires c =
    back_asks c.loop-i.bytes c.args.keys.now c.args.order.now c.args.words.now c.loop-i.invariant.1.formed c.args.j (c.loop-i.i - 1) c.requires.which (omega (arith, c.loop-i.auto.i, c.loop-i-test.true))

pub loop-i-preserved : goal.loop-i-preserved
loop-i-preserved c =
    (omega (arith, c.loop-i-test.true), back_more c.loop-i.bytes c.args.keys.now c.args.order.now c.args.words.now c.loop-i.invariant.1.formed c.args.j (c.loop-i.i - 1) c.requires.which (omega (arith, c.loop-i.auto.i, c.loop-i-test.true)) c.put_back.new.bytes c.put_back.auto.bytes c.put_back.ensures _ _ c.loop-i.i (omega (arith, c.loop-i-test.true)) c.loop-i.invariant.1)

pub returns : goal.returns
returns c =
    undo_shows c.args.bytes.now c.args.keys.now c.args.order.now c.args.words.now c.loop-i.bytes c.args.j c.args.mark c.loop-i.i c.requires c.loop-i.invariant.0 c.loop-i-test.false c.loop-i.invariant.1
