use Rattle.std.proofs.Common.{◌+◌, arith}
use Rattle.bits.proofs.Loops.{part_item, part_end, word_more, word_fails, word_done}
use Rattle.bits.proofs.each_bit_ok.Goals as goal

pub returns-then-left-from : goal.returns-then-left-from
returns-then-left-from c =
    let a = c.args in
    let h = part_item a.keys.now a.at (a.at + a.n) c.requires.1 c.loop-k.k-index c.loop-k-test.true in
    word_fails a.keys.now a.at a.n a.x c.loop-k.k-index c.loop-k.left c.loop-k.invariant _ (omega arith) c.requires.1 (rw h.1 at c.from.ensures) c.if-left-from.true

pub loop-k-preserved : goal.loop-k-preserved
loop-k-preserved c =
    let a = c.args in
    let h = part_item a.keys.now a.at (a.at + a.n) c.requires.1 c.loop-k.k-index c.loop-k-test.true in
    word_more a.keys.now a.at a.n a.x c.loop-k.k-index c.loop-k.left c.loop-k.invariant _ (omega arith) c.requires.1 (rw h.1 at c.from.ensures) c.if-left-from.false

pub returns : goal.returns
returns c =
    let a = c.args in
    let e = part_end a.keys.now a.at (a.at + a.n) c.requires.1 c.loop-k.k-index c.loop-k-test.false in
    word_done a.keys.now a.at a.n a.x c.loop-k.k-index c.loop-k.left c.loop-k.invariant (omega arith)
