use Rattle.std.proofs.Common.{◌+◌, arith}
use Rattle.bits.proofs.Loops.{part_item, full_start, full_more}
use Rattle.bits.proofs.all_free.Goals as goal

pub loop-k-init : goal.loop-k-init
loop-k-init c = full_start c.args.keys.now c.args.at

pub loop-k-preserved : goal.loop-k-preserved
loop-k-preserved c =
    let ks = c.args.keys.now in
    let h = part_item ks c.args.at (c.args.at + c.args.n) c.requires c.loop-k.k-index c.loop-k-test.true in
    simp h.1 (full_more ks c.args.at c.loop-k.k-index c.loop-k.any (omega arith) c.loop-k.invariant)
