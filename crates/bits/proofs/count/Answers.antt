use Rattle.std.proofs.Common.{arith}
use Rattle.bits.proofs.Loops.{rest_start, rest_more, rest_end}
use Rattle.bits.proofs.count.Goals as goal

pub loop-w-init : goal.loop-w-init
loop-w-init c = let h = rest_start c.args.ws.now c.args.skip c.requires.2 in (omega arith, omega arith)

pub loop-w-preserved : goal.loop-w-preserved
loop-w-preserved c =
    let h = rest_more c.args.ws.now c.args.skip c.loop-w.w-index c.loop-w-test.true c.type_inv.ws in (omega arith, omega arith)

pub returns : goal.returns
returns c = omega (arith, rest_end c.args.ws.now c.args.skip c.loop-w.w-index c.loop-w-test.false)
