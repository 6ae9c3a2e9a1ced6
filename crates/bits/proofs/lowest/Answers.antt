use Rattle.std.proofs.Common.{◌+◌, length, arith}
use native.Mathlib.Nat.{le_refl}
use Rattle.bits.proofs.Words.{lowest_at}
use Rattle.bits.proofs.Loops.{part_item, part_end, zero_done}
use Rattle.bits.proofs.lowest.Goals as goal

pub returns-then-w-ne0 : goal.returns-then-w-ne0
returns-then-w-ne0 c =
    let ws = c.args.ws.now in
    let h = part_item ws c.args.skip (length ws) (le_refl (length ws)) c.loop-i.i c.loop-i-test.true in
    rw h.1 (omega (arith, lowest_at ws (c.args.skip + c.loop-i.i) c.loop-i.invariant h.0 (rw h.1 at c.if-w-ne0.true)))

pub returns : goal.returns
returns c =
    let ws = c.args.ws.now in
    absurd (omega (arith, zero_done ws (c.args.skip + c.loop-i.i) c.loop-i.invariant (part_end ws c.args.skip (length ws) (le_refl (length ws)) c.loop-i.i c.loop-i-test.false)))
