use Rattle.std.proofs.Common.{◌∙◌, arith, eqb}
use Rattle.formed.proofs.Slots.{zeros_step, zeros_done}
use Rattle.formed.proofs.slot.all_zero.Goals as goal

pub loop-byte-preserved : goal.loop-byte-preserved
loop-byte-preserved c = zeros_step _ c.loop-byte.byte-index c.loop-byte.any c.loop-byte-test.true ∙ c.loop-byte.invariant

pub returns : goal.returns
returns c = zeros_done c.args.bytes.now (eqb c.loop-byte.any 0) c.loop-byte.byte-index (omega arith) c.loop-byte-test.false c.loop-byte.invariant
