use Rattle.std.proofs.Common.{get_or}
use Rattle.trace.proofs.Shifts.{longer}
use Rattle.word.specs.Value.{value}
use Rattle.trace.proofs.lengthened.Goals as goal

pub returns : goal.returns
unfolding value
returns c =
    longer (get_or c.args.w.limbs 0 0) (get_or c.args.w.limbs 1 0) (get_or c.args.w.limbs 2 0) (get_or c.args.w.limbs 3 0) c.args.low c.requires.0
