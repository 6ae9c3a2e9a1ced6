use Rattle.trace_text.proofs.Numerals.{shorter}
use Rattle.word.specs.Value.{value}
use lib.ListN.{get_or}
use Rattle.trace_text.proofs.WordDigits.shortened.Goals as goal

pub returns : goal.returns
unfolding value
returns c = shorter (get_or c.args.self.limbs 0 0) (get_or c.args.self.limbs 1 0) (get_or c.args.self.limbs 2 0) (get_or c.args.self.limbs 3 0)
