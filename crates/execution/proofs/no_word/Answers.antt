use Rattle.word.proofs.Limbs.{no_limbs}
use Rattle.execution.proofs.no_word.Goals as goal

pub returns : goal.returns
returns c = no_limbs
