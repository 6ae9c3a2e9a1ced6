use mathlib.Core.Path.{sym, ap, ◌∙◌}
use Rattle.abi.specs.Interface.{partial_at}
use Rattle.reads.specs.Calls.{word_and_count}
use Rattle.outcome.specs.Outcome.{done, outcome_by}
use Rattle.abi.proofs.Lists.{partial_told}
use Rattle.abi.proofs.Outputs.{gives_as}
use Rattle.abi.proofs.answers.give_partial.Goals as goal

pub returns-in-Ok : goal.returns-in-Ok
returns-in-Ok g c = gives_as partial_at c.give.ensures (ap done (partial_told c.in-Ok.read.word.limbs c.wide-count.ensures) ∙ sym (ap (outcome_by g.R.Numbered.number word_and_count) c.in-Ok.is))
