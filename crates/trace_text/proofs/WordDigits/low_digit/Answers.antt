use Rattle.trace_text.proofs.Numerals.{low_of}
use Rattle.word.specs.Value.{value}
use Rattle.trace_text.proofs.WordDigits.low_digit.Goals as goal

pub returns-clause-digit : goal.returns-clause-digit
unfolding value
returns-clause-digit c = low_of _ _
