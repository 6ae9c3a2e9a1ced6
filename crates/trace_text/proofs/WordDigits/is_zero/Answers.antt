use Rattle.std.proofs.Common.{◌∙◌, arith}
use Rattle.trace_text.proofs.Numerals.{word_zero}
use Rattle.trace_text.proofs.WordDigits.is_zero.Goals as goal

pub returns : goal.returns
returns c = c.eq.ensures ∙ word_zero c.args.self.limbs (omega (arith, c.well_formed))
