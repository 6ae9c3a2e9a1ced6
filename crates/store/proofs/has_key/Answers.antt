use mathlib.Core.Bool.{false≢true}
use Rattle.std.proofs.Common.{eqb-true}
use Rattle.store.proofs.has_key.Goals as goal

pub returns-then-s-words : goal.returns-then-s-words
returns-then-s-words c = λ e. absurd (false≢true e)

pub returns : goal.returns
returns c = λ e. (c.if-s-words.false, eqb-true _ _ e)
