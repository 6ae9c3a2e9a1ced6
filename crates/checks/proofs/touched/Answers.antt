use mathlib.Core.Path.{◌∙◌}
use Rattle.checks.proofs.Ranges.{touched_some}
use Rattle.checks.proofs.touched.Goals as goal

pub returns : goal.returns
returns c = c.parts.ensures ∙ touched_some _ _ c.if-n-eq0.false
