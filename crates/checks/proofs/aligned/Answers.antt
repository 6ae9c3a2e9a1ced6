use mathlib.Core.Path.{◌∙◌}
use Rattle.checks.proofs.Ranges.{aligned_some}
use Rattle.checks.proofs.aligned.Goals as goal

pub returns : goal.returns
returns c = c.parts.ensures ∙ aligned_some _ _ c.if-n-eq0.false
