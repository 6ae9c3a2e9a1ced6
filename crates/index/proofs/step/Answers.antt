use native.Mathlib.Omega.{arith}
use Rattle.index.proofs.step.Goals as goal

pub returns : goal.returns
returns c = ((λ l. rw (c.away.ensures.1 l) (omega (arith, c.requires))), (λ l. rw (c.away.ensures.2 l) (omega (arith, c.requires))))
