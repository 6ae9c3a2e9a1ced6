use mathlib.Core.Path.{◌≡◌}
use lib.ListN.{length}
use Rattle.abi.proofs.Outputs.{Copied}
use Rattle.abi.proofs.answers.copy.Given as goal

abbrev pub invariant-loop-i : goal.invariant-loop-i
invariant-loop-i l = (length l.output ≡ length l.initial.output) × Copied l.i l.from l.output
