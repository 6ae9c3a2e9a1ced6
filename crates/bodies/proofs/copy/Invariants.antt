use mathlib.Core.Path.{◌≡◌}
use Prim.Native.Nat.{◌+◌}
use lib.ListN.{length, get_or}
use Rattle.bodies.specs.Words.{Spread}
use Rattle.bodies.proofs.copy.Given as goal

abbrev pub invariant-loop-i : goal.invariant-loop-i
invariant-loop-i l = (length l.dst ≡ length l.initial.dst) × Spread (λ x. l.to + x) (λ x. get_or l.src (l.from + x) 0) l.i l.initial.dst l.dst
