use Rattle.pool.specs.Give.{Wiped}
use Prim.Native.Nat.{◌-◌, ◌≤◌}
use Rattle.pool.proofs.wipe.Given as goal

abbrev pub invariant-loop-i : goal.invariant-loop-i
invariant-loop-i l = (l.from ≤ l.i) × (l.i ≤ l.to) × Wiped l.initial.bytes l.order l.from l.i l.bytes

abbrev pub decreases-loop-i : goal.decreases-loop-i
decreases-loop-i l = l.to - l.i
