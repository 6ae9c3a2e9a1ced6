use Rattle.std.proofs.Common.{◌≡◌, ◌+◌, ◌*◌, ◌≤◌, drop}
use Rattle.bits.specs.Bits.{ones_of}
use Rattle.bits.proofs.has_ones.Given as goal

abbrev pub invariant-loop-w : goal.invariant-loop-w
invariant-loop-w l = (l.found ≤ 64 * l.w-index) × (l.found + ones_of (drop l.w-index l.w-items) ≡ ones_of l.ws)
