use Rattle.std.proofs.Common.{◌≡◌, ◌+◌, ◌-◌, eqb}
use Rattle.bits.specs.Bits.{free_bits}
use Rattle.bits.proofs.each_bit_ok.Given as goal

abbrev pub invariant-loop-k : goal.invariant-loop-k
invariant-loop-k l = eqb l.x (free_bits l.keys l.at l.n) ≡ eqb l.left (free_bits l.keys (l.at + l.k-index) (l.n - l.k-index))
