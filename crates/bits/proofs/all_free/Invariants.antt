use Rattle.std.proofs.Common.{◌≡◌, ◌-◌, ◌^◌, eqb}
use Rattle.bits.specs.Bits.{free_bits}
use Rattle.bits.proofs.all_free.Given as goal

abbrev pub invariant-loop-k : goal.invariant-loop-k
invariant-loop-k l = eqb l.any 0 ≡ eqb (2 ^ l.k-index - 1) (free_bits l.keys l.at l.k-index)
