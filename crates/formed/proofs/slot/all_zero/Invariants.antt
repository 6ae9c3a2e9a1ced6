use mathlib.Core.Bool.{◌&&◌}
use mathlib.Core.Path.{◌≡◌}
use lib.Dec.{eqb}
use lib.ListN.{drop}
use Rattle.formed.specs.Formed.{zeros}
use Rattle.formed.proofs.slot.all_zero.Given as goal

abbrev pub invariant-loop-byte : goal.invariant-loop-byte
invariant-loop-byte l = (eqb l.any 0 && zeros (drop l.byte-index l.bytes)) ≡ zeros l.bytes
