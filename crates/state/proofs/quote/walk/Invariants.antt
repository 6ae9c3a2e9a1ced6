use Rattle.std.proofs.Common.{◌≡◌, ◌≤◌, drop}
use Rattle.state.specs.Quote.{walked}
use Rattle.state.proofs.quote.walk.Given as goal

abbrev pub invariant-loop-i : goal.invariant-loop-i
invariant-loop-i l = (l.left ≤ l.gas) × (walked l.gas l.list l.gas l.bound 0 ≡ walked l.gas (drop l.i l.list) l.left l.reached l.i)
