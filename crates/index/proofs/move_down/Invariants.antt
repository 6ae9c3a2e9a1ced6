use Rattle.std.proofs.Common.{◌≡◌, ℕ, ◌≤◌, get_or}
use Rattle.index.specs.Index.{MovedDown}
use Rattle.index.proofs.move_down.Given as goal

abbrev pub invariant-loop-j : goal.invariant-loop-j
invariant-loop-j l = ((i : ℕ) → l.j ≤ i → get_or l.order i 0 ≡ get_or l.initial.order i 0) × MovedDown l.initial.order l.order l.at l.from l.j
