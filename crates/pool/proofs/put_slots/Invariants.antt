use Rattle.std.proofs.Common.{◌≡◌}
use Rattle.pool.specs.Give.{repooled_all}
use Rattle.pool.proofs.put_slots.Given as goal

abbrev pub invariant-loop-s : goal.invariant-loop-s
invariant-loop-s l = l.words ≡ repooled_all l.initial.words l.order l.from l.s-index
