use Rattle.free_steps.proofs.Groups.{Freeing}
use Rattle.std.proofs.Common.{◌+◌}
use Rattle.store.specs.Mem.{mem}
use Rattle.free_steps.proofs.free_groups.Given as goal

abbrev pub invariant-loop-i : goal.invariant-loop-i
invariant-loop-i l = Freeing (mem l.initial.bytes l.initial.keys l.initial.order l.initial.words) l.len (4 + l.i) (mem l.bytes l.keys l.order l.words)
