use Rattle.std.proofs.Common.{◌+◌}
use Rattle.store.specs.Mem.{mem}
use Rattle.store.specs.Indexed.{Ranked}
use Rattle.chunks.proofs.Turns.{After}
use Rattle.chunks.proofs.hold_chunks.Given as goal

abbrev pub invariant-loop-i : goal.invariant-loop-i
invariant-loop-i l =
    After (mem l.bytes l.initial.keys l.initial.order l.initial.words) l.page.0 l.first l.i (mem l.bytes l.keys l.order l.words) × Ranked l.keys l.order l.words (l.k + l.i) (l.at + l.i)
