use Rattle.trace.specs.Reading.{fields_left}
use Rattle.trace.proofs.Lines.{IsRead}
use Rattle.trace.proofs.Fields.decimals.Given as goal

abbrev pub invariant-loop-value : goal.invariant-loop-value
invariant-loop-value g l = IsRead g.row.N (fields_left l.initial.self) l.value-index l.value-items (fields_left l.self)
