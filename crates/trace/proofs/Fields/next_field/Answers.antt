use Rattle.std.proofs.Common.{ap, ◌∙◌}
use Rattle.trace.specs.Reading.{fields_if}
use Rattle.trace.proofs.Spaces.{first_field, only_field}
use Rattle.trace.proofs.Fields.next_field.Goals as goal

pub returns-in-Some : goal.returns-in-Some
returns-in-Some c = ap fields_if c.in_ok-line.was ∙ first_field c.in_ok-line.line.now c.in-Some.end c.in-Some.ensures

pub returns-in-None : goal.returns-in-None
returns-in-None c = ap fields_if c.in_ok-line.was ∙ only_field c.in_ok-line.line.now c.in-None.ensures
