use Rattle.std.proofs.Common.{ap, sym, ◌∙◌, [], Some}
use Rattle.std.specs.Prelude.{Option}
use Rattle.std.specs.Borrow.{Bor}
use Rattle.std.proofs.Common.{List, ℕ}
use Rattle.trace.specs.Language.{numbers, line_of_fields}
use Rattle.trace.specs.Reading.{fields_if, ended}
use Rattle.trace.proofs.Spaces.{some_field}
use Rattle.trace.proofs.parse.Goals as goal

pub returns-in-Some : goal.returns-in-Some
returns-in-Some c =
    sym (ap line_of_fields c.in_ok-name.ensures ∙ c.in_ok-command.ensures ∙ ap (ended (Some c.in_ok-command.command)) (ap (λ (l : Option (Bor (List ℕ))). numbers [] (fields_if l)) c.in-Some.is ∙ some_field _))
