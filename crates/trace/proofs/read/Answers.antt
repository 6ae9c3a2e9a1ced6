use Rattle.std.proofs.Common.{ap, ◌∙◌, []}
use Rattle.trace.specs.Language.{Read as kind, line_if}
use Rattle.trace.proofs.Lines.{no_read, read_read}
use Rattle.trace.proofs.read.Goals as goal

pub returns-in_err-page : goal.returns-in_err-page
returns-in_err-page c = no_read kind _ _ _ (c.in_err-page.ensures.read []) c.from_residual.ensures

pub returns : goal.returns
returns c = ap (line_if kind) (c.in_ok-page.ensures.read []) ∙ read_read c.in_ok-page.field-0 _ c.in_ok-page.ensures.long
