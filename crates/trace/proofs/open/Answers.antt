use Rattle.std.proofs.Common.{ap, ◌∙◌, []}
use Rattle.trace.specs.Language.{Open as kind, line_if}
use Rattle.trace.proofs.Lines.{no_read, open_read}
use Rattle.trace.proofs.open.Goals as goal

pub returns-in_err-static_memory : goal.returns-in_err-static_memory
returns-in_err-static_memory c = no_read kind _ _ _ (c.in_err-static_memory.ensures.read []) c.from_residual.ensures

pub returns : goal.returns
returns c = ap (line_if kind) (c.in_ok-static_memory.ensures.read []) ∙ open_read c.in_ok-static_memory.field-0 _ c.in_ok-static_memory.ensures.long
