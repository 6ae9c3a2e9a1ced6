use Rattle.std.proofs.Common.{ap, ◌∙◌, []}
use Rattle.trace.specs.Language.{Rollback as kind, line_if}
use Rattle.trace.proofs.Lines.{no_read, rollback_read}
use Rattle.trace.proofs.roll_back.Goals as goal

pub returns-in_err-heap : goal.returns-in_err-heap
returns-in_err-heap c = no_read kind _ _ _ (c.in_err-heap.ensures.read []) c.from_residual.ensures

pub returns : goal.returns
returns c = ap (line_if kind) (c.in_ok-heap.ensures.read []) ∙ rollback_read c.in_ok-heap.field-0 _ c.in_ok-heap.ensures.long
