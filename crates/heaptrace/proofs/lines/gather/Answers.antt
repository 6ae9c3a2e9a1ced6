use Rattle.std.proofs.Common.{arith, length-take-le, ◌∙◌}
use Rattle.heaptrace.proofs.Gathering.{gathered, on_ok}
use Rattle.heaptrace.proofs.lines.gather.Goals as goal

pub returns : goal.returns
returns c =
    let r = c.remaining_capacity.ensures in
    let m = c.min-room.ensures in
    let l = length-take-le c.min-room.result c.args.piece.now (omega arith) in
    on_ok c.try_extend_from_slice.result (c.try_extend_from_slice.ensures.variant.1 (omega arith)) c.try_extend_from_slice.ensures.ok ∙ gathered c.args.line.now.items c.args.piece.now c.min-room.result (omega arith) (omega arith)
