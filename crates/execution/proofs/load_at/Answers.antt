use Rattle.store.specs.Mem.{mem}
use Rattle.registers.specs.Registers.{operand_of}
use Rattle.execution.proofs.Laws.{load_panics, load_done}
use Rattle.execution.proofs.load_at.Goals as goal

pub returns-then-not-step : goal.returns-then-not-step
returns-then-not-step c =
    let m = mem c.args.bytes.now c.args.keys.now c.args.order.now c.args.words.now in
    load_panics m c.args.page.0 (operand_of c.args.operand) c.args.step _ c.if-not-step.true c.panicked.ensures.0 c.panicked.ensures.1

pub returns : goal.returns
returns c =
    let m = mem c.args.bytes.now c.args.keys.now c.args.order.now c.args.words.now in
    load_done m c.args.page.0 (operand_of c.args.operand) c.args.step c.requires.limbs_bound c.if-not-step.false c.low_u32.result c.low_u32.ensures c.requires.well_formed _ c.read_word-word.ensures _ c.carried_out.ensures.0 c.carried_out.ensures.1
