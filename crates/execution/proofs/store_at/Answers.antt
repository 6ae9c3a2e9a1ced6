use Rattle.word.specs.Value.{value}
use Rattle.store.specs.Mem.{mem}
use Rattle.registers.specs.Registers.{operand_of}
use Rattle.execution.specs.Executions.{hook_of}
use Rattle.execution.proofs.Laws.{store_panics, store_wide, store_refused_by, store_done}
use Rattle.execution.proofs.store_at.Goals as goal

pub returns-then-not-step : goal.returns-then-not-step
returns-then-not-step c =
    let m = mem c.args.bytes.now c.args.keys.now c.args.order.now c.args.words.now in
    store_panics m c.args.page.0 (operand_of c.args.operand) c.args.step _ c.if-not-step.true c.panicked.ensures.0 c.panicked.ensures.1 (value c.args.word.limbs) (hook_of c.args.hook) c.args.before

pub returns-then-stops_wide : goal.returns-then-stops_wide
returns-then-stops_wide c =
    let m = mem c.args.bytes.now c.args.keys.now c.args.order.now c.args.words.now in
    store_wide m c.args.page.0 (operand_of c.args.operand) c.args.step c.requires.limbs_bound c.if-not-step.false c.low_u32.result c.low_u32.ensures (value c.args.word.limbs) (hook_of c.args.hook) c.args.before c.stops_wide.result c.stops_wide.ensures c.if-stops_wide.true c.wide_refusal.result c.wide_refusal.ensures _ c.refused.ensures.0 c.refused.ensures.1

pub returns-in-Err : goal.returns-in-Err
returns-in-Err c =
    let m = mem c.args.bytes.now c.args.keys.now c.args.order.now c.args.words.now in
    store_refused_by m c.args.page.0 (operand_of c.args.operand) c.args.step c.requires.limbs_bound c.if-not-step.false c.low_u32.result c.low_u32.ensures (value c.args.word.limbs) (hook_of c.args.hook) c.args.before c.requires.well_formed _ _ c.write_word.ensures c.in-Err.is _ c.refused-in-Err.ensures.0 c.refused-in-Err.ensures.1

pub returns : goal.returns
returns c =
    let m = mem c.args.bytes.now c.args.keys.now c.args.order.now c.args.words.now in
    store_done m c.args.page.0 (operand_of c.args.operand) c.args.step c.requires.limbs_bound c.if-not-step.false c.low_u32.result c.low_u32.ensures (value c.args.word.limbs) (hook_of c.args.hook) c.args.before c.requires.well_formed _ _ c.write_word.ensures c.stops_wide.result c.stops_wide.ensures c.if-stops_wide.false c.in_default.is _ c.stop_of-status.result _ c.stop_of-status.ensures c.no_word.ensures c.carried_out.ensures.0 c.carried_out.ensures.1
