use Rattle.store.specs.Mem.{mem}
use Rattle.registers.specs.Registers.{operand_of}
use Rattle.execution.proofs.Laws.{load_ends}
use Rattle.instruction_steps.proofs.load.Goals as goal

pub returns : goal.returns
returns c =
    let m = mem c.args.bytes.now c.args.keys.now c.args.order.now c.args.words.now in
    load_ends m c.args.frame (operand_of c.args.operand) c.reach-step.result c.args.area c.reach-step.ensures c.page_of-page.result.0 c.page_of-page.ensures c.load_at.ensures
