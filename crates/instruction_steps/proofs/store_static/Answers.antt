use Rattle.word.specs.Value.{value}
use Rattle.store.specs.Mem.{mem}
use Rattle.checks.proofs.Chosen.{layout_asks}
use Rattle.registers.specs.Registers.{operand_of}
use Rattle.execution.proofs.Laws.{static_store_ends}
use Rattle.instruction_steps.proofs.store_static.Goals as goal

pub static_page-page-requires : goal.static_page-page-requires
static_page-page-requires c = layout_asks _ c.requires

pub returns : goal.returns
returns c =
    let m = mem c.args.bytes.now c.args.keys.now c.args.order.now c.args.words.now in
    static_store_ends m c.args.frame (operand_of c.args.operand) c.reach_static-step.result c.reach_static-step.ensures c.static_page-page.result.0 c.static_page-page.ensures (value c.args.word.limbs) c.store_at.ensures
