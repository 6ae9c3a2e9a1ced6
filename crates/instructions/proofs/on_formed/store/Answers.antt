use mathlib.Core.Path.{ap, ◌∙◌}
use Rattle.store.specs.Mem.{mem}
use Rattle.index.proofs.Logic.{passed, failed}
use Rattle.registers.specs.Registers.{operand_of, registers_from, value_of}
use Rattle.word.specs.Value.{value}
use Rattle.execution.specs.Executions.{hook_of}
use Rattle.write_back.proofs.Laws.{store_refused, store_runs}
use Rattle.instructions.proofs.on_formed.store.Goals as goal

pub returns-then-not-takes_store : goal.returns-then-not-takes_store
returns-then-not-takes_store c =
    store_refused (mem c.args.bytes.now c.args.keys.now c.args.order.now c.args.words.now) c.requires.well_formed c.args.frame c.args.registers.now _ c.refused.ensures.0 c.refused.ensures.1 c.args.area c.args.places c.args.kernel (hook_of c.args.hook) (failed c.takes_store.ensures c.if-not-takes_store.true)

pub returns : goal.returns
returns c =
    store_runs (mem c.args.bytes.now c.args.keys.now c.args.order.now c.args.words.now) c.requires.well_formed c.args.frame c.args.registers.now _ c.store-run.result (operand_of c.source-operand.result) _ c.args.places c.args.kernel (value c.value-word.result.limbs) c.source-operand.ensures (c.value-word.ensures ∙ ap (value_of c.args.kernel (registers_from c.args.registers.now)) c.number-stored.ensures) c.stored.ensures (passed c.takes_store.ensures c.if-not-takes_store.false) _ c.args.area (hook_of c.args.hook) c.store-run.ensures
