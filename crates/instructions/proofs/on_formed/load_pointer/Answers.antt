use Rattle.store.specs.Mem.{mem}
use Rattle.index.proofs.Logic.{passed, failed}
use Rattle.registers.specs.Registers.{operand_of}
use Rattle.write_back.proofs.Laws.{pointer_refused, pointer_runs}
use Rattle.instructions.proofs.on_formed.load_pointer.Goals as goal

pub returns-then-not-takes_pointer : goal.returns-then-not-takes_pointer
returns-then-not-takes_pointer c =
    pointer_refused (mem c.args.bytes.now c.args.keys.now c.args.order.now c.args.words.now) c.requires.well_formed c.args.frame c.args.registers.now c.args.places _ c.pointer_refused.ensures.0 c.pointer_refused.ensures.1.0 c.pointer_refused.ensures.1.1 (failed c.takes_pointer.ensures c.if-not-takes_pointer.true)

pub returns : goal.returns
returns c =
    pointer_runs (mem c.args.bytes.now c.args.keys.now c.args.order.now c.args.words.now) c.requires.well_formed c.args.frame c.args.registers.now c.args.places c.load_pointer-run.result (operand_of c.source-operand.result) _ _ c.source-operand.ensures c.loaded.ensures (passed c.takes_pointer.ensures c.if-not-takes_pointer.false) c.load_pointer-run.ensures
