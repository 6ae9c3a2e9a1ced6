use Rattle.store.specs.Mem.{mem}
use Rattle.index.proofs.Logic.{passed, failed}
use Rattle.registers.specs.Registers.{operand_of}
use Rattle.write_back.proofs.Laws.{load_refused, load_runs}
use Rattle.instructions.proofs.on_formed.load.Goals as goal

pub returns-then-not-takes_load : goal.returns-then-not-takes_load
returns-then-not-takes_load c =
    load_refused (mem c.args.bytes.now c.args.keys.now c.args.order.now c.args.words.now) c.requires.well_formed c.args.frame c.args.registers.now _ c.refused.ensures.0 c.refused.ensures.1 c.args.area c.args.places (failed c.takes_load.ensures c.if-not-takes_load.true)

pub returns : goal.returns
returns c =
    load_runs (mem c.args.bytes.now c.args.keys.now c.args.order.now c.args.words.now) c.requires.well_formed c.args.frame c.args.registers.now _ c.load-run.result (operand_of c.source-operand.result) _ c.args.places c.source-operand.ensures c.loaded.ensures c.args.area (passed c.takes_load.ensures c.if-not-takes_load.false) c.load-run.ensures
