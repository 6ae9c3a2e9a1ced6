use Rattle.store.specs.Mem.{mem}
use Rattle.formed.proofs.Meaning.{well_formed_means}
use Rattle.view.specs.View.{view_of}
use Rattle.view.specs.Calls.{shown}
use Rattle.index.proofs.Logic.{passed, failed}
use Rattle.reads.proofs.Answers.{show_none}
use Rattle.reads.proofs.chunk.Goals as goal

pub returns-then-not-well_formed : goal.returns-then-not-well_formed
returns-then-not-well_formed c =
    let m = mem c.args.bytes.now c.args.keys.now c.args.order.now c.args.words.now in
    show_none m (shown (view_of m) c.args.page.0 c.args.number c.args.block.now) (failed c.well_formed-2.ensures c.if-not-well_formed.true)

pub chunk-requires : goal.chunk-requires
chunk-requires c =
    well_formed_means _ (passed c.well_formed-2.ensures c.if-not-well_formed.false)
