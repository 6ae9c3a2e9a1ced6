use mathlib.Core.Path.{sym, ◌∙◌}
use Rattle.store.specs.Mem.{mem}
use Rattle.view.specs.Checks.{lookup_checks}
use Rattle.index.proofs.Logic.{passed, failed}
use Rattle.reads.proofs.Answers.{on_formed, lookup_bad, lookup_good}
use Rattle.reads.proofs.on_formed.chunk_check.Goals as goal

pub returns-then-not-is_zero_block : goal.returns-then-not-is_zero_block
returns-then-not-is_zero_block c =
    let m = mem c.args.bytes.now c.args.keys.now c.args.order.now c.args.words.now in
    sym (on_formed m (lookup_checks c.args.block.now) tt c.requires ∙ lookup_bad tt c.args.block.now (failed c.is_zero_block.ensures c.if-not-is_zero_block.true))

pub returns : goal.returns
returns c =
    let m = mem c.args.bytes.now c.args.keys.now c.args.order.now c.args.words.now in
    sym (on_formed m (lookup_checks c.args.block.now) tt c.requires ∙ lookup_good tt c.args.block.now (passed c.is_zero_block.ensures c.if-not-is_zero_block.false))
