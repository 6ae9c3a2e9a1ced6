use mathlib.Core.Path.{sym, ◌∙◌}
use Rattle.store.specs.Mem.{mem}
use Rattle.view.specs.View.{view_of}
use Rattle.view.specs.Calls.{shown}
use Rattle.index.proofs.Logic.{passed, failed}
use Rattle.reads.proofs.Answers.{show_all, shown_bad, shown_good, block_long, block_zero}
use Rattle.reads.proofs.on_formed.chunk.Goals as goal

pub returns-then-not-is_zero_block : goal.returns-then-not-is_zero_block
returns-then-not-is_zero_block c =
    let m = mem c.args.bytes.now c.args.keys.now c.args.order.now c.args.words.now in
    sym (shown_bad (view_of m) c.args.page.0 c.args.number c.args.block.now (failed c.is_zero_block.ensures c.if-not-is_zero_block.true))
    ∙ show_all m (shown (view_of m) c.args.page.0 c.args.number c.args.block.now) c.requires

pub chunk_of-requires : goal.chunk_of-requires
chunk_of-requires c =
    let z = passed c.is_zero_block.ensures c.if-not-is_zero_block.false in record { well_formed = c.requires; block_len = (block_long c.args.block.now z, block_zero c.args.block.now z) }

pub returns : goal.returns
returns c =
    let m = mem c.args.bytes.now c.args.keys.now c.args.order.now c.args.words.now in
    c.chunk_of.ensures ∙ sym (shown_good (view_of m) c.args.page.0 c.args.number c.args.block.now (passed c.is_zero_block.ensures c.if-not-is_zero_block.false))
    ∙ show_all m (shown (view_of m) c.args.page.0 c.args.number c.args.block.now) c.requires
