use mathlib.Core.Path.{sym}
use Rattle.store.specs.Mem.{mem}
use Rattle.index.proofs.Logic.{passed, failed}
use Rattle.compare.proofs.Answers.{layouts_differ, decided}
use Rattle.compare.proofs.on_formed.compare.Goals as goal

pub returns-then-not-same_layout : goal.returns-then-not-same_layout
returns-then-not-same_layout c =
    layouts_differ (mem c.args.left_bytes.now c.args.left_keys.now c.args.left_order.now c.args.left_words.now) (mem c.args.right_bytes.now c.args.right_keys.now c.args.right_order.now c.args.right_words.now) c.requires.well_formed c.requires.well_formed_2 (failed c.same_layout.ensures c.if-not-same_layout.true)

pub returns : goal.returns
returns c =
    decided (mem c.args.left_bytes.now c.args.left_keys.now c.args.left_order.now c.args.left_words.now) (mem c.args.right_bytes.now c.args.right_keys.now c.args.right_order.now c.args.right_words.now) c.requires.well_formed c.requires.well_formed_2 (passed c.same_layout.ensures c.if-not-same_layout.false) c.equal.result (sym c.equal.ensures)
