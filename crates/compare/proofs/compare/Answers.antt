use Rattle.store.specs.Mem.{mem}
use Rattle.formed.proofs.Meaning.{well_formed_means}
use Rattle.index.proofs.Logic.{passed, failed}
use Rattle.compare.proofs.Answers.{left_ill, right_ill}
use Rattle.compare.proofs.compare.Goals as goal

pub returns-then-not-well_formed : goal.returns-then-not-well_formed
returns-then-not-well_formed c =
    left_ill (mem c.args.left_bytes.now c.args.left_keys.now c.args.left_order.now c.args.left_words.now) (mem c.args.right_bytes.now c.args.right_keys.now c.args.right_order.now c.args.right_words.now) (failed c.well_formed-2.ensures c.if-not-well_formed.true)

pub returns-then-not-well_formed-2 : goal.returns-then-not-well_formed-2
returns-then-not-well_formed-2 c =
    right_ill (mem c.args.left_bytes.now c.args.left_keys.now c.args.left_order.now c.args.left_words.now) (mem c.args.right_bytes.now c.args.right_keys.now c.args.right_order.now c.args.right_words.now) (passed c.well_formed-2.ensures c.if-not-well_formed.false) (failed c.well_formed-3.ensures c.if-not-well_formed-2.true)

pub compare-requires : goal.compare-requires
compare-requires c = record { well_formed = well_formed_means _ (passed c.well_formed-2.ensures c.if-not-well_formed.false); well_formed_2 = well_formed_means _ (passed c.well_formed-3.ensures c.if-not-well_formed-2.false) }
