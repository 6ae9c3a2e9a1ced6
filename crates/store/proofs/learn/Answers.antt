use Rattle.store.proofs.Finds.{learnt_mask, learnt_hint}
use Rattle.std.proofs.Common.{arith, length-set}
use Rattle.store.proofs.learn.Goals as goal

pub returns-then-h-n : goal.returns-then-h-n
returns-then-h-n c =
    learnt_mask c.args.order.now c.args.words.now c.requires.fixed_count_in_bounds.0 _

pub returns-then-h-words : goal.returns-then-h-words
returns-then-h-words c =
    learnt_mask c.args.order.now c.args.words.now c.requires.fixed_count_in_bounds.0 _

pub returns : goal.returns
returns c =
    learnt_hint c.args.order.now c.args.words.now c.requires.fixed_count_in_bounds.0 _ c.hint_place-h.result c.args.s c.if-h-words.false

pub hint_place-h-requires : goal.hint_place-h-requires
hint_place-h-requires c = let l = c.requires.fixed_count_in_bounds.0 in simp length-set (omega arith)
