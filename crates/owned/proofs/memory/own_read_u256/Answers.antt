use mathlib.Core.Path.{ap, ◌∙◌}
use native.Mathlib.Omega.{arith}
use Rattle.word.specs.Value.{big_endian}
use Rattle.store.specs.Mem.{mem}
use Rattle.formed.proofs.Hints.{find_asked}
use Rattle.owned.proofs.Answers.{word_does}
use Rattle.owned.proofs.Words.{word_found}
use Rattle.owned.proofs.memory.own_read_u256.Goals as goal

pub in_one_piece-s-requires : goal.in_one_piece-s-requires
in_one_piece-s-requires c =
    find_asked (mem c.args.bytes.now c.args.keys.now c.args.order.now c.args.words.now) c.requires

pub returns-then-s-words : goal.returns-then-s-words
returns-then-s-words c =
    word_does (mem c.args.bytes.now c.args.keys.now c.args.order.now c.args.words.now) c.requires c.args.page c.args.address c.read_u256-word.ensures

pub returns : goal.returns
returns c =
    let m = mem c.args.bytes.now c.args.keys.now c.args.order.now c.args.words.now in
    word_does m c.requires c.args.page c.args.address
    (c.from_big_endian.ensures ∙ ap big_endian (c.word_at.ensures ∙ word_found m c.requires c.args.page c.args.address c.in_one_piece-s.result (omega (arith, c.ranges.address)) c.if-s-words.false (c.in_one_piece-s.ensures c.if-s-words.false)))
