use native.Mathlib.Omega.{arith}
use Rattle.word.specs.Value.{value}
use Rattle.store.specs.Mem.{mem}
use Rattle.formed.proofs.Hints.{find_asked}
use Rattle.abi.proofs.Statuses.{word_status}
use Rattle.owned.proofs.Answers.{written_as}
use Rattle.owned.proofs.Words.{piece_found, piece_does}
use Rattle.owned.proofs.memory.own_write_u256.Goals as goal

pub in_one_piece-s-requires : goal.in_one_piece-s-requires
in_one_piece-s-requires c =
    find_asked (mem c.args.bytes.now c.args.keys.now c.args.order.now c.args.words.now) c.requires

pub returns-then-has_no_journal : goal.returns-then-has_no_journal
returns-then-has_no_journal c =
    let m = mem c.args.bytes.now c.args.keys.now c.args.order.now c.args.words.now in
    written_as c.args.page c.args.address c.word_of.ensures
    (piece_does m c.requires c.args.page c.args.address c.in_one_piece-s.result (omega (arith, c.ranges.page)) (omega (arith, c.ranges.address)) c.if-s-words.true (c.in_one_piece-s.ensures c.if-s-words.true) (c.has_no_journal.ensures.0 c.if-has_no_journal.true)
    (value c.word_of.result.limbs) c.copy.new.dst c.copy.auto.dst (rw c.to_big_endian-value.ensures.1 at c.copy.ensures))

pub write_found-requires : goal.write_found-requires
write_found-requires c =
    piece_found (mem c.args.bytes.now c.args.keys.now c.args.order.now c.args.words.now) c.requires c.args.page c.args.address c.in_one_piece-s.result (omega (arith, c.ranges.page)) (omega (arith, c.ranges.address)) c.if-s-words.true (c.in_one_piece-s.ensures c.if-s-words.true)

pub returns-then-s-words : goal.returns-then-s-words
returns-then-s-words c =
    word_status c.args.page c.args.address c.write_found.result c.word_of-word.ensures c.status.ensures c.write_found.ensures
