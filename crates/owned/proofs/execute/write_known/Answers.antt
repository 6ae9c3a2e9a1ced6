use mathlib.Core.Bool.{true≢false}
use native.Mathlib.Omega.{arith}
use Rattle.word.specs.Value.{value}
use Rattle.store.specs.Mem.{mem}
use Rattle.formed.proofs.Hints.{find_asked}
use Rattle.owned.proofs.Words.{piece_does}
use Rattle.owned.proofs.execute.write_known.Goals as goal

pub in_one_piece-s-requires : goal.in_one_piece-s-requires
in_one_piece-s-requires c =
    find_asked (mem c.args.bytes.now c.args.keys.now c.args.order.now c.args.words.now) c.requires

pub returns : goal.returns
returns c =
    let m = mem c.args.bytes.now c.args.keys.now c.args.order.now c.args.words.now in
    let found = c.in_one_piece-s.ensures c.if-s-words.false in
    record {
      known = λ _.
          piece_does m c.requires c.args.page.0 c.args.address.0 c.in_one_piece-s.result (omega (arith, c.well_formed.1.1.1.1.0)) (omega (arith, c.well_formed.1.1.1.1.1.0)) c.if-s-words.false found (c.has_no_journal.ensures.0 (c.if-not-has_no_journal.false))
          (value c.args.word.limbs) c.copy.new.dst c.copy.auto.dst (rw c.to_big_endian-value.ensures.1 at c.copy.ensures);
      unknown = λ e. absurd (true≢false e);
    }
