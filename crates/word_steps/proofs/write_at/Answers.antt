use native.Mathlib.Omega.{arith}
use Rattle.word.specs.Value.{value, word_bytes}
use Rattle.word.proofs.Digits.{digits_long}
use Rattle.store.specs.Mem.{mem}
use Rattle.word_steps.proofs.Words.{word_places, word_done}
use Rattle.word_steps.proofs.write_at.Goals as goal

pub put_word-requires : goal.put_word-requires
put_word-requires c =
    let m = mem c.args.bytes.now c.args.keys.now c.args.order.now c.args.words.now in
    word_places m c.args.page.0 c.args.address.0 c.args.s c.args.t c.requires (omega (arith, c.well_formed.1.1.1.1.1.0)) c.journal_found.new.bytes c.journal_found.new.words c.journal_found.ensures

pub returns : goal.returns
returns c =
    let m = mem c.args.bytes.now c.args.keys.now c.args.order.now c.args.words.now in
    word_done m c.args.page.0 c.args.address.0 c.args.s c.args.t c.requires (omega (arith, c.well_formed.1.1.1.1.1.0)) c.journal_found.new.bytes c.journal_found.new.words c.journal_found.ensures (word_bytes (value c.args.word.limbs)) (digits_long 32 (value c.args.word.limbs)) _ c.put_word.auto.bytes (rw c.to_big_endian.ensures.1 at c.put_word.ensures)
