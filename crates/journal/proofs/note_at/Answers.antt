use native.Mathlib.Omega.{arith}
use lib.ListN.{length-set}
use Rattle.journal.proofs.NoteSets.{noted_at}
use Rattle.journal.proofs.note_at.Goals as goal

pub bounds-words-at-2 : goal.bounds-words-at-2
bounds-words-at-2 c =
    simp length-set (omega (arith, c.requires.long.in_words, c.number-n.ensures.1))

pub bounds-words-at-3 : goal.bounds-words-at-3
bounds-words-at-3 c =
    simp length-set (omega (arith, c.requires.long.in_words, c.number-n.ensures.1))

pub bounds-words-j-2 : goal.bounds-words-j-2
bounds-words-j-2 c =
    simp length-set (omega (arith, c.requires.long.in_words, c.requires.which))

pub returns : goal.returns
returns c =
    noted_at c.args.bytes.now c.args.words.now c.args.j c.args.address.0 c.args.s c.args.t c.number-n.result c.word_in-old.result c.copy.new.dst c.number-n.ensures.0 c.word_in-old.ensures c.copy.ensures
