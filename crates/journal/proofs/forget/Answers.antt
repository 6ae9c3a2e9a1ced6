use native.Mathlib.Omega.{arith}
use lib.ListN.{length-set}
use Rattle.journal.proofs.Cuts.{forget_shows}
use Rattle.journal.proofs.forget.Goals as goal

pub returns : goal.returns
returns c =
    forget_shows c.args.bytes.now c.args.keys.now c.args.order.now c.args.words.now c.requires

pub bounds-words-13 : goal.bounds-words-13
bounds-words-13 c = simp length-set (omega (arith, c.requires.lengths.in_words))
