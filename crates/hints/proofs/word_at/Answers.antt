use Rattle.hints.proofs.Copies.{copied_word}
use Rattle.hints.proofs.word_at.Goals as goal

pub returns : goal.returns
returns c =
    copied_word c.args.at c.args.bytes.now _ c.copy.new.dst c.copy.auto.dst c.copy.ensures
