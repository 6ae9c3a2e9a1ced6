use Rattle.journal.proofs.Undos.{put_back, back_slots}
use Rattle.journal.proofs.put_back.Goals as goal

pub put_word-requires : goal.put_word-requires
put_word-requires c =
    back_slots c.args.bytes.now c.args.words.now c.args.j c.args.i c.number-n.result c.requires c.number-n.ensures.0

pub returns : goal.returns
returns c =
    put_back c.args.bytes.now c.args.words.now c.args.j c.args.i c.number-n.result _ c.copy.new.dst c.put_word.new.bytes c.number-n.ensures.0 c.copy.ensures c.put_word.ensures
