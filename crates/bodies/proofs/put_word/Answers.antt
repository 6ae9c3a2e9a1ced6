use Rattle.bodies.proofs.Copies.{put_one, put_two}
use Rattle.bodies.proofs.put_word.Goals as goal

pub returns-then-r-le224 : goal.returns-then-r-le224
returns-then-r-le224 c =
    put_one c.args.s c.args.t c.args.r c.args.word c.args.bytes.now c.copy.new.dst c.if-r-le224.true c.copy.ensures

pub returns : goal.returns
returns c =
    put_two c.args.s c.args.t c.args.r c.args.word c.args.bytes.now c.copy-3.new.dst c.if-r-le224.false c.requires.offset c.copy-2.new.dst c.copy-2.ensures c.copy-3.ensures
