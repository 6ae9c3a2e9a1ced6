use mathlib.Core.Path.{◌∙◌}
use Rattle.bodies.proofs.Copies.{word_one, word_two}
use Rattle.bodies.proofs.word_in.Goals as goal

pub returns-then-r-le224 : goal.returns-then-r-le224
returns-then-r-le224 c =
    word_one c.args.s c.args.t c.args.r c.args.bytes.now _ c.copy.new.dst c.copy.auto.dst c.if-r-le224.true c.copy.ensures

pub returns : goal.returns
returns c =
    word_two c.args.s c.args.t c.args.r c.args.bytes.now _ c.copy-3.new.dst (c.copy-3.auto.dst ∙ c.copy-2.auto.dst) c.if-r-le224.false c.requires.offset c.copy-2.new.dst c.copy-2.ensures c.copy-3.ensures
