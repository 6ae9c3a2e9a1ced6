use Rattle.store.specs.Mem.{mem}
use Rattle.owned.proofs.Answers.{length_does}
use Rattle.owned.proofs.memory.own_dynamic_len.Goals as goal

pub returns : goal.returns
returns c =
    length_does (mem c.args.bytes.now c.args.keys.now c.args.order.now c.args.words.now) c.requires c.dynamic_len.ensures
