use Rattle.store.specs.Mem.{mem}
use Rattle.owned.proofs.Answers.{byte_does}
use Rattle.owned.proofs.memory.own_read_byte.Goals as goal

pub returns : goal.returns
returns c =
    byte_does (mem c.args.bytes.now c.args.keys.now c.args.order.now c.args.words.now) c.requires c.args.page c.args.address c.read_byte.ensures
