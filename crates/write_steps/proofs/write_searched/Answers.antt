use Rattle.store.specs.Mem.{mem}
use Rattle.formed.proofs.Asks.{pages_asked}
use Rattle.write_steps.proofs.write_searched.Goals as goal

pub entry_of-e-requires : goal.entry_of-e-requires
entry_of-e-requires c =
    pages_asked (mem c.args.bytes.now c.args.keys.now c.args.order.now c.args.words.now) c.requires
