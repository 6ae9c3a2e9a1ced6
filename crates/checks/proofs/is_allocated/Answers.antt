use Rattle.formed.proofs.Asks.{pages_asked}
use Rattle.store.specs.Mem.{mem}
use Rattle.checks.proofs.Tables.{allocated_by}
use Rattle.checks.proofs.is_allocated.Goals as goal

pub entry_of-e-requires : goal.entry_of-e-requires
entry_of-e-requires c = pages_asked (mem c.args.bytes.now c.args.keys.now c.args.order.now c.args.words.now) c.requires

pub returns : goal.returns
returns c = allocated_by (mem c.args.bytes.now c.args.keys.now c.args.order.now c.args.words.now) c.requires c.args.page.0 _ c.entry_of-e.ensures
