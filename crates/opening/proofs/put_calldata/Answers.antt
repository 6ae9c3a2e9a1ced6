use mathlib.Core.Path.{refl}
use native.Mathlib.Omega.{arith}
use lib.ListN.{length}
use Rattle.store.specs.Mem.{mem}
use Rattle.formed.proofs.Asks.{slots_asked, pages_asked, entry_few}
use Rattle.opening.proofs.Calldata.{hold_asks, put_asks, calldata_put}
use Rattle.opening.proofs.put_calldata.Goals as goal

pub entry_of-e-requires : goal.entry_of-e-requires
entry_of-e-requires c =
    pages_asked (mem c.args.bytes.now c.args.keys.now c.args.order.now c.args.words.now) c.requires.started.formed

pub key_of-k-requires : goal.key_of-k-requires
key_of-k-requires c =
    let few = entry_few (mem c.args.bytes.now c.args.keys.now c.args.order.now c.args.words.now) c.requires.started.formed c.args.page.0 in
    (omega (arith, few, c.entry_of-e.ensures), omega arith)

pub rank_of-at-requires : goal.rank_of-at-requires
rank_of-at-requires c =
    slots_asked (mem c.args.bytes.now c.args.keys.now c.args.order.now c.args.words.now) c.requires.started.formed

pub hold_chunks-requires : goal.hold_chunks-requires
hold_chunks-requires c = record { hold_asks = hold_asks (mem c.args.bytes.now c.args.keys.now c.args.order.now c.args.words.now) c.args.page.0 (length c.args.calldata.now) c.requires; k_value = (omega (arith, c.key_of-k.ensures, c.entry_of-e.ensures), c.rank_of-at.ensures) }

pub write_from-requires : goal.write_from-requires
write_from-requires c =
    put_asks (mem c.args.bytes.now c.args.keys.now c.args.order.now c.args.words.now) c.args.page.0 (length c.args.calldata.now) c.requires (mem c.args.bytes.now c.hold_chunks.new.keys c.hold_chunks.new.order c.hold_chunks.new.words) c.hold_chunks.ensures

pub returns : goal.returns
returns c =
    calldata_put (mem c.args.bytes.now c.args.keys.now c.args.order.now c.args.words.now) c.args.page.0 (length c.args.calldata.now) c.requires (mem c.args.bytes.now c.hold_chunks.new.keys c.hold_chunks.new.order c.hold_chunks.new.words) c.hold_chunks.ensures c.args.calldata.now refl _ c.write_from.ensures
