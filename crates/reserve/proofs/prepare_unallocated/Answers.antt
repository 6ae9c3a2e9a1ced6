use mathlib.Core.Path.{ap, ◌∙◌}
use Prim.Native.Nat.{ℕ}
use native.Mathlib.Omega.{arith}
use Rattle.store.specs.Keys.{key_of}
use Rattle.store.specs.Mem.{mem}
use Rattle.formed.proofs.Asks.{entry_few, slots_asked}
use Rattle.reserve.proofs.Reserving.{list_asks, hold_asks, prepared}
use Rattle.reserve.proofs.prepare_unallocated.Goals as goal

pub list_page-e-requires : goal.list_page-e-requires
list_page-e-requires c =
    (list_asks (mem c.args.bytes.now c.args.keys.now c.args.order.now c.args.words.now) c.args.page.0 c.args.first c.args.count c.requires.0, c.requires.1)

pub key_of-k-requires : goal.key_of-k-requires
key_of-k-requires c =
    let few = entry_few (mem c.args.bytes.now c.list_page-e.new.keys c.list_page-e.new.order c.list_page-e.new.words) c.list_page-e.ensures.shows.formed c.args.page.0 in
    (omega (arith, few, c.list_page-e.ensures.value), omega (arith, c.requires.0.top))

pub rank_of-at-requires : goal.rank_of-at-requires
rank_of-at-requires c =
    slots_asked (mem c.args.bytes.now c.list_page-e.new.keys c.list_page-e.new.order c.list_page-e.new.words) c.list_page-e.ensures.shows.formed

pub hold_chunks-requires : goal.hold_chunks-requires
hold_chunks-requires c = record { hold_asks = hold_asks (mem c.args.bytes.now c.args.keys.now c.args.order.now c.args.words.now) c.args.page.0 c.args.first c.args.count c.requires.0 (mem c.args.bytes.now c.list_page-e.new.keys c.list_page-e.new.order c.list_page-e.new.words) c.list_page-e.ensures.shows; k_value = (c.key_of-k.ensures ∙ ap (λ (x : ℕ). key_of x c.args.first) c.list_page-e.ensures.value, c.rank_of-at.ensures) }

pub returns : goal.returns
returns c =
    prepared (mem c.args.bytes.now c.args.keys.now c.args.order.now c.args.words.now) c.args.page.0 c.args.first c.args.count c.requires.0 (mem c.args.bytes.now c.list_page-e.new.keys c.list_page-e.new.order c.list_page-e.new.words) c.list_page-e.ensures.shows _ c.hold_chunks.ensures
