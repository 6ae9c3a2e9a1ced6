use mathlib.Core.Path.{subst}
use Prim.Native.Nat.{ℕ}
use native.Mathlib.Nat.{le_antisymm}
use native.Mathlib.Omega.{arith}
use Rattle.formed.proofs.Asks.{entry_few}
use Rattle.store.specs.Mem.{mem}
use Rattle.view.specs.View.{view_of, setting_of}
use Rattle.view.specs.Does.{Shows}
use Rattle.view.specs.Inner.{holding}
use Rattle.chunks.proofs.Turns.{after_none, rank_by, rank_few, next_key, next_asks, next_after}
use Rattle.chunks.proofs.hold_chunks.Goals as goal

pub loop-i-init : goal.loop-i-init
loop-i-init c =
    (after_none _ _ _ c.requires.hold_asks.formed, rank_by (omega arith) (omega arith) c.requires.k_value.1)

pub overflow_add-first : goal.overflow_add-first
overflow_add-first c =
    omega (arith, c.requires.hold_asks.top, c.loop-i-test.true)

pub overflow_add-at : goal.overflow_add-at
overflow_add-at c =
    omega (arith, rank_few _ c.loop-i.invariant.0.shows.formed _ _ c.loop-i.invariant.1)

pub overflow_add-k : goal.overflow_add-k
overflow_add-k c =
    omega (arith, entry_few (mem c.args.bytes.now c.args.keys.now c.args.order.now c.args.words.now) c.requires.hold_asks.formed c.args.page.0, c.requires.k_value.0, c.loop-i-test.true, c.requires.hold_asks.top)

pub hold_at-requires : goal.hold_at-requires
hold_at-requires c = record { hold_asks = next_asks (mem c.args.bytes.now c.args.keys.now c.args.order.now c.args.words.now) c.args.page.0 c.args.first c.args.count c.requires.hold_asks c.loop-i.i c.loop-i-test.true (mem c.args.bytes.now c.loop-i.keys c.loop-i.order c.loop-i.words) c.loop-i.invariant.0; k_value = (next_key (mem c.args.bytes.now c.args.keys.now c.args.order.now c.args.words.now) c.args.page.0 c.args.first c.args.count c.requires.hold_asks c.loop-i.i c.loop-i-test.true (mem c.args.bytes.now c.loop-i.keys c.loop-i.order c.loop-i.words) c.loop-i.invariant.0 c.args.k c.requires.k_value.0, c.loop-i.invariant.1) }

pub loop-i-preserved : goal.loop-i-preserved
loop-i-preserved c =
    let d = c.hold_at.ensures in
    (next_after (mem c.args.bytes.now c.args.keys.now c.args.order.now c.args.words.now) c.args.page.0 c.args.first c.args.count c.requires.hold_asks c.loop-i.i c.loop-i-test.true (mem c.args.bytes.now c.loop-i.keys c.loop-i.order c.loop-i.words) c.loop-i.invariant.0 _ d.shows d.words_unchanged, rank_by (omega arith) (omega arith) d.ranked)

pub returns : goal.returns
returns c =
    let m = mem c.args.bytes.now c.args.keys.now c.args.order.now c.args.words.now in
    subst (λ (x : ℕ). Shows (setting_of m) (holding c.args.page.0 c.args.first x (view_of m)) (mem c.args.bytes.now c.loop-i.keys c.loop-i.order c.loop-i.words)) (le_antisymm c.loop-i.auto.i-end c.loop-i-test.false) c.loop-i.invariant.0.shows
