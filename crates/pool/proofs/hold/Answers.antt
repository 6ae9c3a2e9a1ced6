use Prim.Native.Nat.{◌≤◌, ◌<◌}
use native.Mathlib.Omega.{arith}
use lib.ListN.{take}
use Rattle.index.specs.Index.{seek}
use Rattle.store.specs.Mem.{slot_count}
use Rattle.store.proofs.Slots.{ranked_next}
use Rattle.pool.proofs.Holds.{held_was, held_new, lacking, next_rank}
use Rattle.pool.proofs.hold.Goals as goal

pub returns-then-s-c : goal.returns-then-s-c
returns-then-s-c c =
    let held : seek (take (slot_count c.args.words.now) c.args.keys.now) c.args.k < slot_count c.args.words.now = omega (arith, c.slot_at_rank-s.ensures, c.if-s-c.true) in record { held = held_was _ _ _ c.requires.indexed.0 _ c.requires.k_nonzero.0 _ c.slot_at_rank-s.ensures c.if-s-c.true; ranked = ranked_next _ _ _ c.requires.indexed.0 _ _ c.requires.k_nonzero.0 c.requires.indexed.1 held }

pub take_slot-requires : goal.take_slot-requires
take_slot-requires c =
    let none : slot_count c.args.words.now ≤ seek (take (slot_count c.args.words.now) c.args.keys.now) c.args.k = omega (arith, c.slot_at_rank-s.ensures, c.if-s-c.false) in record { indexed = c.requires.indexed; k_nonzero = (c.requires.k_nonzero.0, none, lacking _ _ _ c.requires.indexed.0 _ c.requires.k_nonzero.0 none c.requires.k_nonzero.1) }

pub returns : goal.returns
returns c =
    let none : slot_count c.args.words.now ≤ seek (take (slot_count c.args.words.now) c.args.keys.now) c.args.k = omega (arith, c.slot_at_rank-s.ensures, c.if-s-c.false) in
    let t = c.take_slot.ensures in record { held = held_new _ _ _ c.requires.indexed.0 _ c.requires.k_nonzero.0 c.requires.indexed.2.part _ _ _ _ t.taken none; ranked = next_rank _ _ _ c.requires.indexed.0 _ c.requires.k_nonzero.0 c.requires.indexed.2.part _ _ _ _ t.taken _ t.ranked }
