use mathlib.Core.Path.{ap}
use mathlib.Core.List.{List}
use Prim.Native.Nat.{ℕ, ◌+◌}
use native.Mathlib.Omega.{arith}
use lib.ListN.{set}
use Rattle.store.specs.Mem.{held_place, held_now}
use Rattle.store.proofs.Slots.{part_rank}
use Rattle.pool.proofs.Holds.{held_le, free_in, insertable, taken, taken_rank}
use Rattle.pool.proofs.take_slot.Goals as goal

pub overflow_cast-s : goal.overflow_cast-s
overflow_cast-s c =
    let h = free_in _ _ _ c.requires.indexed.0 c.requires.indexed.2 c.requires.k_nonzero.2 _ c.take_lowest-s.ensures.0 in
    omega (arith, h, c.requires.indexed.0.few)

pub insert_at-requires : goal.insert_at-requires
insert_at-requires c =
    (insertable _ _ _ c.requires.indexed.0 c.requires.indexed.2 c.requires.k_nonzero.2 _ c.take_lowest-s.ensures.0 _ c.requires.k_nonzero.0 c.requires.k_nonzero.1, part_rank _ _ _ c.requires.indexed.0 _ _ c.requires.indexed.1)

pub overflow_add-words : goal.overflow_add-words
overflow_add-words c =
    let h = held_le _ _ _ c.requires.indexed.0 in
    omega (arith, h, c.requires.indexed.0.few)

pub returns : goal.returns
returns c =
    let put = c.insert_at.ensures in
    let w = ap (λ (x : List ℕ). set x held_place (held_now c.args.words.now + 1)) c.take_lowest-s.ensures.1 in record { taken = taken _ _ _ c.requires.indexed.0 c.requires.indexed.2 c.requires.k_nonzero.2 _ c.take_lowest-s.ensures.0 _ c.requires.k_nonzero.0 c.requires.k_nonzero.1 c.insert_at.new.keys c.insert_at.new.order c.insert_at.auto.order put.keys_after.0 _ w put.keys_after.1; ranked = taken_rank _ _ _ c.requires.indexed.0 c.requires.indexed.2 c.requires.k_nonzero.2 _ c.take_lowest-s.ensures.0 _ c.requires.k_nonzero.0 c.requires.k_nonzero.1 c.insert_at.new.keys c.insert_at.new.order c.insert_at.auto.order put.keys_after.0 _ w _ put.lower_bound }
