use native.Mathlib.Omega.{arith}
use Rattle.index.proofs.Orders.{index_rises}
use Rattle.store.proofs.Slots.{part_index, part_fits}
use Rattle.pool.proofs.Gives.{in_order, ranks_end, chunks_in, repoolable, given}
use Rattle.pool.proofs.give.Goals as goal

pub rank_below-from-requires : goal.rank_below-from-requires
rank_below-from-requires c =
    (part_fits _ _ _ c.requires.indexed.0, index_rises _ _ _ (part_index _ _ _ c.requires.indexed.0))

pub rank_below-to-requires : goal.rank_below-to-requires
rank_below-to-requires c =
    (part_fits _ _ _ c.requires.indexed.0, index_rises _ _ _ (part_index _ _ _ c.requires.indexed.0))

pub wipe-requires : goal.wipe-requires
wipe-requires c =
    let r = repoolable c.args.bytes.now _ _ _ c.requires.indexed.0 c.requires.indexed.1 _ _ _ _ c.requires.words_in_bounds.0 c.requires.words_in_bounds.1 c.requires.words_in_bounds.2 c.rank_below-from.ensures c.rank_below-to.ensures in
    (r.start, r.end, chunks_in c.args.bytes.now _ _ _ c.requires.indexed.0 c.requires.indexed.1 _ _ _ _ c.requires.words_in_bounds.0 c.requires.words_in_bounds.1 c.requires.words_in_bounds.2 c.rank_below-from.ensures c.rank_below-to.ensures)

pub put_slots-requires : goal.put_slots-requires
put_slots-requires c =
    repoolable c.args.bytes.now _ _ _ c.requires.indexed.0 c.requires.indexed.1 _ _ _ _ c.requires.words_in_bounds.0 c.requires.words_in_bounds.1 c.requires.words_in_bounds.2 c.rank_below-from.ensures c.rank_below-to.ensures

pub slice_bounds-remove-end : goal.slice_bounds-remove-end
slice_bounds-remove-end c =
    omega (arith, c.requires.indexed.0.in_keys)

pub slice_bounds-remove-end-2 : goal.slice_bounds-remove-end-2
slice_bounds-remove-end-2 c =
    omega (arith, c.requires.indexed.0.in_order)

pub remove-requires : goal.remove-requires
remove-requires c =
    (part_index _ _ _ c.requires.indexed.0, in_order c.args.bytes.now _ _ _ c.requires.indexed.0 c.requires.indexed.1 _ _ _ _ c.requires.words_in_bounds.0 c.requires.words_in_bounds.1 c.requires.words_in_bounds.2 c.rank_below-from.ensures c.rank_below-to.ensures, ranks_end c.args.bytes.now _ _ _ c.requires.indexed.0 c.requires.indexed.1 _ _ _ _ c.requires.words_in_bounds.0 c.requires.words_in_bounds.1 c.requires.words_in_bounds.2 c.rank_below-from.ensures c.rank_below-to.ensures)

pub overflow_sub-words : goal.overflow_sub-words
overflow_sub-words c =
    let u = in_order c.args.bytes.now _ _ _ c.requires.indexed.0 c.requires.indexed.1 _ _ _ _ c.requires.words_in_bounds.0 c.requires.words_in_bounds.1 c.requires.words_in_bounds.2 c.rank_below-from.ensures c.rank_below-to.ensures in omega (arith, u)

pub overflow_sub-words-2 : goal.overflow_sub-words-2
overflow_sub-words-2 c =
    let e = ranks_end c.args.bytes.now _ _ _ c.requires.indexed.0 c.requires.indexed.1 _ _ _ _ c.requires.words_in_bounds.0 c.requires.words_in_bounds.1 c.requires.words_in_bounds.2 c.rank_below-from.ensures c.rank_below-to.ensures in
    omega (arith, e)

pub bounds-words-9-2 : goal.bounds-words-9-2
bounds-words-9-2 c =
    omega (arith, c.requires.indexed.0.head, c.put_slots.auto)

pub returns : goal.returns
returns c =
    given _ _ _ _ c.requires.indexed.0 c.requires.indexed.1 _ _ _ _ c.requires.words_in_bounds.0 c.requires.words_in_bounds.1 c.requires.words_in_bounds.2 c.rank_below-from.ensures c.rank_below-to.ensures _ _ _ _ c.wipe.ensures c.put_slots.ensures c.remove.ensures
