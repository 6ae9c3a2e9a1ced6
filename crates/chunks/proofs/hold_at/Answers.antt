use native.Mathlib.Omega.{arith}
use Rattle.formed.proofs.Asks.{slots_asked}
use Rattle.formed.proofs.Meaning.{pooling_of}
use Rattle.store.specs.Mem.{mem}
use Rattle.chunks.proofs.Turns.{rank_learnt, after_learnt, one_room, one_held, one_slot}
use Rattle.chunks.proofs.hold_at.Goals as goal

pub hold-s-requires : goal.hold-s-requires
hold-s-requires c =
    let q = c.requires.k_value.0 in record { indexed = (slots_asked (mem c.args.bytes.now c.args.keys.now c.args.order.now c.args.words.now) c.requires.hold_asks.formed, c.requires.k_value.1, pooling_of (mem c.args.bytes.now c.args.keys.now c.args.order.now c.args.words.now) c.requires.hold_asks.formed); k_nonzero = (omega arith, one_room c.args.bytes.now c.args.keys.now c.args.order.now c.args.words.now c.args.page.0 c.args.chunk c.requires.hold_asks c.args.k q) }

pub learn-requires : goal.learn-requires
learn-requires c =
    let h = c.hold-s.ensures.held in
    let a = one_held c.args.bytes.now c.args.keys.now c.args.order.now c.args.words.now c.args.page.0 c.args.chunk c.requires.hold_asks c.args.k c.requires.k_value.0 _ _ _ _ h in
    let l = a.shows.formed.lengths in
    let few = c.requires.hold_asks.formed.lengths.chunks_hi in
    let s = h.slot_in in
    let w = l.in_words in
    let o = l.in_order in
    let lo = l.chunks_lo in record { head_length_in_bounds = (omega arith, l.chunks_hi, l.pages_hi); fixed_count_in_bounds = (omega arith, omega arith) }

pub returns : goal.returns
returns c =
    let h = c.hold-s.ensures.held in
    let a = one_held c.args.bytes.now c.args.keys.now c.args.order.now c.args.words.now c.args.page.0 c.args.chunk c.requires.hold_asks c.args.k c.requires.k_value.0 _ _ _ _ h in
    let b = after_learnt _ _ _ _ _ a _ c.learn.ensures in record {
      shows = b.shows;
      words_unchanged = b.pages;
      value = (one_slot c.args.bytes.now c.args.keys.now c.args.order.now c.args.words.now c.args.page.0 c.args.chunk c.requires.hold_asks c.args.k c.requires.k_value.0 _ _ _ _ h _, h.slot_in);
      ranked = rank_learnt _ a.shows.formed _ _ c.hold-s.ensures.ranked _ c.learn.ensures;
    }
