use mathlib.Core.Path.{refl, ◌∙◌}
use native.Mathlib.Omega.{arith}
use Rattle.store.specs.Mem.{mem}
use Rattle.journal.proofs.Aligned.{aligned_none, aligned_asks, aligned_more, aligned_done}
use Rattle.journal.proofs.note_aligned.Goals as goal

pub bounds-words-6 : goal.bounds-words-6
bounds-words-6 c =
    omega (arith, c.requires.formed.lengths.in_words)

pub loop-i-init : goal.loop-i-init
loop-i-init c =
    (refl, refl, aligned_none (mem c.args.bytes.now c.args.keys.now c.args.order.now c.args.words.now) c.args.j c.args.first c.args.count c.requires, omega (arith, c.requires.formed.lengths.chunks_hi))

pub note-guess-requires : goal.note-guess-requires
note-guess-requires c =
    (aligned_asks (mem c.args.bytes.now c.args.keys.now c.args.order.now c.args.words.now) c.args.j c.args.first c.args.count c.requires (mem c.loop-i.bytes c.args.keys.now c.args.order.now c.loop-i.words) c.loop-i.i c.loop-i-test.true c.loop-i.invariant.2, c.loop-i.invariant.3)

pub loop-i-preserved : goal.loop-i-preserved
loop-i-preserved c =
    (c.note-guess.auto.bytes ∙ c.loop-i.invariant.0, c.note-guess.auto.words ∙ c.loop-i.invariant.1, aligned_more (mem c.args.bytes.now c.args.keys.now c.args.order.now c.args.words.now) c.args.j c.args.first c.args.count c.requires (mem c.loop-i.bytes c.args.keys.now c.args.order.now c.loop-i.words) c.loop-i.i c.loop-i-test.true c.loop-i.invariant.2 (mem c.note-guess.new.bytes c.args.keys.now c.args.order.now c.note-guess.new.words) c.note-guess.ensures.shows, c.note-guess.ensures.upper_bound)

pub returns : goal.returns
returns c =
    aligned_done (mem c.args.bytes.now c.args.keys.now c.args.order.now c.args.words.now) c.args.j c.args.first c.args.count c.requires c.loop-i.i (mem c.loop-i.bytes c.args.keys.now c.args.order.now c.loop-i.words) c.loop-i.auto.i-end c.loop-i-test.false c.loop-i.invariant.2
