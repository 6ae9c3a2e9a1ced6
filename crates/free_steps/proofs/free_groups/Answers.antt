use Rattle.free_steps.proofs.Groups.{long_kept, freeing_none, visit_asked, visited, emptied_shows}
use Rattle.std.proofs.Common.{◌≡◌, ◌+◌}
use Rattle.store.specs.Mem.{mem}
use borrow.Author.Rules.{rules}
use native.Mathlib.Omega.{arith}
use Rattle.free_steps.proofs.free_groups.Goals as goal

pub loop-i-init : goal.loop-i-init
loop-i-init c =
    let m = mem c.args.bytes.now c.args.keys.now c.args.order.now c.args.words.now in freeing_none m c.args.len c.requires

pub free_entry-requires : goal.free_entry-requires
free_entry-requires c = visit_asked _ c.requires _ _ _ c.loop-i.invariant (omega arith) (omega (arith, c.loop-i-test.true))

pub loop-i-preserved : goal.loop-i-preserved
loop-i-preserved c =
    let next : 4 + (c.loop-i.i + 1) ≡ 4 + c.loop-i.i + 1 = omega arith in
    rw next (visited _ c.requires _ _ _ c.loop-i.invariant (omega arith) (visit_asked _ c.requires _ _ _ c.loop-i.invariant (omega arith) (omega (arith, c.loop-i-test.true))) _ c.free_entry.ensures)

pub shape_of-bytes : goal.shape_of-bytes
shape_of-bytes c = (long_kept _ c.requires _ _ _ c.loop-i.invariant (omega arith)).0

pub shape_of-keys : goal.shape_of-keys
shape_of-keys c = (long_kept _ c.requires _ _ _ c.loop-i.invariant (omega arith)).1

pub shape_of-order : goal.shape_of-order
shape_of-order c = (long_kept _ c.requires _ _ _ c.loop-i.invariant (omega arith)).2

pub shape_of-words : goal.shape_of-words
shape_of-words c = (long_kept _ c.requires _ _ _ c.loop-i.invariant (omega arith)).3

pub returns : goal.returns
returns c = emptied_shows _ c.requires _ _ _ c.loop-i.invariant (omega arith) (omega (arith, c.loop-i-test.false))

pub bounds-words-7 : goal.bounds-words-7
bounds-words-7 c = let l = c.requires.lengths.in_words in search rules
