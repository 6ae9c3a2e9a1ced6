use native.Mathlib.Omega.{arith}
use Rattle.store.specs.Mem.{mem}
use Rattle.history.proofs.History.{heap_past, aux_past, none_past}
use Rattle.history.proofs.on_formed.rollback_refusal.Goals as goal

pub bounds-words-12 : goal.bounds-words-12
bounds-words-12 c =
    omega (arith, c.requires.lengths.in_words)

pub returns-then-words-heap : goal.returns-then-words-heap
returns-then-words-heap c =
    heap_past (mem c.args.bytes.now c.args.keys.now c.args.order.now c.args.words.now) c.args.heap c.args.aux c.if-words-heap.true

pub bounds-words-13 : goal.bounds-words-13
bounds-words-13 c =
    omega (arith, c.requires.lengths.in_words)

pub returns-then-words-aux : goal.returns-then-words-aux
returns-then-words-aux c =
    aux_past (mem c.args.bytes.now c.args.keys.now c.args.order.now c.args.words.now) c.args.heap c.args.aux c.if-words-heap.false c.if-words-aux.true

pub returns : goal.returns
returns c =
    none_past (mem c.args.bytes.now c.args.keys.now c.args.order.now c.args.words.now) c.args.heap c.args.aux c.if-words-heap.false c.if-words-aux.false
