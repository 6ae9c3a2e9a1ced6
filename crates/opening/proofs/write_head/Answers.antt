use native.Mathlib.Omega.{arith}
use lib.ListN.{length-set}
use Rattle.opening.proofs.Starts.{head_stores}
use Rattle.opening.proofs.write_head.Goals as goal

pub returns : goal.returns
returns c =
    head_stores c.args.layout.static_memory.0 c.args.layout.calldata.0 c.args.layout.bootloader_heap.0 c.args.layout.bootloader_aux.0 c.args.layout.base.0 c.args.layout.stride c.args.capacity.chunks c.args.capacity.pages c.args.capacity.journal_words c.args.words.now c.requires

pub bounds-words-1 : goal.bounds-words-1
bounds-words-1 c = simp length-set (omega arith)

pub bounds-words-2 : goal.bounds-words-2
bounds-words-2 c = simp length-set (omega arith)

pub bounds-words-3 : goal.bounds-words-3
bounds-words-3 c = simp length-set (omega arith)

pub bounds-words-4 : goal.bounds-words-4
bounds-words-4 c = simp length-set (omega arith)

pub bounds-words-5 : goal.bounds-words-5
bounds-words-5 c = simp length-set (omega arith)

pub bounds-words-6 : goal.bounds-words-6
bounds-words-6 c = simp length-set (omega arith)

pub bounds-words-7 : goal.bounds-words-7
bounds-words-7 c = simp length-set (omega arith)

pub bounds-words-8 : goal.bounds-words-8
bounds-words-8 c = simp length-set (omega arith)

pub bounds-words-9 : goal.bounds-words-9
bounds-words-9 c = simp length-set (omega arith)

pub bounds-words-10 : goal.bounds-words-10
bounds-words-10 c = simp length-set (omega arith)

pub bounds-words-11 : goal.bounds-words-11
bounds-words-11 c = simp length-set (omega arith)

pub bounds-words-12 : goal.bounds-words-12
bounds-words-12 c = simp length-set (omega arith)

pub bounds-words-13 : goal.bounds-words-13
bounds-words-13 c = simp length-set (omega arith)

pub bounds-words-15 : goal.bounds-words-15
bounds-words-15 c = simp length-set (omega arith)

pub shape_of-words : goal.shape_of-words
shape_of-words c = simp length-set
