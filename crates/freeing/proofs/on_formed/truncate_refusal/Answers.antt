use native.Mathlib.Omega.{arith}
use Rattle.store.specs.Mem.{mem}
use Rattle.view.specs.View.{view_of}
use Rattle.freeing.proofs.Calls.{truncate_13, truncate_0}
use Rattle.freeing.proofs.on_formed.truncate_refusal.Goals as goal

pub bounds-words-11 : goal.bounds-words-11
bounds-words-11 c =
    omega (arith, c.requires.lengths.in_words)

pub returns-then-words-len : goal.returns-then-words-len
returns-then-words-len c =
    let m = mem c.args.bytes.now c.args.keys.now c.args.order.now c.args.words.now in
    truncate_13 (view_of m) c.args.len c.if-words-len.true

pub returns : goal.returns
returns c =
    let m = mem c.args.bytes.now c.args.keys.now c.args.order.now c.args.words.now in
    truncate_0 (view_of m) c.args.len c.if-words-len.false
