use mathlib.Core.Path.{ap}
use Prim.Native.Nat.{ℕ}
use native.Mathlib.Omega.{arith}
use Rattle.store.specs.Mem.{mem}
use Rattle.reads.proofs.Answers.{mark_small, marks_are}
use Rattle.reads.proofs.on_formed.snapshot.Goals as goal

pub overflow_cast-result : goal.overflow_cast-result
overflow_cast-result c =
    let m = mem c.args.bytes.now c.args.keys.now c.args.order.now c.args.words.now in
    omega (arith, mark_small m c.requires 0 (omega arith))

pub overflow_cast-result-2 : goal.overflow_cast-result-2
overflow_cast-result-2 c =
    let m = mem c.args.bytes.now c.args.keys.now c.args.order.now c.args.words.now in
    omega (arith, mark_small m c.requires 1 (omega arith))

pub returns : goal.returns
returns c =
    let e = marks_are (mem c.args.bytes.now c.args.keys.now c.args.order.now c.args.words.now) in
    (ap (λ (x : ℕ × ℕ). x.0) e, ap (λ (x : ℕ × ℕ). x.1) e)
