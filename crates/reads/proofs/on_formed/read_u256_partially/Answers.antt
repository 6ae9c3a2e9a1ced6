use mathlib.Core.Path.{sym, ap, ◌∙◌}
use Prim.Native.Nat.{ℕ, ◌-◌}
use native.Mathlib.Omega.{arith}
use Rattle.word.specs.Value.{big_endian}
use Rattle.store.specs.Mem.{mem}
use Rattle.view.specs.View.{view_of}
use Rattle.view.specs.Steps.{run, padded}
use Rattle.view.specs.Checks.{partial_checks}
use Rattle.reads.proofs.Answers.{on_formed, partial_over, partial_within, pair_told}
use Rattle.reads.proofs.on_formed.read_u256_partially.Goals as goal

pub returns-then-n-gt32 : goal.returns-then-n-gt32
returns-then-n-gt32 c =
    let m = mem c.args.bytes.now c.args.keys.now c.args.order.now c.args.words.now in
    let n = c.args.end.0 - c.args.start.0 in
    let a : ℕ × ℕ = (big_endian (padded (run (view_of m) c.args.page.0 c.args.start.0 n)), n) in
    sym
    (on_formed m (partial_checks c.args.start.0 c.args.end.0) a c.requires ∙ partial_over a c.args.start.0 c.args.end.0
    (omega (
      arith,
      c.span-n.ensures,
      c.if-n-gt32.true,
    )))

pub returns : goal.returns
returns c =
    let m = mem c.args.bytes.now c.args.keys.now c.args.order.now c.args.words.now in
    let n = c.args.end.0 - c.args.start.0 in
    let a : ℕ × ℕ = (big_endian (padded (run (view_of m) c.args.page.0 c.args.start.0 n)), n) in
    sym
    (on_formed m (partial_checks c.args.start.0 c.args.end.0) a c.requires ∙ partial_within a c.args.start.0 c.args.end.0 (omega (arith, c.span-n.ensures, c.if-n-gt32.false))
    ∙ pair_told
    (c.from_big_endian.ensures ∙ ap big_endian (c.read_padded-read.ensures ∙ ap (λ (x : ℕ). padded (run (view_of m) c.args.page.0 c.args.start.0 x)) c.span-n.ensures))
    (omega (arith, c.span-n.ensures)))
