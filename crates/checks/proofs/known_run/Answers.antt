use native.Mathlib.Omega.{arith}
use Rattle.checks.proofs.Tables.{run_longer}
use Rattle.checks.proofs.known_run.Goals as goal

pub loop-i-init : goal.loop-i-init
loop-i-init c = λ x a b. absurd (omega arith)

pub overflow_add-k : goal.overflow_add-k
overflow_add-k c =
    omega (arith, c.key_of-k.ensures, c.requires.2, c.requires.3, c.loop-i-test.true)

pub known_slot-s-requires : goal.known_slot-s-requires
known_slot-s-requires c =
    (c.requires.0, omega (arith, c.key_of-k.ensures, c.requires.1))

pub overflow_add-guess : goal.overflow_add-guess
overflow_add-guess c =
    omega (arith, c.if-c-s.false, c.requires.0.slots.few)

pub loop-i-preserved : goal.loop-i-preserved
loop-i-preserved c =
    run_longer c.args.keys.now c.args.words.now c.args.page.0 c.args.first c.loop-i.i c.known_slot-s.result c.loop-i.invariant c.known_slot-s.ensures c.if-c-s.false

pub returns : goal.returns
returns c =
    (omega arith, λ x a b. c.loop-i.invariant x a (omega (arith, b, c.loop-i-test.false)))
