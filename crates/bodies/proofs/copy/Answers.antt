use mathlib.Core.Path.{refl}
use Prim.Native.Nat.{◌+◌}
use native.Mathlib.Omega.{arith}
use lib.ListN.{get_or, length-set}
use Rattle.bodies.proofs.Copies.{copy_none, copy_more, copy_done}
use Rattle.bodies.proofs.copy.Goals as goal

pub loop-i-init : goal.loop-i-init
loop-i-init c = (refl, copy_none _ _ _)

pub loop-i-preserved : goal.loop-i-preserved
loop-i-preserved c =
    (simp length-set c.loop-i.invariant.0, copy_more c.args.to c.loop-i.i (λ x. get_or c.args.src.now (c.args.from + x) 0) c.args.dst.now c.loop-i.dst (omega (arith, c.requires, c.loop-i.invariant.0)) c.loop-i.invariant.1)

pub returns : goal.returns
returns c =
    copy_done _ _ c.loop-i.i c.args.n c.args.dst.now c.loop-i.dst c.loop-i.auto.i-end c.loop-i-test.false c.loop-i.invariant.1
