use Rattle.std.proofs.Common.{refl, arith}
use Rattle.index.proofs.Removes.{down_more, down_rest}
use Rattle.index.proofs.move_down.Goals as goal

pub loop-j-init : goal.loop-j-init
loop-j-init c = (λ i l. refl, record { long = refl; low = λ i l. refl; high = λ i a b. absurd (omega arith) })

pub loop-j-preserved : goal.loop-j-preserved
loop-j-preserved c =
    (down_rest _ _ _ _ _ c.requires.0 c.loop-j.auto.j c.loop-j.invariant.0, down_more _ _ _ _ _ c.requires.0 c.loop-j.auto.j (omega (arith, c.loop-j-test.true)) c.loop-j.invariant.0 c.loop-j.invariant.1)
