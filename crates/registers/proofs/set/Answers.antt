use native.Mathlib.Omega.{arith}
use borrow.Author.Tests.{ne_eqb}
use Rattle.registers.proofs.Values.{put_is}
use Rattle.registers.proofs.set.Goals as goal

pub returns-then-n-ne0 : goal.returns-then-n-ne0
returns-then-n-ne0 c =
    let n = c.args.n in
    rw c.put_flag-flags.ensures (put_is c.args.registers.now n c.args.word.limbs c.args.tagged c.requires.0 c.requires.1 (ne_eqb _ 0 c.if-n-ne0.true))
