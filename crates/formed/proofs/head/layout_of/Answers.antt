use native.Mathlib.Omega.{arith}
use Rattle.formed.proofs.Sizes.{width_head}
use Rattle.formed.proofs.head.layout_of.Goals as goal

pub overflow_cast-result : goal.overflow_cast-result
overflow_cast-result c =
    omega (arith, width_head c.args.words.now c.requires.1 0 (omega arith))

pub overflow_cast-result-2 : goal.overflow_cast-result-2
overflow_cast-result-2 c =
    omega (arith, width_head c.args.words.now c.requires.1 1 (omega arith))

pub overflow_cast-result-3 : goal.overflow_cast-result-3
overflow_cast-result-3 c =
    omega (arith, width_head c.args.words.now c.requires.1 2 (omega arith))

pub overflow_cast-result-4 : goal.overflow_cast-result-4
overflow_cast-result-4 c =
    omega (arith, width_head c.args.words.now c.requires.1 3 (omega arith))

pub overflow_cast-result-5 : goal.overflow_cast-result-5
overflow_cast-result-5 c =
    omega (arith, width_head c.args.words.now c.requires.1 4 (omega arith))

pub overflow_cast-result-6 : goal.overflow_cast-result-6
overflow_cast-result-6 c =
    omega (arith, width_head c.args.words.now c.requires.1 5 (omega arith))
