use Rattle.store.proofs.Finds.{names_by}
use mathlib.Core.Bool.{false≢true}
use Rattle.std.proofs.Common.{arith}
use Rattle.store.proofs.is_place.Goals as goal

pub returns : goal.returns
returns c =
    λ e. names_by c.args.keys.now c.args.words.now c.args.s c.args.page.0 c.args.chunk c.wrapping_sub_u64-above.result c.if-s-c.false c.wrapping_sub_u64-above.ensures.value (omega (arith, c.ranges.chunk)) (omega (arith, c.if-above-ne0.false)) (omega (arith, c.if-e-keys.false)) c.requires.3 e

pub returns-then-s-c : goal.returns-then-s-c
returns-then-s-c c = λ e. absurd (false≢true e)

pub returns-then-above-ne0 : goal.returns-then-above-ne0
returns-then-above-ne0 c = λ e. absurd (false≢true e)

pub returns-then-e-keys : goal.returns-then-e-keys
returns-then-e-keys c = λ e. absurd (false≢true e)
