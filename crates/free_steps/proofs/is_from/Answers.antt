use Rattle.store.specs.Mem.{layout_of}
use Rattle.free_steps.proofs.Groups.{told_by}
use native.Mathlib.Omega.{arith}
use borrow.Author.Rules.{rules}
use Rattle.free_steps.proofs.is_from.Goals as goal

pub overflow_sub-result-then-x-ne0 : goal.overflow_sub-result-then-x-ne0
overflow_sub-result-then-x-ne0 c =
    let h = c.requires.2 (omega (arith, c.if-x-ne0.true)) in search rules

pub returns-then-x-ne0 : goal.returns-then-x-ne0
returns-then-x-ne0 c =
    told_by (layout_of c.args.words.now) _ _ c.if-x-ne0.true
