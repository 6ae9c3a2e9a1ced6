use mathlib.Core.Path.{sym, ◌∙◌}
use Rattle.store.specs.Mem.{mem}
use Rattle.compare.proofs.Halves.{second_half, first_fails}
use Rattle.compare.proofs.on_formed.equal.Goals as goal

pub returns-then-covered : goal.returns-then-covered
returns-then-covered c =
    c.covered-then-covered.ensures ∙ second_half (mem c.args.left_bytes.now c.args.left_keys.now c.args.left_order.now c.args.left_words.now) (mem c.args.right_bytes.now c.args.right_keys.now c.args.right_order.now c.args.right_words.now) c.requires.well_formed c.requires.well_formed_2 (sym c.covered.ensures ∙ c.if-covered.true)

pub returns-else-covered : goal.returns-else-covered
returns-else-covered c =
    c.if-covered.false
    ∙ first_fails (mem c.args.left_bytes.now c.args.left_keys.now c.args.left_order.now c.args.left_words.now) (mem c.args.right_bytes.now c.args.right_keys.now c.args.right_order.now c.args.right_words.now) c.requires.well_formed c.requires.well_formed_2 (sym c.covered.ensures ∙ c.if-covered.false)
