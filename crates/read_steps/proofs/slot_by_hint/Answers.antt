use mathlib.Core.Path.{◌∙◌}
use Rattle.store.specs.Mem.{mem}
use Rattle.read_steps.proofs.Bytes.{slot_near}
use Rattle.read_steps.proofs.slot_by_hint.Goals as goal

pub returns-then-s-words : goal.returns-then-s-words
returns-then-s-words c =
    λ b. c.hinted-s.ensures c.if-s-words.true ∙ slot_near (mem b c.args.keys.now c.args.order.now c.args.words.now) c.args.page.0 c.args.k c.if-k.true
