use mathlib.Core.Path.{◌∙◌}
use Rattle.store.specs.Mem.{mem}
use Rattle.read_steps.proofs.Bytes.{slot_near, slot_far}
use Rattle.read_steps.proofs.slot_at.Goals as goal

pub returns-then-k : goal.returns-then-k
returns-then-k c =
    λ b. slot_far (mem b c.args.keys.now c.args.order.now c.args.words.now) c.args.page.0 c.args.k c.if-k.true

pub returns : goal.returns
returns c =
    λ b. c.place_of.ensures ∙ slot_near (mem b c.args.keys.now c.args.order.now c.args.words.now) c.args.page.0 c.args.k c.if-k.false
