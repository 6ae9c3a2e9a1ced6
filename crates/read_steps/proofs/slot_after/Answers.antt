use mathlib.Core.Path.{◌∙◌}
use Rattle.store.specs.Mem.{mem}
use Rattle.bodies.proofs.Walks.{walk_on}
use Rattle.read_steps.proofs.Bytes.{slot_near, slot_far}
use Rattle.read_steps.proofs.slot_after.Goals as goal

pub returns-then-k : goal.returns-then-k
returns-then-k c =
    λ b. slot_far (mem b c.args.keys.now c.args.order.now c.args.words.now) c.args.page.0 c.args.k c.if-k.true

pub returns-then-s-words : goal.returns-then-s-words
returns-then-s-words c =
    λ b. walk_on c.args.keys.now c.args.order.now c.args.words.now c.args.page.0 c.args.k c.args.last c.next_to-s.result c.requires.findable c.if-k.false c.requires.last_bound.1 c.if-s-words.true (c.next_to-s.ensures c.if-s-words.true) ∙ slot_near (mem b c.args.keys.now c.args.order.now c.args.words.now) c.args.page.0 c.args.k c.if-k.false
