use Rattle.bodies.proofs.Walks.{walk_on}
use Rattle.bodies.proofs.place_after.Goals as goal

pub returns-then-s-words : goal.returns-then-s-words
returns-then-s-words c =
    walk_on c.args.keys.now c.args.order.now c.args.words.now c.args.page.0 c.args.chunk c.args.last c.next_to-s.result c.requires.findable.0 c.requires.findable.1 c.requires.last_bound.1 c.if-s-words.true (c.next_to-s.ensures c.if-s-words.true)
