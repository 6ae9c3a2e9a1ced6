use Rattle.checks.proofs.Tables.{key_found}
use Rattle.checks.proofs.known_slot.Goals as goal

pub returns-then-has_key : goal.returns-then-has_key
returns-then-has_key c =
    λ _. key_found c.args.keys.now c.args.order.now c.args.words.now c.requires.0 c.args.page.0 c.args.chunk c.args.k c.args.guess c.requires.1 (c.has_key.ensures c.if-has_key.true)
