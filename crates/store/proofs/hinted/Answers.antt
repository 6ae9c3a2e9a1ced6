use Rattle.store.proofs.Finds.{named}
use Rattle.std.proofs.Common.{arith}
use Rattle.store.proofs.hinted.Goals as goal

pub returns-then-is_place : goal.returns-then-is_place
returns-then-is_place c =
    λ l. named c.args.keys.now c.args.words.now _ c.args.page.0 c.args.chunk c.args.order.now c.requires (c.is_place.ensures c.if-is_place.true)

pub overflow_cast-s : goal.overflow_cast-s
overflow_cast-s c = omega (arith, c.type_inv.order c.hint_place-h.result)
