use Rattle.std.proofs.Common.{◌-◌, length, arith}
use Rattle.store.proofs.hint_place.Goals as goal

pub overflow_cast-x-3 : goal.overflow_cast-x-3
overflow_cast-x-3 c =
    omega (arith, c.type_inv.order (length c.args.order.now - 1))
