use Rattle.index.proofs.Orders.{sorted_le, slot_lt}
use native.Mathlib.Nat.{lt_of_le_of_lt}
use Prim.Native.Nat.{◌-◌}
use native.Mathlib.Omega.{arith}
use Rattle.index.proofs.rank.Goals as goal

pub bounds-keys-s : goal.bounds-keys-s
bounds-keys-s c =
    slot_lt _ _ _ c.requires.1 (c.args.n - 1) (omega arith)

pub returns-then-keys-s : goal.returns-then-keys-s
returns-then-keys-s c =
    record { within = omega arith; below = λ i l. lt_of_le_of_lt (sorted_le _ _ _ c.requires.1 i (c.args.n - 1) (omega arith) (omega arith)) c.if-keys-s.true; above = λ i l m. omega arith }
