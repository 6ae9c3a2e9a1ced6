use native.Mathlib.Omega.{arith}
use borrow.Author.Rules.{rules}
use Rattle.index.proofs.Orders.{index_fits}
use Rattle.index.proofs.Places.{find_past, find_gap, find_at}
use Rattle.index.proofs.place_at.Goals as goal

pub returns-then-n-at : goal.returns-then-n-at
returns-then-n-at c =
    find_past _ _ _ _ _ c.requires.0 c.requires.1 c.requires.2 c.if-n-at.true

pub returns-then-keys-s : goal.returns-then-keys-s
returns-then-keys-s c =
    find_at _ _ _ _ _ c.requires.0 c.requires.1 c.requires.2 c.if-n-at.false c.if-keys-s.true

pub returns : goal.returns
returns c =
    find_gap _ _ _ _ _ c.requires.0 c.requires.1 c.requires.2 c.if-n-at.false c.if-keys-s.false

pub offset_bounds-order-at : goal.offset_bounds-order-at
offset_bounds-order-at c = let h = index_fits _ _ _ c.requires.0 in search rules

pub bounds-order-at : goal.bounds-order-at
bounds-order-at c = let h = index_fits _ _ _ c.requires.0 in omega arith
