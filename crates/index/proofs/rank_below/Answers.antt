use mathlib.Core.Logic.{⊎_elim}
use Prim.Native.Nat.{◌+◌, ◌-◌, ◌/◌}
use native.Mathlib.Omega.{arith}
use native.Mathlib.Nat.{le_trans, lt_of_le_of_lt}
use borrow.Author.Rules.{rules}
use Rattle.index.proofs.Logic.{lt_or_ge}
use Rattle.index.proofs.Orders.{sorted_le, slot_lt}
use Rattle.index.proofs.rank_below.Goals as goal

pub overflow_cast-s : goal.overflow_cast-s
overflow_cast-s c =
    let l = c.loop-len in
    omega (arith, c.type_inv.order (l.base + (l.len + 1) / 2 - 1))

pub offset_bounds-keys-s : goal.offset_bounds-keys-s
offset_bounds-keys-s c =
    let l = c.loop-len in
    let h = slot_lt _ _ _ c.requires.1 (l.base + (l.len + 1) / 2 - 1) (omega arith) in
    search rules

pub bounds-keys-s : goal.bounds-keys-s
bounds-keys-s c =
    let l = c.loop-len in
    slot_lt _ _ _ c.requires.1 (l.base + (l.len + 1) / 2 - 1) (omega arith)

pub overflow_add-base : goal.overflow_add-base
overflow_add-base c =
    let l = c.loop-len in
    ⊎_elim (λ b. omega (arith, c.step-base.ensures.0 b)) (λ b. omega (arith, c.step-base.ensures.1 b)) (lt_or_ge _ _)

pub loop-len-preserved : goal.loop-len-preserved
loop-len-preserved c =
    let l = c.loop-len in
    let up = c.requires.1 in
    let m = l.base + (l.len + 1) / 2 - 1 in
    ⊎_elim
    (λ b. let e = c.step-base.ensures.0 b in (omega arith, (λ i a. lt_of_le_of_lt (sorted_le _ _ _ up i m (omega arith) (omega arith)) b), (λ i a b. l.invariant.2 i (omega arith) b)))
    (λ b. let e = c.step-base.ensures.1 b in (omega arith, (λ i a. l.invariant.1 i (omega arith)), (λ i a d. le_trans b (sorted_le _ _ _ up m i (omega arith) d))))
    (lt_or_ge _ _)

pub returns : goal.returns
returns c =
    let l = c.loop-len in
    record { within = omega arith; below = l.invariant.1; above = λ i a b. l.invariant.2 i (omega arith) b }

pub loop-len-init : goal.loop-len-init
loop-len-init c = (search rules, (λ i l. omega arith), (λ i l m. omega arith))
