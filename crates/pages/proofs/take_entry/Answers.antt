use mathlib.Core.Path.{◌∙◌}
use Prim.Native.Nat.{◌-◌}
use native.Mathlib.Nat.{div-le_self}
use native.Mathlib.Omega.{arith}
use lib.ListN.{get_or, length-set}
use Rattle.pages.proofs.Taking.{part_room, in_use_few, insertable, taken}
use Rattle.pages.proofs.take_entry.Goals as goal

pub insert-requires : goal.insert-requires
insert-requires c =
    insertable _ _ _ _ c.requires _ c.free_place-e.ensures

pub overflow_add-words : goal.overflow_add-words
overflow_add-words c =
    let h = in_use_few _ _ _ _ c.requires in omega (arith, h)

pub overflow_add-group : goal.overflow_add-group
overflow_add-group c =
    let h = div-le_self (c.args.page.0 - get_or c.args.words.now 4 0) (get_or c.args.words.now 5 0) in omega (arith, h, c.well_formed.1.1.1)

pub shape_of-words : goal.shape_of-words
shape_of-words c =
    c.raise.auto.words ∙ length-set c.args.words.now 10 _

pub returns : goal.returns
returns c =
    taken _ _ _ _ c.requires _ c.free_place-e.ensures c.insert.new.keys c.insert.new.order c.raise.new.words c.insert.ensures.0 c.insert.ensures.1 c.raise.ensures

pub free_place-e-requires : goal.free_place-e-requires
free_place-e-requires c = part_room _ _ _ _ c.requires
