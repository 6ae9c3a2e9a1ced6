use mathlib.Core.Path.{◌∙◌, ap}
use native.Mathlib.Omega.{arith}
use lib.ListN.{take}
use Rattle.index.specs.Index.{seek}
use Rattle.store.specs.Mem.{slot_count}
use Rattle.store.proofs.Slots.{slot_of_key}
use Rattle.journal.proofs.slot_near.Goals as goal

pub returns-then-has_key : goal.returns-then-has_key
returns-then-has_key c =
    slot_of_key c.args.keys.now c.args.order.now c.args.words.now c.requires.0 c.key_of-k.result c.args.guess (omega (arith, c.key_of-k.ensures)) (c.has_key.ensures c.if-has_key.true) ∙ ap (seek (take (slot_count c.args.words.now) c.args.keys.now)) c.key_of-k.ensures

pub returns-then-has_key-2 : goal.returns-then-has_key-2
returns-then-has_key-2 c =
    slot_of_key c.args.keys.now c.args.order.now c.args.words.now c.requires.0 c.key_of-k.result _ (omega (arith, c.key_of-k.ensures)) (c.has_key-2.ensures c.if-has_key-2.true) ∙ ap (seek (take (slot_count c.args.words.now) c.args.keys.now)) c.key_of-k.ensures
