use Rattle.std.proofs.Common.{◌≡◌, ◌+◌, ◌/◌, drop, ap, ◌∙◌, arith}
use Rattle.index.specs.Index.{seek}
use Rattle.store.specs.Mem.{slot_count}
use Rattle.store.specs.Keys.{key_of}
use Rattle.store.specs.Find.{slot_for}
use Rattle.store.proofs.Finds.{next_slot}
use Rattle.store.proofs.Slots.{slot_few}
use Rattle.store.proofs.place_of_last.Goals as goal

pub returns-then-address-le224 : goal.returns-then-address-le224
returns-then-address-le224 c =
    let r = c.if-address-le224.true in
    let e : c.args.address.0 / 256 ≡ (c.args.address.0 + 31) / 256 = omega arith in
    c.requires.1 ∙ ap (slot_for c.args.keys.now c.args.words.now c.args.page.0) e

pub next_to-next-requires : goal.next_to-next-requires
next_to-next-requires c =
    let ix = c.requires.0.slots in
    (ix.head, ix.in_keys, ix.few, omega (arith, slot_few _ _ _ ix (key_of (seek (drop (slot_count c.args.words.now) c.args.keys.now) (c.args.page.0 + 1)) (c.args.address.0 / 256)), c.requires.1))

pub returns-then-next-words : goal.returns-then-next-words
returns-then-next-words c =
    let r = c.if-address-le224.false in
    let e : c.args.address.0 / 256 + 1 ≡ (c.args.address.0 + 31) / 256 = omega arith in
    let f = c.next_to-next.ensures c.if-next-words.true in
    next_slot c.args.keys.now c.args.order.now c.args.words.now c.args.page.0 (c.args.address.0 / 256) c.args.s c.next_to-next.result c.requires.0 (omega arith) c.requires.1 (omega (arith, f.next, c.if-next-words.true)) c.if-next-words.true f ∙ ap (slot_for c.args.keys.now c.args.words.now c.args.page.0) e

pub returns : goal.returns
returns c =
    let r = c.if-address-le224.false in
    let e : c.args.address.0 / 256 + 1 ≡ (c.args.address.0 + 31) / 256 = omega arith in
    c.place_of.ensures ∙ ap (slot_for c.args.keys.now c.args.words.now c.args.page.0) e
