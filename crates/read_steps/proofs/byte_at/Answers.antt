use mathlib.Core.Path.{refl}
use Prim.Native.Nat.{◌/◌}
use Rattle.formed.proofs.Hints.{find_asked}
use Rattle.store.specs.Mem.{mem}
use Rattle.read_steps.proofs.Bytes.{byte_held, byte_none}
use Rattle.read_steps.proofs.byte_at.Goals as goal

pub slot_at-s-requires : goal.slot_at-s-requires
slot_at-s-requires c =
    let m = mem c.args.bytes.now c.args.keys.now c.args.order.now c.args.words.now in
    find_asked m c.requires

pub returns-then-s-words : goal.returns-then-s-words
returns-then-s-words c =
    let m = mem c.args.bytes.now c.args.keys.now c.args.order.now c.args.words.now in
    byte_none m c.requires c.args.page.0 (c.args.address.0 / 256) c.slot_at-s.result (c.slot_at-s.ensures c.args.bytes.now) c.if-s-words.true c.args.address.0 refl

pub returns : goal.returns
returns c =
    let m = mem c.args.bytes.now c.args.keys.now c.args.order.now c.args.words.now in
    byte_held m c.requires c.args.page.0 (c.args.address.0 / 256) c.slot_at-s.result (c.slot_at-s.ensures c.args.bytes.now) c.if-s-words.false c.args.address.0 _ refl refl
