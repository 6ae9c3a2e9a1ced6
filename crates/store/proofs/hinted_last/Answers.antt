use Rattle.std.proofs.Common.{◌≡◌, ◌+◌, ◌/◌, ap, ◌∙◌, arith}
use Rattle.store.specs.Find.{slot_for}
use Rattle.store.proofs.hinted_last.Goals as goal

pub returns-then-address-le224 : goal.returns-then-address-le224
returns-then-address-le224 c =
    let r = c.if-address-le224.true in
    let e : c.args.address.0 / 256 ≡ (c.args.address.0 + 31) / 256 = omega arith in
    λ l. c.requires.1 ∙ ap (slot_for c.args.keys.now c.args.words.now c.args.page.0) e

pub returns : goal.returns
returns c =
    let r = c.if-address-le224.false in
    let e : c.args.address.0 / 256 + 1 ≡ (c.args.address.0 + 31) / 256 = omega arith in
    λ l. c.hinted.ensures l ∙ ap (slot_for c.args.keys.now c.args.words.now c.args.page.0) e
