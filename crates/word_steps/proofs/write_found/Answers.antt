use mathlib.Core.Path.{sym, ◌∙◌}
use native.Mathlib.Omega.{arith}
use Rattle.word.specs.Value.{value}
use Rattle.store.specs.Mem.{mem}
use Rattle.word_steps.proofs.Found.{found_refused, found_asks, found_does}
use Rattle.word_steps.proofs.write_found.Goals as goal

pub returns-then-short_of_words : goal.returns-then-short_of_words
returns-then-short_of_words c =
    let m = mem c.args.bytes.now c.args.keys.now c.args.order.now c.args.words.now in
    found_refused m c.args.page.0 c.args.address.0 c.args.s c.args.t c.requires (omega (arith, c.well_formed.1.1.1.1.0)) (omega (arith, c.well_formed.1.1.1.1.1.0)) (sym c.short_of_words.ensures ∙ c.if-short_of_words.true) (value c.args.word.limbs)

pub write_at-requires : goal.write_at-requires
write_at-requires c =
    let m = mem c.args.bytes.now c.args.keys.now c.args.order.now c.args.words.now in
    found_asks m c.args.page.0 c.args.address.0 c.args.s c.args.t c.requires (omega (arith, c.well_formed.1.1.1.1.0)) (omega (arith, c.well_formed.1.1.1.1.1.0)) (sym c.short_of_words.ensures ∙ c.if-short_of_words.false)

pub returns : goal.returns
returns c =
    let m = mem c.args.bytes.now c.args.keys.now c.args.order.now c.args.words.now in
    found_does m c.args.page.0 c.args.address.0 c.args.s c.args.t c.requires (omega (arith, c.well_formed.1.1.1.1.0)) (omega (arith, c.well_formed.1.1.1.1.1.0)) (sym c.short_of_words.ensures ∙ c.if-short_of_words.false) (value c.args.word.limbs) _ c.write_at.ensures
