use mathlib.Core.Path.{refl, sym, ◌∙◌}
use borrow.Author.Tests.{eq-eqb, ne_eqb, leb-true, leb-false}
use Rattle.store.specs.Mem.{mem}
use Rattle.formed.proofs.Meaning.{pooling_of}
use Rattle.formed.specs.Parts.{pool}
use Rattle.view.specs.View.{setting_of, view_of}
use Rattle.checks.proofs.Journals.{full_unlisted}
use Rattle.checks.proofs.Numbers.{room_9, room_10, room_0}
use Rattle.checks.proofs.Tables.{entry_asked, pool_short, pool_enough}
use Rattle.checks.proofs.unallocated_refusal.Goals as goal

pub returns-then-words : goal.returns-then-words
returns-then-words c =
    λ first w. let m = (mem c.args.bytes.now c.args.keys.now c.args.order.now c.args.words.now) in room_9 (setting_of m) (view_of m) c.args.page.0 first c.args.count w (sym (entry_asked m c.requires.0 c.args.page.0 c.requires.1) ∙ eq-eqb _ _ c.if-words.true)

pub has_pooled-requires : goal.has_pooled-requires
has_pooled-requires c =
    (pooling_of (mem c.args.bytes.now c.args.keys.now c.args.order.now c.args.words.now) c.requires.0).part

pub returns-then-not-has_pooled : goal.returns-then-not-has_pooled
returns-then-not-has_pooled c =
    λ first w. let m = (mem c.args.bytes.now c.args.keys.now c.args.order.now c.args.words.now) in room_10 (setting_of m) (view_of m) c.args.page.0 first c.args.count w (sym (entry_asked m c.requires.0 c.args.page.0 c.requires.1) ∙ ne_eqb _ _ c.if-words.false) (pool_short m c.requires.0 c.args.page.0 c.requires.1 first c.args.count (pool m) refl (leb-false c.args.count (pool m) (sym c.has_pooled.ensures ∙ c.if-not-has_pooled.true)))

pub returns : goal.returns
returns c =
    λ first w. let m = (mem c.args.bytes.now c.args.keys.now c.args.order.now c.args.words.now) in room_0 (setting_of m) (view_of m) c.args.page.0 first c.args.count w (sym (entry_asked m c.requires.0 c.args.page.0 c.requires.1) ∙ ne_eqb _ _ c.if-words.false) (pool_enough m c.requires.0 c.args.page.0 c.requires.1 first c.args.count (pool m) refl (leb-true c.args.count (pool m) (sym c.has_pooled.ensures ∙ c.if-not-has_pooled.false))) (full_unlisted m c.requires.0 c.args.page.0 w c.requires.1)
