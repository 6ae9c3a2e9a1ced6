use mathlib.Core.Path.{sym, ◌∙◌}
use Rattle.store.specs.Mem.{mem}
use Rattle.view.specs.View.{setting_of, view_of}
use Rattle.checks.proofs.Numbers.{room_10, room_11, room_0}
use Rattle.checks.proofs.One.{listed_entry}
use Rattle.checks.proofs.allocated_refusal.Goals as goal

pub returns-then-short_of_chunks : goal.returns-then-short_of_chunks
returns-then-short_of_chunks c =
    let m = (mem c.args.bytes.now c.args.keys.now c.args.order.now c.args.words.now) in room_10 (setting_of m) (view_of m) c.args.page.0 c.args.first c.args.count c.args.w (listed_entry m c.args.page.0 c.requires.locates.1) (sym c.short_of_chunks.ensures ∙ c.if-short_of_chunks.true)

pub returns-then-short_of_words : goal.returns-then-short_of_words
returns-then-short_of_words c =
    let m = (mem c.args.bytes.now c.args.keys.now c.args.order.now c.args.words.now) in room_11 (setting_of m) (view_of m) c.args.page.0 c.args.first c.args.count c.args.w (listed_entry m c.args.page.0 c.requires.locates.1) (sym c.short_of_chunks.ensures ∙ c.if-short_of_chunks.false) (sym c.short_of_words.ensures ∙ c.if-short_of_words.true)

pub returns : goal.returns
returns c =
    let m = (mem c.args.bytes.now c.args.keys.now c.args.order.now c.args.words.now) in room_0 (setting_of m) (view_of m) c.args.page.0 c.args.first c.args.count c.args.w (listed_entry m c.args.page.0 c.requires.locates.1) (sym c.short_of_chunks.ensures ∙ c.if-short_of_chunks.false) (sym c.short_of_words.ensures ∙ c.if-short_of_words.false)
