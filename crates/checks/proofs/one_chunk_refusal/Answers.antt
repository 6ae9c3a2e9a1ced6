use mathlib.Core.Path.{sym, ◌∙◌}
use Prim.Native.Nat.{◌/◌}
use Rattle.store.specs.Mem.{mem}
use Rattle.view.specs.View.{setting_of, view_of}
use Rattle.checks.proofs.Numbers.{room_10, room_11, room_0}
use Rattle.checks.proofs.One.{listed_entry, one_number}
use Rattle.checks.proofs.one_chunk_refusal.Goals as goal

pub returns-then-short_of_chunk : goal.returns-then-short_of_chunk
returns-then-short_of_chunk c =
    let m = (mem c.args.bytes.now c.args.keys.now c.args.order.now c.args.words.now) in
    let p = c.args.page.0 in
    let a = c.args.address.0 in
    one_number m c.requires.well_formed.0 p a c.requires.page_value.0 c.requires.page_value.1 10 (room_10 (setting_of m) (view_of m) p (a / 256) 1 1 (listed_entry m p c.requires.page_value.0) (sym c.short_of_chunk.ensures ∙ c.if-short_of_chunk.true))

pub returns-then-short_of_words : goal.returns-then-short_of_words
returns-then-short_of_words c =
    let m = (mem c.args.bytes.now c.args.keys.now c.args.order.now c.args.words.now) in
    let p = c.args.page.0 in
    let a = c.args.address.0 in
    one_number m c.requires.well_formed.0 p a c.requires.page_value.0 c.requires.page_value.1 11 (room_11 (setting_of m) (view_of m) p (a / 256) 1 1 (listed_entry m p c.requires.page_value.0) (sym c.short_of_chunk.ensures ∙ c.if-short_of_chunk.false) (sym c.short_of_words.ensures ∙ c.if-short_of_words.true))

pub returns : goal.returns
returns c =
    let m = (mem c.args.bytes.now c.args.keys.now c.args.order.now c.args.words.now) in
    let p = c.args.page.0 in
    let a = c.args.address.0 in
    one_number m c.requires.well_formed.0 p a c.requires.page_value.0 c.requires.page_value.1 0 (room_0 (setting_of m) (view_of m) p (a / 256) 1 1 (listed_entry m p c.requires.page_value.0) (sym c.short_of_chunk.ensures ∙ c.if-short_of_chunk.false) (sym c.short_of_words.ensures ∙ c.if-short_of_words.false))
