use mathlib.Core.Path.{sym, ◌∙◌}
use lib.ListN.{length}
use Rattle.store.specs.Mem.{mem}
use Rattle.view.specs.Calls.{nothing}
use Rattle.opening.specs.Opening.{setting_from}
use Rattle.opening.proofs.Refusals.{refused_1, refused_2, refused_10, refused_not}
use Rattle.opening.proofs.open_refusal.Goals as goal

pub returns-then-bad_layout : goal.returns-then-bad_layout
returns-then-bad_layout c =
    refused_1 nothing (setting_from c.args.layout c.args.capacity.chunks c.args.capacity.pages c.args.capacity.journal_words) (mem c.args.bytes.now c.args.keys.now c.args.order.now c.args.words.now) (length c.args.calldata.now) (sym c.bad_layout.ensures ∙ c.if-bad_layout.true)

pub returns-then-not-sizes_right : goal.returns-then-not-sizes_right
returns-then-not-sizes_right c =
    refused_2 nothing (setting_from c.args.layout c.args.capacity.chunks c.args.capacity.pages c.args.capacity.journal_words) (mem c.args.bytes.now c.args.keys.now c.args.order.now c.args.words.now) (length c.args.calldata.now) (sym c.bad_layout.ensures ∙ c.if-bad_layout.false) (sym (c.sizes_right.ensures c.args.layout) ∙ c.if-not-sizes_right.true)

pub returns-then-c-calldata : goal.returns-then-c-calldata
returns-then-c-calldata c =
    refused_10 nothing (setting_from c.args.layout c.args.capacity.chunks c.args.capacity.pages c.args.capacity.journal_words) (mem c.args.bytes.now c.args.keys.now c.args.order.now c.args.words.now) (length c.args.calldata.now) (sym c.bad_layout.ensures ∙ c.if-bad_layout.false) (sym (c.sizes_right.ensures c.args.layout) ∙ c.if-not-sizes_right.false) c.if-c-calldata.true

pub returns : goal.returns
returns c =
    refused_not nothing (setting_from c.args.layout c.args.capacity.chunks c.args.capacity.pages c.args.capacity.journal_words) (mem c.args.bytes.now c.args.keys.now c.args.order.now c.args.words.now) (length c.args.calldata.now) (sym c.bad_layout.ensures ∙ c.if-bad_layout.false) (sym (c.sizes_right.ensures c.args.layout) ∙ c.if-not-sizes_right.false) c.if-c-calldata.false
