use mathlib.Core.Path.{sym, ap, ◌∙◌}
use Rattle.page_ids.specs.Decode.{page_of}
use Rattle.page_ids.proofs.Known.{some_known, unknown}
use Rattle.index.proofs.Logic.{passed, failed}
use Rattle.store.specs.Mem.{mem}
use Rattle.view.specs.View.{setting_of, view_of}
use Rattle.checks.proofs.Chosen.{layout_asks}
use Rattle.freeing.proofs.Calls.{free_4, free_5, free_7, free_0}
use Rattle.freeing.proofs.on_formed.free_refusal.Goals as goal

pub returns-in_default : goal.returns-in_default
returns-in_default c =
    let m = mem c.args.bytes.now c.args.keys.now c.args.order.now c.args.words.now in
    free_4 (setting_of m) (view_of m) c.args.page.0 _ c.decode.ensures (unknown c.in_default.is)

pub returns-then-is_fixed : goal.returns-then-is_fixed
returns-then-is_fixed c =
    let m = mem c.args.bytes.now c.args.keys.now c.args.order.now c.args.words.now in
    free_5 (setting_of m) (view_of m) c.args.page.0 _ (sym (ap page_of c.in-Some.is) ∙ c.decode.ensures) (some_known c.in-Some.decoded) (sym c.is_fixed.ensures ∙ c.if-is_fixed.true)

pub returns-then-not-is_allocated : goal.returns-then-not-is_allocated
returns-then-not-is_allocated c =
    let m = mem c.args.bytes.now c.args.keys.now c.args.order.now c.args.words.now in
    free_7 (setting_of m) (view_of m) c.args.page.0 _ (sym (ap page_of c.in-Some.is) ∙ c.decode.ensures) (some_known c.in-Some.decoded) (sym c.is_fixed.ensures ∙ c.if-is_fixed.false) (failed c.is_allocated.ensures c.if-not-is_allocated.true)

pub returns : goal.returns
returns c =
    let m = mem c.args.bytes.now c.args.keys.now c.args.order.now c.args.words.now in
    free_0 (setting_of m) (view_of m) c.args.page.0 _ (sym (ap page_of c.in-Some.is) ∙ c.decode.ensures) (some_known c.in-Some.decoded) (sym c.is_fixed.ensures ∙ c.if-is_fixed.false) (passed c.is_allocated.ensures c.if-not-is_allocated.false)

pub decode-requires : goal.decode-requires
decode-requires c = layout_asks _ c.requires
