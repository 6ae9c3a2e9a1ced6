use Rattle.freeing.proofs.Calls.{is_none_lem, is_fixed_lem, is_dynamic_lem}
use Rattle.store.specs.Mem.{mem}
use Rattle.checks.proofs.Chosen.{layout_asks}
use mathlib.Core.Path.{sym, ap, ◌∙◌}
use mathlib.Core.Bool.{not}
use Rattle.page_ids.specs.Decode.{page_of}
use Rattle.page_ids.proofs.Known.{some_known, unknown}
use Rattle.freeing.proofs.on_formed.is_dynamic.Goals as goal

pub returns-in_default : goal.returns-in_default
returns-in_default c =
    let m = mem c.args.bytes.now c.args.keys.now c.args.order.now c.args.words.now in
    is_none_lem m c.args.page.0 _ c.decode.ensures (unknown c.in_default.is)

pub returns-then-not-is_fixed : goal.returns-then-not-is_fixed
returns-then-not-is_fixed c =
    let m = mem c.args.bytes.now c.args.keys.now c.args.order.now c.args.words.now in
    is_dynamic_lem m c.args.page.0 _ (sym (ap page_of c.in-Some.is) ∙ c.decode.ensures) (some_known c.in-Some.decoded) (sym c.is_fixed.ensures ∙ c.if-not-is_fixed.true) _ c.is_allocated.ensures

pub returns-else-not-is_fixed : goal.returns-else-not-is_fixed
returns-else-not-is_fixed c =
    let m = mem c.args.bytes.now c.args.keys.now c.args.order.now c.args.words.now in
    ap not c.if-not-is_fixed.false ∙ is_fixed_lem m c.args.page.0 _ (sym (ap page_of c.in-Some.is) ∙ c.decode.ensures) (sym c.is_fixed.ensures ∙ c.if-not-is_fixed.false)

pub decode-requires : goal.decode-requires
decode-requires c = layout_asks _ c.requires
