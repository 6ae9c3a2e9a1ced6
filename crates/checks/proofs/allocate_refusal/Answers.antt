use mathlib.Core.Path.{refl, sym, ap, ◌∙◌}
use mathlib.Core.List.{◌∷◌}
use Rattle.store.specs.Mem.{mem}
use Rattle.view.specs.View.{setting_of, view_of}
use Rattle.view.specs.Checks.{capacity_checks_at}
use Rattle.checks.proofs.Chosen.{layout_asks, room_chosen, chosen_4, allocate_5, allocate_6, allocate_room}
use Rattle.outcome.specs.Outcome.{refused}
use Rattle.formed.specs.Pages.{fixed}
use Rattle.page_ids.specs.Decode.{page_of}
use Rattle.page_ids.proofs.Known.{some_known, unknown}
use Rattle.checks.proofs.allocate_refusal.Goals as goal

pub returns-in_default : goal.returns-in_default
returns-in_default c =
    let m = mem c.args.bytes.now c.args.keys.now c.args.order.now c.args.words.now in
    chosen_4 (setting_of m) (view_of m) c.args.page.0 _ c.decode.ensures ((fixed (setting_of m).layout c.args.page.0, refused 5) ∷ ((view_of m).allocated c.args.page.0, refused 6) ∷ capacity_checks_at (setting_of m) (view_of m) c.args.page.0 0 c.args.n 0) (unknown c.in_default.is)

pub returns-then-is_fixed : goal.returns-then-is_fixed
returns-then-is_fixed c =
    let m = mem c.args.bytes.now c.args.keys.now c.args.order.now c.args.words.now in
    allocate_5 (setting_of m) (view_of m) c.args.page.0 _ (sym (ap page_of c.in-Some.is) ∙ c.decode.ensures) c.args.n (some_known c.in-Some.decoded) (sym c.is_fixed.ensures ∙ c.if-is_fixed.true)

pub returns-then-is_allocated : goal.returns-then-is_allocated
returns-then-is_allocated c =
    let m = mem c.args.bytes.now c.args.keys.now c.args.order.now c.args.words.now in
    allocate_6 (setting_of m) (view_of m) c.args.page.0 _ (sym (ap page_of c.in-Some.is) ∙ c.decode.ensures) c.args.n (some_known c.in-Some.decoded) (sym c.is_fixed.ensures ∙ c.if-is_fixed.false) (sym c.is_allocated.ensures ∙ c.if-is_allocated.true)

pub unallocated_refusal-requires : goal.unallocated_refusal-requires
unallocated_refusal-requires c =
    (c.requires, sym c.is_allocated.ensures ∙ c.if-is_allocated.false)

pub returns : goal.returns
returns c =
    let m = mem c.args.bytes.now c.args.keys.now c.args.order.now c.args.words.now in
    allocate_room (setting_of m) (view_of m) c.args.page.0 _ (sym (ap page_of c.in-Some.is) ∙ c.decode.ensures) c.args.n (some_known c.in-Some.decoded) (sym c.is_fixed.ensures ∙ c.if-is_fixed.false) (sym c.is_allocated.ensures ∙ c.if-is_allocated.false) _ (room_chosen 0 c.args.n _ c.touched-count.ensures (setting_of m) (view_of m) c.args.page.0 0 0 _ refl (c.unallocated_refusal.ensures 0 0))

pub decode-requires : goal.decode-requires
decode-requires c = layout_asks _ c.requires

pub is_allocated-requires : goal.is_allocated-requires
is_allocated-requires c = c.requires
