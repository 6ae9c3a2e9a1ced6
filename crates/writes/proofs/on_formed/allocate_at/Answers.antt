use mathlib.Core.Path.{sym, ap, ◌∙◌, subst}
use mathlib.Core.List.{[]}
use native.Mathlib.Omega.{arith}
use Rattle.view.proofs.Refused.{next, refused_does, done_does}
use Rattle.store.specs.Mem.{mem}
use Rattle.view.specs.View.{setting_of, view_of}
use Rattle.view.specs.Checks.{allocate_checks}
use Rattle.view.specs.Calls.{Call, next_of, nothing, CallDoes}
use Rattle.checks.proofs.Passed.{room_refusals, allocate_passed}
use Rattle.write_steps.proofs.Chains.{allocate_asks}
use Rattle.std.specs.Prelude.{Result, ⊤}
use Rattle.outcome.specs.declared.Refusal.{Refusal}
use Rattle.outcome.specs.Outcome.{answer_outcome, number_of, status_of}
use Rattle.outcome.specs.Nonzero.{number_nonzero}
use Rattle.outcome.proofs.Numbers.{handed_on}
use Rattle.writes.proofs.on_formed.allocate_at.Goals as goal

pub returns-in_err-allocate_refusal : goal.returns-in_err-allocate_refusal
returns-in_err-allocate_refusal c =
    let m = mem c.args.bytes.now c.args.keys.now c.args.order.now c.args.words.now in
    subst (λ (r : Result ⊤ Refusal). CallDoes m (Call.Allocate c.args.page.0 []) (answer_outcome nothing r) m) (sym (handed_on c.from_residual.result c.from_residual.ensures.1))
    (refused_does m c.requires (allocate_checks (setting_of m) (view_of m) c.args.page.0 0) (setting_of m) (next_of (setting_of m) (Call.Allocate c.args.page.0 []) (view_of m)) (number_of c.in_err-allocate_refusal.field-0.0) (sym (ap status_of c.in_err-allocate_refusal.was) ∙ c.allocate_refusal.ensures) (number_nonzero c.in_err-allocate_refusal.field-0.0))

pub list_page-requires : goal.list_page-requires
list_page-requires c =
    let m = mem c.args.bytes.now c.args.keys.now c.args.order.now c.args.words.now in
    let free = sym c.allocate_refusal.ensures ∙ (ap status_of c.in_ok-allocate_refusal.was) in
    (allocate_asks m c.args.page.0 (omega (arith, c.well_formed.1.1.1.1.0)) (c.requires, free), (allocate_passed (setting_of m) (view_of m) c.args.page.0 0 0 free).2)

pub returns : goal.returns
returns c =
    let m = mem c.args.bytes.now c.args.keys.now c.args.order.now c.args.words.now in
    done_does m c.requires (allocate_checks (setting_of m) (view_of m) c.args.page.0 0) (setting_of m) (next_of (setting_of m) (Call.Allocate c.args.page.0 []) (view_of m)) (next (next (next (room_refusals (setting_of m) (view_of m) c.args.page.0 0 0 0)))) (sym c.allocate_refusal.ensures ∙ (ap status_of c.in_ok-allocate_refusal.was)) c.list_page.ensures.shows
