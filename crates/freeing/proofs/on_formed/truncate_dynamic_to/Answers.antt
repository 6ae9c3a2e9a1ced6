use Rattle.view.proofs.Refused.{refused_does, done_does}
use Rattle.freeing.proofs.Calls.{truncate_refusals, truncate_passed, shorten_asked, truncated_shows}
use Rattle.view.specs.Calls.{Call, next_of, nothing, CallDoes}
use Rattle.view.specs.Checks.{truncate_checks}
use Rattle.view.specs.View.{setting_of, view_of}
use Rattle.store.specs.Mem.{mem}
use mathlib.Core.Path.{sym, ap, ◌∙◌, subst}
use Rattle.std.specs.Prelude.{Result, ⊤}
use Rattle.outcome.specs.declared.Refusal.{Refusal}
use Rattle.outcome.specs.Outcome.{answer_outcome, number_of, status_of}
use Rattle.outcome.specs.Nonzero.{number_nonzero}
use Rattle.outcome.proofs.Numbers.{handed_on}
use Rattle.freeing.proofs.on_formed.truncate_dynamic_to.Goals as goal

pub returns-in_err-truncate_refusal : goal.returns-in_err-truncate_refusal
returns-in_err-truncate_refusal c =
    let m = mem c.args.bytes.now c.args.keys.now c.args.order.now c.args.words.now in
    subst (λ (r : Result ⊤ Refusal). CallDoes m (Call.Truncate c.args.len) (answer_outcome nothing r) m) (sym (handed_on c.from_residual.result c.from_residual.ensures.1))
    (refused_does m c.requires (truncate_checks (view_of m) c.args.len) (setting_of m) (next_of (setting_of m) (Call.Truncate c.args.len) (view_of m)) (number_of c.in_err-truncate_refusal.field-0.0) (sym (ap status_of c.in_err-truncate_refusal.was) ∙ c.truncate_refusal.ensures) (number_nonzero c.in_err-truncate_refusal.field-0.0))

pub free_groups-requires : goal.free_groups-requires
free_groups-requires c =
    c.requires

pub shorten-requires : goal.shorten-requires
shorten-requires c =
    let m = mem c.args.bytes.now c.args.keys.now c.args.order.now c.args.words.now in
    shorten_asked m c.args.len (truncate_passed (view_of m) c.args.len (sym c.truncate_refusal.ensures ∙ (ap status_of c.in_ok-truncate_refusal.was))) _ c.free_groups.ensures

pub returns : goal.returns
returns c =
    let m = mem c.args.bytes.now c.args.keys.now c.args.order.now c.args.words.now in
    done_does m c.requires (truncate_checks (view_of m) c.args.len) (setting_of m) (next_of (setting_of m) (Call.Truncate c.args.len) (view_of m)) (truncate_refusals (view_of m) c.args.len) (sym c.truncate_refusal.ensures ∙ (ap status_of c.in_ok-truncate_refusal.was)) (truncated_shows m c.args.len (truncate_passed (view_of m) c.args.len (sym c.truncate_refusal.ensures ∙ (ap status_of c.in_ok-truncate_refusal.was))) _ c.free_groups.ensures _ c.shorten.ensures)
