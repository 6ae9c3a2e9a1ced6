use Rattle.view.proofs.Refused.{refused_does, done_does}
use Rattle.freeing.proofs.Calls.{free_refusals, free_passed}
use Rattle.view.specs.Calls.{Call, next_of, nothing, CallDoes}
use Rattle.view.specs.Checks.{free_checks}
use Rattle.view.specs.View.{setting_of, view_of}
use Rattle.store.specs.Mem.{mem}
use mathlib.Core.Path.{sym, ap, ◌∙◌, subst}
use Rattle.std.specs.Prelude.{Result, ⊤}
use Rattle.outcome.specs.declared.Refusal.{Refusal}
use Rattle.outcome.specs.Outcome.{answer_outcome, number_of, status_of}
use Rattle.outcome.specs.Nonzero.{number_nonzero}
use Rattle.outcome.proofs.Numbers.{handed_on}
use Rattle.freeing.proofs.on_formed.deallocate.Goals as goal

pub returns-in_err-free_refusal : goal.returns-in_err-free_refusal
returns-in_err-free_refusal c =
    let m = mem c.args.bytes.now c.args.keys.now c.args.order.now c.args.words.now in
    subst (λ (r : Result ⊤ Refusal). CallDoes m (Call.Free c.args.page.0) (answer_outcome nothing r) m) (sym (handed_on c.from_residual.result c.from_residual.ensures.1))
    (refused_does m c.requires (free_checks (setting_of m) (view_of m) c.args.page.0) (setting_of m) (next_of (setting_of m) (Call.Free c.args.page.0) (view_of m)) (number_of c.in_err-free_refusal.field-0.0) (sym (ap status_of c.in_err-free_refusal.was) ∙ c.free_refusal.ensures) (number_nonzero c.in_err-free_refusal.field-0.0))

pub free_page-requires : goal.free_page-requires
free_page-requires c =
    let m = mem c.args.bytes.now c.args.keys.now c.args.order.now c.args.words.now in
    free_passed m c.args.page.0 c.requires (sym c.free_refusal.ensures ∙ (ap status_of c.in_ok-free_refusal.was))

pub returns : goal.returns
returns c =
    let m = mem c.args.bytes.now c.args.keys.now c.args.order.now c.args.words.now in
    done_does m c.requires (free_checks (setting_of m) (view_of m) c.args.page.0) (setting_of m) (next_of (setting_of m) (Call.Free c.args.page.0) (view_of m)) (free_refusals (setting_of m) (view_of m) c.args.page.0) (sym c.free_refusal.ensures ∙ (ap status_of c.in_ok-free_refusal.was)) c.free_page.ensures.0
