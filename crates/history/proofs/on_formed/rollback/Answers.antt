use mathlib.Core.Path.{sym, ap, ◌∙◌, subst}
use Rattle.store.specs.Mem.{mem}
use Rattle.view.specs.View.{setting_of, view_of}
use Rattle.view.specs.Checks.{rollback_checks}
use Rattle.view.specs.Calls.{Rollback, next_of, nothing, CallDoes}
use Rattle.view.proofs.Refused.{refused_does, done_does}
use Rattle.history.proofs.History.{rollback_refusals, rollback_asks}
use Rattle.std.specs.Prelude.{Result, ⊤}
use Rattle.outcome.specs.declared.Refusal.{Refusal}
use Rattle.outcome.specs.Outcome.{answer_outcome, number_of, status_of}
use Rattle.outcome.specs.Nonzero.{number_nonzero}
use Rattle.outcome.proofs.Numbers.{handed_on}
use Rattle.history.proofs.on_formed.rollback.Goals as goal

pub returns-in_err-rollback_refusal : goal.returns-in_err-rollback_refusal
returns-in_err-rollback_refusal c =
    let m = mem c.args.bytes.now c.args.keys.now c.args.order.now c.args.words.now in
    subst (λ (r : Result ⊤ Refusal). CallDoes m (Rollback c.args.heap c.args.aux) (answer_outcome nothing r) m) (sym (handed_on c.from_residual.result c.from_residual.ensures.1))
    (refused_does m c.requires (rollback_checks (view_of m) c.args.heap c.args.aux) (setting_of m) (next_of (setting_of m) (Rollback c.args.heap c.args.aux) (view_of m)) (number_of c.in_err-rollback_refusal.field-0.0) (sym (ap status_of c.in_err-rollback_refusal.was) ∙ c.rollback_refusal.ensures) (number_nonzero c.in_err-rollback_refusal.field-0.0))

pub roll_back-requires : goal.roll_back-requires
roll_back-requires c =
    rollback_asks (mem c.args.bytes.now c.args.keys.now c.args.order.now c.args.words.now) c.args.heap c.args.aux c.requires (sym c.rollback_refusal.ensures ∙ (ap status_of c.in_ok-rollback_refusal.was))

pub returns : goal.returns
returns c =
    let m = mem c.args.bytes.now c.args.keys.now c.args.order.now c.args.words.now in
    done_does m c.requires (rollback_checks (view_of m) c.args.heap c.args.aux) (setting_of m) (next_of (setting_of m) (Rollback c.args.heap c.args.aux) (view_of m)) (rollback_refusals m c.args.heap c.args.aux) (sym c.rollback_refusal.ensures ∙ (ap status_of c.in_ok-rollback_refusal.was)) c.roll_back.ensures
