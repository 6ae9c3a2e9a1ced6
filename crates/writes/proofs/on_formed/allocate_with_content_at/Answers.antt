use mathlib.Core.Path.{sym, ap, ◌∙◌, subst}
use lib.ListN.{length}
use Rattle.view.proofs.Refused.{next, refused_does, done_does}
use Rattle.store.specs.Mem.{mem}
use Rattle.view.specs.View.{setting_of, view_of}
use Rattle.view.specs.Checks.{allocate_checks}
use Rattle.view.specs.Calls.{Call, next_of, nothing, CallDoes}
use Rattle.checks.proofs.Passed.{room_refusals}
use Rattle.std.specs.Prelude.{Result, ⊤}
use Rattle.outcome.specs.declared.Refusal.{Refusal}
use Rattle.outcome.specs.Outcome.{answer_outcome, number_of, status_of}
use Rattle.outcome.specs.Nonzero.{number_nonzero}
use Rattle.outcome.proofs.Numbers.{handed_on}
use Rattle.writes.proofs.on_formed.allocate_with_content_at.Goals as goal

pub returns-in_err-allocate_refusal : goal.returns-in_err-allocate_refusal
returns-in_err-allocate_refusal c =
    let m = mem c.args.bytes.now c.args.keys.now c.args.order.now c.args.words.now in
    subst (λ (r : Result ⊤ Refusal). CallDoes m (Call.Allocate c.args.page.0 c.args.contents.now) (answer_outcome nothing r) m) (sym (handed_on c.from_residual.result c.from_residual.ensures.1))
    (refused_does m c.requires (allocate_checks (setting_of m) (view_of m) c.args.page.0 (length c.args.contents.now)) (setting_of m) (next_of (setting_of m) (Call.Allocate c.args.page.0 c.args.contents.now) (view_of m)) (number_of c.in_err-allocate_refusal.field-0.0) (sym (ap status_of c.in_err-allocate_refusal.was) ∙ c.allocate_refusal.ensures) (number_nonzero c.in_err-allocate_refusal.field-0.0))

pub fill-requires : goal.fill-requires
fill-requires c =
    (c.requires, sym c.allocate_refusal.ensures ∙ (ap status_of c.in_ok-allocate_refusal.was))

pub returns : goal.returns
returns c =
    let m = mem c.args.bytes.now c.args.keys.now c.args.order.now c.args.words.now in
    done_does m c.requires (allocate_checks (setting_of m) (view_of m) c.args.page.0 (length c.args.contents.now)) (setting_of m) (next_of (setting_of m) (Call.Allocate c.args.page.0 c.args.contents.now) (view_of m)) (next (next (next (room_refusals (setting_of m) (view_of m) c.args.page.0 0 (length c.args.contents.now) 0)))) (sym c.allocate_refusal.ensures ∙ (ap status_of c.in_ok-allocate_refusal.was)) c.fill.ensures
