use mathlib.Core.Path.{sym, ap, ◌∙◌, subst}
use Prim.Native.Nat.{ℕ}
use lib.ListN.{length}
use Rattle.std.specs.Prelude.{Result, ⊤}
use Rattle.outcome.specs.declared.Refusal.{Refusal}
use Rattle.outcome.specs.Outcome.{answered, answer_outcome, number_of, status_of}
use Rattle.outcome.specs.Nonzero.{number_nonzero}
use Rattle.outcome.proofs.Numbers.{status_answered, handed_on}
use Rattle.store.specs.Mem.{mem}
use Rattle.view.specs.Calls.{nothing, OpenDoes}
use Rattle.opening.specs.Opening.{setting_from}
use Rattle.opening.proofs.Refusals.{open_refused, open_asks, calldata_asks, open_done}
use Rattle.opening.proofs.open.Goals as goal

pub returns-in_err-open_refusal : goal.returns-in_err-open_refusal
returns-in_err-open_refusal c =
    let s = setting_from c.args.layout c.args.capacity.chunks c.args.capacity.pages c.args.capacity.journal_words in
    let m = mem c.args.bytes.now c.args.keys.now c.args.order.now c.args.words.now in
    let e = c.in_err-open_refusal.field-0.0 in
    subst (λ (r : Result ⊤ Refusal). OpenDoes m s c.args.calldata.now (answer_outcome nothing r) m) (sym (handed_on c.from_residual.result c.from_residual.ensures.1))
    (open_refused nothing s m c.args.calldata.now (number_of e) (ap (λ (i : ℕ). answered i nothing) (sym (ap status_of c.in_err-open_refusal.was)) ∙ status_answered nothing c.open_refusal.result ∙ c.open_refusal.ensures) (number_nonzero e))

pub start-requires : goal.start-requires
start-requires c =
    open_asks nothing (setting_from c.args.layout c.args.capacity.chunks c.args.capacity.pages c.args.capacity.journal_words) (mem c.args.bytes.now c.args.keys.now c.args.order.now c.args.words.now) (length c.args.calldata.now) (status_of c.open_refusal.result) (status_answered nothing c.open_refusal.result ∙ c.open_refusal.ensures) (ap status_of c.in_ok-open_refusal.was)

pub put_calldata-requires : goal.put_calldata-requires
put_calldata-requires c =
    calldata_asks nothing (setting_from c.args.layout c.args.capacity.chunks c.args.capacity.pages c.args.capacity.journal_words) (mem c.args.bytes.now c.args.keys.now c.args.order.now c.args.words.now) (length c.args.calldata.now) (status_of c.open_refusal.result) (status_answered nothing c.open_refusal.result ∙ c.open_refusal.ensures) (ap status_of c.in_ok-open_refusal.was) (mem c.start.new.bytes c.start.new.keys c.start.new.order c.start.new.words) c.start.ensures

pub returns : goal.returns
returns c =
    open_done nothing (setting_from c.args.layout c.args.capacity.chunks c.args.capacity.pages c.args.capacity.journal_words) (mem c.args.bytes.now c.args.keys.now c.args.order.now c.args.words.now) c.args.calldata.now (status_of c.open_refusal.result) (status_answered nothing c.open_refusal.result ∙ c.open_refusal.ensures) (ap status_of c.in_ok-open_refusal.was) (mem c.start.new.bytes c.start.new.keys c.start.new.order c.start.new.words) _ c.start.ensures c.put_calldata.ensures
