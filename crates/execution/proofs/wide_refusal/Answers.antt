use mathlib.Core.Path.{sym, ap, ◌∙◌}
use mathlib.Core.Bool.{true}
use mathlib.Core.List.{[], ◌∷◌}
use Rattle.outcome.specs.Outcome.{refused, number_of, status_of}
use Rattle.outcome.specs.Nonzero.{number_nonzero}
use Rattle.store.specs.Mem.{mem}
use Rattle.view.specs.View.{setting_of, view_of}
use Rattle.execution.proofs.Lists.{write_refusals, more_number, more_none}
use Rattle.execution.proofs.wide_refusal.Goals as goal

pub returns-in-Err : goal.returns-in-Err
returns-in-Err c =
    let m = mem c.args.bytes.now c.args.keys.now c.args.order.now c.args.words.now in
    more_number ((true, refused 15) ∷ []) (write_refusals (setting_of m) (view_of m) c.args.page.0 c.args.address.0) (number_of c.in-Err.refusal) (sym (ap status_of c.in-Err.is) ∙ c.word_refusal.ensures) (number_nonzero c.in-Err.refusal)

pub returns-in-Ok : goal.returns-in-Ok
returns-in-Ok c =
    let m = mem c.args.bytes.now c.args.keys.now c.args.order.now c.args.words.now in
    more_none ((true, refused 15) ∷ []) (write_refusals (setting_of m) (view_of m) c.args.page.0 c.args.address.0) (sym c.word_refusal.ensures ∙ ap status_of c.in-Ok.is)
