use mathlib.Core.Path.{sym, ap, ◌∙◌}
use Rattle.outcome.specs.Outcome.{status_of}
use native.Mathlib.Omega.{arith}
use Rattle.store.specs.Mem.{mem}
use Rattle.formed.proofs.Asks.{entry_few}
use Rattle.formed.proofs.Hints.{find_asked}
use Rattle.reserve.proofs.Reserving.{entry_listed, reserve_prepare, reserve_done}
use Rattle.reserve.proofs.reserve_allocated.Goals as goal

pub locate-located-requires : goal.locate-located-requires
locate-located-requires c =
    (find_asked (mem c.args.bytes.now c.args.keys.now c.args.order.now c.args.words.now) c.requires.0.formed, c.requires.1, omega (arith, entry_few (mem c.args.bytes.now c.args.keys.now c.args.order.now c.args.words.now) c.requires.0.formed c.args.page.0, c.requires.1), c.requires.0.top)

pub allocated_refusal-requires : goal.allocated_refusal-requires
allocated_refusal-requires c = record { well_formed = (c.requires.0.formed, c.requires.1, c.requires.0.top); locates = (c.locate-located.ensures, entry_listed (mem c.args.bytes.now c.args.keys.now c.args.order.now c.args.words.now) c.requires.0.formed c.args.page.0 c.args.e c.requires.1 c.requires.2, c.requires.0.words) }

pub prepare_allocated-requires : goal.prepare_allocated-requires
prepare_allocated-requires c = record { prepare_asks = (reserve_prepare (mem c.args.bytes.now c.args.keys.now c.args.order.now c.args.words.now) c.args.page.0 c.args.first c.args.count c.args.w (sym c.allocated_refusal.ensures ∙ ap status_of c.in_ok-allocated_refusal.was) c.requires.0, c.requires.1, c.requires.2); locates = c.locate-located.ensures }

pub returns : goal.returns
returns c =
    reserve_done (mem c.args.bytes.now c.args.keys.now c.args.order.now c.args.words.now) c.args.page.0 c.args.first c.args.count c.args.w (sym c.allocated_refusal.ensures ∙ ap status_of c.in_ok-allocated_refusal.was) _ c.prepare_allocated.ensures
