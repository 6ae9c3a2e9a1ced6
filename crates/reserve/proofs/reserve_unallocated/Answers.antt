use mathlib.Core.Path.{sym, ap, ◌∙◌}
use Rattle.outcome.specs.Outcome.{status_of}
use Rattle.store.specs.Mem.{mem}
use Rattle.reserve.proofs.Reserving.{reserve_prepare, reserve_done}
use Rattle.reserve.proofs.reserve_unallocated.Goals as goal

pub prepare_unallocated-requires : goal.prepare_unallocated-requires
prepare_unallocated-requires c =
    (reserve_prepare (mem c.args.bytes.now c.args.keys.now c.args.order.now c.args.words.now) c.args.page.0 c.args.first c.args.count 0 (sym (c.unallocated_refusal.ensures c.args.first 0) ∙ ap status_of c.in_ok-unallocated_refusal.was) c.requires.0, c.requires.1)

pub returns : goal.returns
returns c =
    λ w. reserve_done (mem c.args.bytes.now c.args.keys.now c.args.order.now c.args.words.now) c.args.page.0 c.args.first c.args.count w (sym (c.unallocated_refusal.ensures c.args.first w) ∙ ap status_of c.in_ok-unallocated_refusal.was) _ c.prepare_unallocated.ensures
