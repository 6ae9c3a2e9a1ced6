use lib.ListN.{length}
use borrow.Author.Tests.{eq-eqb}
use Rattle.outcome.specs.Outcome.{number_of}
use Rattle.formed.proofs.Meaning.{well_formed_means}
use Rattle.index.proofs.Logic.{passed, and_both}
use Rattle.abi.proofs.Executing.{lengths, executes, store, store_is, stop_told, stop_kept}
use Rattle.zincpapaya.proofs.execute.zp_store.Goals as goal

pub store-run-requires : goal.store-run-requires
store-run-requires c = record { well_formed = well_formed_means _ (passed c.well_formed-2.ensures c.if-not-well_formed.false); registers_len = (lengths c.args.frame.now c.args.registers.now (passed c.lengths_fit.ensures c.if-not-lengths_fit.false)).1 }

pub report_stop-requires : goal.report_stop-requires
report_stop-requires c =
    ((lengths c.args.frame.now c.args.registers.now (passed c.lengths_fit.ensures c.if-not-lengths_fit.false)).0, c.if-out-ne1.false)

pub returns : goal.returns
returns c = record { executes = executes (and_both _ _ (passed c.lengths_fit.ensures c.if-not-lengths_fit.false) (eq-eqb (length c.args.out.now) 1 c.if-out-ne1.false)) store (store_is c.area_of-area.ensures c.frame_of-before.ensures c.store_places-places.ensures c.hook_of-stop.ensures) c.store-run.result c.store-run.ensures c.report_stop.ensures.0 (λ k e _. stop_told c.store-run.result.status c.args.out.now c.report_stop.ensures.1 k e); out_unchanged = stop_kept number_of c.store-run.result.status c.args.out.now c.report_stop.ensures.1 c.report_stop.ensures.0.status }
