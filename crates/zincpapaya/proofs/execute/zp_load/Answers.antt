use Rattle.formed.proofs.Meaning.{well_formed_means}
use Rattle.index.proofs.Logic.{passed}
use Rattle.abi.proofs.Executing.{lengths, executes, load, load_is, no_stop}
use Rattle.zincpapaya.proofs.execute.zp_load.Goals as goal

pub load-run-requires : goal.load-run-requires
load-run-requires c = record { well_formed = well_formed_means _ (passed c.well_formed-2.ensures c.if-not-well_formed.false); registers_len = (lengths c.args.frame.now c.args.registers.now (passed c.lengths_fit.ensures c.if-not-lengths_fit.false)).1 }

pub returns : goal.returns
returns c =
    executes (passed c.lengths_fit.ensures c.if-not-lengths_fit.false) load (load_is c.area_of-area.ensures c.frame_of-before.ensures c.load_places-places.ensures) c.load-run.result c.load-run.ensures c.report.ensures (λ k _ e. no_stop e)
