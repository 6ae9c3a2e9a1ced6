use Rattle.formed.proofs.Meaning.{well_formed_means}
use Rattle.index.proofs.Logic.{passed}
use Rattle.abi.proofs.Executing.{lengths, executes, load_static, static_is, no_stop}
use Rattle.zincpapaya.proofs.execute.zp_load_static.Goals as goal

pub load_static-run-requires : goal.load_static-run-requires
load_static-run-requires c = record { well_formed = well_formed_means _ (passed c.well_formed-2.ensures c.if-not-well_formed.false); registers_len = (lengths c.args.frame.now c.args.registers.now (passed c.lengths_fit.ensures c.if-not-lengths_fit.false)).1 }

pub returns : goal.returns
returns c =
    executes (passed c.lengths_fit.ensures c.if-not-lengths_fit.false) load_static (static_is c.frame_of-before.ensures c.load_places-places.ensures) c.load_static-run.result c.load_static-run.ensures c.report.ensures (λ k _ e. no_stop e)
