use lib.ListN.{length}
use borrow.Author.Tests.{eq-eqb}
use Rattle.outcome.specs.Outcome.{number_of}
use Rattle.formed.proofs.Meaning.{well_formed_means}
use Rattle.index.proofs.Logic.{passed, and_both}
use Rattle.abi.proofs.Executing.{lengths, pointer_executes, pointer_is, read_kept}
use Rattle.zincpapaya.proofs.execute.zp_load_pointer.Goals as goal

pub load_pointer-run-requires : goal.load_pointer-run-requires
load_pointer-run-requires c = record { well_formed = well_formed_means _ (passed c.well_formed-2.ensures c.if-not-well_formed.false); registers_len = (lengths c.args.frame.now c.args.registers.now (passed c.lengths_fit.ensures c.if-not-lengths_fit.false)).1 }

pub returns : goal.returns
returns c = record { pointer_executes = pointer_executes (and_both _ _ (passed c.lengths_fit.ensures c.if-not-lengths_fit.false) (eq-eqb (length c.args.out.now) 1 c.if-out-ne1.false)) (pointer_is c.frame_of-before.ensures c.load_places-places.ensures) c.load_pointer-run.result c.load_pointer-run.ensures c.report_read.ensures.0 c.args.out.now c.report_read.ensures.1; out_unchanged = read_kept number_of c.load_pointer-run.result.executed.status c.load_pointer-run.result.bytes_read c.args.out.now c.report_read.ensures.1 c.report_read.ensures.0.status }
