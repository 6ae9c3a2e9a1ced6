use Rattle.index.proofs.Logic.{passed, failed}
use Rattle.formed.proofs.Meaning.{well_formed_means}
use Rattle.view.specs.Calls.{Call}
use Rattle.view.proofs.Refused.{ill_does}
use Rattle.writes.proofs.write_bytes.Goals as goal

pub returns-then-not-well_formed : goal.returns-then-not-well_formed
returns-then-not-well_formed c =
    ill_does _ (Call.WriteBytes c.args.page.0 c.args.start.0 c.args.src.now) (failed c.well_formed-2.ensures c.if-not-well_formed.true)

pub write_bytes-requires : goal.write_bytes-requires
write_bytes-requires c =
    well_formed_means _ (passed c.well_formed-2.ensures c.if-not-well_formed.false)
