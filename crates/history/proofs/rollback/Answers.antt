use Rattle.index.proofs.Logic.{passed, failed}
use Rattle.formed.proofs.Meaning.{well_formed_means}
use Rattle.view.specs.Calls.{Rollback}
use Rattle.view.proofs.Refused.{ill_does}
use Rattle.history.proofs.rollback.Goals as goal

pub returns-then-not-well_formed : goal.returns-then-not-well_formed
returns-then-not-well_formed c =
    ill_does _ (Rollback c.args.heap c.args.aux) (failed c.well_formed-2.ensures c.if-not-well_formed.true)

pub rollback-requires : goal.rollback-requires
rollback-requires c =
    well_formed_means _ (passed c.well_formed-2.ensures c.if-not-well_formed.false)
