use Rattle.index.proofs.Logic.{passed, failed}
use Rattle.formed.proofs.Meaning.{well_formed_means}
use Rattle.view.specs.Calls.{DeleteHistory}
use Rattle.view.proofs.Refused.{ill_does}
use Rattle.history.proofs.delete_history.Goals as goal

pub returns-then-not-well_formed : goal.returns-then-not-well_formed
returns-then-not-well_formed c =
    ill_does _ DeleteHistory (failed c.well_formed-2.ensures c.if-not-well_formed.true)

pub delete_history-requires : goal.delete_history-requires
delete_history-requires c =
    well_formed_means _ (passed c.well_formed-2.ensures c.if-not-well_formed.false)
