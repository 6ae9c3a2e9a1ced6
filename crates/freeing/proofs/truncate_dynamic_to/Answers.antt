use Rattle.index.proofs.Logic.{passed, failed}
use Rattle.formed.proofs.Meaning.{well_formed_means}
use Rattle.view.specs.Calls.{Call}
use Rattle.view.proofs.Refused.{ill_does}
use Rattle.freeing.proofs.truncate_dynamic_to.Goals as goal

pub returns-then-not-well_formed : goal.returns-then-not-well_formed
returns-then-not-well_formed c =
    ill_does _ (Call.Truncate c.args.len) (failed c.well_formed-2.ensures c.if-not-well_formed.true)

pub truncate_dynamic_to-requires : goal.truncate_dynamic_to-requires
truncate_dynamic_to-requires c =
    well_formed_means _ (passed c.well_formed-2.ensures c.if-not-well_formed.false)
