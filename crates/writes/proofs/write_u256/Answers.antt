use Rattle.index.proofs.Logic.{passed, failed}
use Rattle.word.specs.Value.{value}
use Rattle.formed.proofs.Meaning.{well_formed_means}
use Rattle.view.specs.Calls.{Call}
use Rattle.view.proofs.Refused.{ill_does}
use Rattle.writes.proofs.write_u256.Goals as goal

pub returns-then-not-well_formed : goal.returns-then-not-well_formed
returns-then-not-well_formed c =
    ill_does _ (Call.WriteWord c.args.page.0 c.args.address.0 (value c.args.word.limbs)) (failed c.well_formed-2.ensures c.if-not-well_formed.true)

pub write_u256-requires : goal.write_u256-requires
write_u256-requires c =
    well_formed_means _ (passed c.well_formed-2.ensures c.if-not-well_formed.false)
