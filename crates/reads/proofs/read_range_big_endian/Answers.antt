use mathlib.Core.Path.{refl}
use lib.ListN.{length}
use Rattle.store.specs.Mem.{mem}
use Rattle.formed.proofs.Meaning.{well_formed_means}
use Rattle.view.specs.Checks.{range_checks}
use Rattle.index.proofs.Logic.{passed, failed}
use Rattle.reads.proofs.Answers.{ill, range_refused}
use Rattle.reads.proofs.read_range_big_endian.Goals as goal

pub returns-then-not-well_formed : goal.returns-then-not-well_formed
returns-then-not-well_formed c =
    let m = mem c.args.bytes.now c.args.keys.now c.args.order.now c.args.words.now in
    range_refused _ _ 3 _ _ refl (ill m (range_checks c.args.start.0 c.args.end.0 (length c.args.output.now)) tt (failed c.well_formed-2.ensures c.if-not-well_formed.true))

pub read_range_big_endian-requires : goal.read_range_big_endian-requires
read_range_big_endian-requires c =
    well_formed_means _ (passed c.well_formed-2.ensures c.if-not-well_formed.false)
