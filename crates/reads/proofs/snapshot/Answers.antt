use mathlib.Core.List.{[]}
use mathlib.Core.Path.{sym, ◌∙◌}
use lib.ListN.{length}
use Rattle.store.specs.Mem.{mem}
use Rattle.formed.proofs.Meaning.{well_formed_means}
use Rattle.view.specs.View.{view_of}
use Rattle.index.proofs.Logic.{passed}
use Rattle.reads.proofs.Answers.{on_formed, pair_told}
use Rattle.reads.proofs.snapshot.Goals as goal

pub returns : goal.returns
returns c =
    let m = mem c.args.bytes.now c.args.keys.now c.args.order.now c.args.words.now in
    sym (on_formed m [] (length ((view_of m).journal 0), length ((view_of m).journal 1)) (well_formed_means _ (passed c.well_formed-2.ensures c.if-not-well_formed.false)) ∙ pair_told c.snapshot.ensures.0 c.snapshot.ensures.1)

pub snapshot-requires : goal.snapshot-requires
snapshot-requires c = well_formed_means _ (passed c.well_formed-2.ensures c.if-not-well_formed.false)
