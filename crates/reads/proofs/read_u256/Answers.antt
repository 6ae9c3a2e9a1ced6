use mathlib.Core.List.{[]}
use mathlib.Core.Path.{sym, ap, ◌∙◌}
use Rattle.word.specs.Value.{big_endian}
use Rattle.view.specs.Steps.{run}
use Rattle.outcome.specs.Outcome.{done}
use Rattle.store.specs.Mem.{mem}
use Rattle.formed.proofs.Meaning.{well_formed_means}
use Rattle.view.specs.View.{view_of}
use Rattle.index.proofs.Logic.{passed}
use Rattle.reads.proofs.Answers.{on_formed}
use Rattle.reads.proofs.read_u256.Goals as goal

pub returns : goal.returns
returns c =
    let m = mem c.args.bytes.now c.args.keys.now c.args.order.now c.args.words.now in
    sym (on_formed m [] (big_endian (run (view_of m) c.args.page.0 c.args.address.0 32)) (well_formed_means _ (passed c.well_formed-2.ensures c.if-not-well_formed.false)) ∙ ap done (sym c.read_u256.ensures))

pub read_u256-requires : goal.read_u256-requires
read_u256-requires c = well_formed_means _ (passed c.well_formed-2.ensures c.if-not-well_formed.false)
