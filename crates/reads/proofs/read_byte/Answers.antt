use mathlib.Core.List.{[]}
use mathlib.Core.Path.{sym, ap, ◌∙◌}
use Rattle.outcome.specs.Outcome.{done}
use Rattle.store.specs.Mem.{mem}
use Rattle.formed.proofs.Meaning.{well_formed_means}
use Rattle.view.specs.View.{view_of}
use Rattle.index.proofs.Logic.{passed}
use Rattle.reads.proofs.Answers.{on_formed}
use Rattle.reads.proofs.read_byte.Goals as goal

pub returns : goal.returns
returns c =
    let m = mem c.args.bytes.now c.args.keys.now c.args.order.now c.args.words.now in
    sym (on_formed m [] ((view_of m).bytes c.args.page.0 c.args.address.0) (well_formed_means _ (passed c.well_formed-2.ensures c.if-not-well_formed.false)) ∙ ap done (sym c.read_byte.ensures))

pub read_byte-requires : goal.read_byte-requires
read_byte-requires c = well_formed_means _ (passed c.well_formed-2.ensures c.if-not-well_formed.false)
