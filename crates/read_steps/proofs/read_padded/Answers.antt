use Rattle.store.specs.Mem.{mem}
use Rattle.view.specs.View.{view_of}
use Rattle.read_steps.proofs.Padded.{padded_is}
use Rattle.read_steps.proofs.read_padded.Goals as goal

pub returns : goal.returns
returns c =
    let m = mem c.args.bytes.now c.args.keys.now c.args.order.now c.args.words.now in
    padded_is (view_of m) c.args.page.0 c.args.start.0 c.args.n _ c.requires.n_bound c.read_into.ensures
