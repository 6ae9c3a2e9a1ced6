use mathlib.Core.Path.{ap, ◌∙◌}
use Rattle.word.specs.Value.{big_endian}
use Rattle.store.specs.Mem.{mem}
use Rattle.view.specs.View.{view_of}
use Rattle.read_steps.proofs.Padded.{padded_word}
use Rattle.read_steps.proofs.read_word.Goals as goal

pub returns : goal.returns
returns c =
    let m = mem c.args.bytes.now c.args.keys.now c.args.order.now c.args.words.now in
    c.from_big_endian.ensures ∙ ap big_endian (c.read_padded-read.ensures ∙ padded_word (view_of m) c.args.page.0 c.args.address.0)
