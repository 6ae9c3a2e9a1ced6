use mathlib.Core.Path.{ap, ◌∙◌}
use mathlib.Core.Bool.{not}
use borrow.Author.Tests.{lt-leb}
use Rattle.store.specs.Mem.{mem}
use Rattle.formed.proofs.Meaning.{pooling_of}
use Rattle.checks.proofs.One.{one_held, one_missing}
use Rattle.checks.proofs.short_of_chunk.Goals as goal

pub has_pooled-requires : goal.has_pooled-requires
has_pooled-requires c =
    (pooling_of (mem c.args.bytes.now c.args.keys.now c.args.order.now c.args.words.now) c.requires.0).part

pub returns-then-s-words : goal.returns-then-s-words
returns-then-s-words c =
    ap not c.has_pooled.ensures ∙ one_missing (mem c.args.bytes.now c.args.keys.now c.args.order.now c.args.words.now) c.args.page.0 c.args.chunk c.args.s c.requires.1 c.if-s-words.true

pub returns-else-s-words : goal.returns-else-s-words
returns-else-s-words c =
    lt-leb _ _ c.if-s-words.false ∙ one_held (mem c.args.bytes.now c.args.keys.now c.args.order.now c.args.words.now) c.args.page.0 c.args.chunk c.args.s c.requires.1 c.if-s-words.false
