use mathlib.Core.Path.{ap, ◌∙◌}
use native.Mathlib.Omega.{arith}
use Rattle.word.specs.Value.{big_endian}
use Rattle.store.specs.Mem.{mem}
use Rattle.formed.proofs.Hints.{find_asked}
use Rattle.bodies.proofs.WordBytes.{word_in_slots}
use Rattle.read_steps.proofs.Bytes.{word_held}
use Rattle.read_steps.proofs.known_word.Goals as goal

pub hinted-s-requires : goal.hinted-s-requires
hinted-s-requires c =
    find_asked (mem c.args.bytes.now c.args.keys.now c.args.order.now c.args.words.now) c.requires

pub hinted_last-t-requires : goal.hinted_last-t-requires
hinted_last-t-requires c =
    (find_asked (mem c.args.bytes.now c.args.keys.now c.args.order.now c.args.words.now) c.requires, c.hinted-s.ensures c.if-s-c.true)

pub word_in-held-requires : goal.word_in-held-requires
word_in-held-requires c =
    word_in_slots (mem c.args.bytes.now c.args.keys.now c.args.order.now c.args.words.now) c.args.page.0 c.args.address.0 c.hinted-s.result c.hinted_last-t.result c.if-s-c.true c.if-t-c.true c.requires

pub returns-then-t-c : goal.returns-then-t-c
returns-then-t-c c =
    c.from_big_endian.ensures ∙ ap big_endian (c.word_in-held.ensures ∙ word_held (mem c.args.bytes.now c.args.keys.now c.args.order.now c.args.words.now) c.requires c.args.page.0 c.args.address.0 c.hinted-s.result c.hinted_last-t.result (omega (arith, c.well_formed.1.1.1.1.1)) (c.hinted-s.ensures c.if-s-c.true) (c.hinted_last-t.ensures c.if-t-c.true) c.if-s-c.true c.if-t-c.true)
