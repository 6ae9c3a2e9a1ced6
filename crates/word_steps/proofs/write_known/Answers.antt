use native.Mathlib.Omega.{arith}
use Rattle.word.specs.Value.{value}
use Rattle.store.specs.Mem.{mem}
use Rattle.formed.proofs.Hints.{find_asked}
use Rattle.word_steps.proofs.Found.{slots_found, known_left, known_done}
use Rattle.word_steps.proofs.write_known.Goals as goal

pub hinted-s-requires : goal.hinted-s-requires
hinted-s-requires c =
    let m = mem c.args.bytes.now c.args.keys.now c.args.order.now c.args.words.now in
    find_asked m c.requires

pub returns-then-s-c : goal.returns-then-s-c
returns-then-s-c c =
    let m = mem c.args.bytes.now c.args.keys.now c.args.order.now c.args.words.now in
    known_left m c.args.page.0 c.args.address.0 (value c.args.word.limbs)

pub hinted_last-t-requires : goal.hinted_last-t-requires
hinted_last-t-requires c =
    let m = mem c.args.bytes.now c.args.keys.now c.args.order.now c.args.words.now in
    (find_asked m c.requires, c.hinted-s.ensures c.if-s-c.false)

pub returns-then-t-c : goal.returns-then-t-c
returns-then-t-c c =
    let m = mem c.args.bytes.now c.args.keys.now c.args.order.now c.args.words.now in
    known_left m c.args.page.0 c.args.address.0 (value c.args.word.limbs)

pub write_found-requires : goal.write_found-requires
write_found-requires c =
    let m = mem c.args.bytes.now c.args.keys.now c.args.order.now c.args.words.now in
    slots_found m c.requires c.args.page.0 c.args.address.0 (omega (arith, c.well_formed.1.1.1.1.1.0)) c.hinted-s.result c.hinted_last-t.result c.if-s-c.false c.if-t-c.false (c.hinted-s.ensures c.if-s-c.false) (c.hinted_last-t.ensures c.if-t-c.false)

pub returns : goal.returns
returns c =
    let m = mem c.args.bytes.now c.args.keys.now c.args.order.now c.args.words.now in
    known_done m c.args.page.0 c.args.address.0 (value c.args.word.limbs) _ _ c.write_found.ensures
