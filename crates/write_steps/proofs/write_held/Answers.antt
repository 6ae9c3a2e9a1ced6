use native.Mathlib.Omega.{arith}
use Rattle.store.specs.Mem.{mem}
use Rattle.formed.proofs.Hints.{find_asked}
use Rattle.write_steps.proofs.Searched.{held_word}
use Rattle.write_steps.proofs.write_held.Goals as goal

pub place_of-s-requires : goal.place_of-s-requires
place_of-s-requires c =
    let m = mem c.args.bytes.now c.args.keys.now c.args.order.now c.args.words.now in
    (find_asked m c.requires.formed, omega (arith, c.well_formed.1.1.1.1.1.0))

pub place_of_last-t-requires : goal.place_of_last-t-requires
place_of_last-t-requires c =
    let m = mem c.args.bytes.now c.args.keys.now c.args.order.now c.args.words.now in
    (find_asked m c.requires.formed, c.place_of-s.ensures)

pub write_at-requires : goal.write_at-requires
write_at-requires c =
    let m = mem c.args.bytes.now c.args.keys.now c.args.order.now c.args.words.now in
    held_word m c.args.page.0 c.args.address.0 c.place_of-s.result c.place_of_last-t.result (omega (arith, c.well_formed.1.1.1.1.1.0)) c.requires c.place_of-s.ensures c.place_of_last-t.ensures

pub returns : goal.returns
returns c = c.write_at.ensures
