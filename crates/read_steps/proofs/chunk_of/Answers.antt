use Rattle.formed.proofs.Hints.{find_asked}
use Rattle.store.specs.Mem.{mem}
use Rattle.read_steps.proofs.Bytes.{chunk_held, chunk_none}
use Rattle.read_steps.proofs.chunk_of.Goals as goal

pub slot_at-s-requires : goal.slot_at-s-requires
slot_at-s-requires c =
    let m = mem c.args.bytes.now c.args.keys.now c.args.order.now c.args.words.now in
    find_asked m c.requires.well_formed

pub returns-then-s-words : goal.returns-then-s-words
returns-then-s-words c =
    let m = mem c.args.bytes.now c.args.keys.now c.args.order.now c.args.words.now in
    chunk_none m c.requires.well_formed c.args.page.0 c.args.number c.slot_at-s.result (c.slot_at-s.ensures c.args.bytes.now) c.if-s-words.true c.args.block.now c.requires.block_len.0 c.requires.block_len.1

pub returns : goal.returns
returns c =
    let m = mem c.args.bytes.now c.args.keys.now c.args.order.now c.args.words.now in
    chunk_held m c.requires.well_formed c.args.page.0 c.args.number c.slot_at-s.result (c.slot_at-s.ensures c.args.bytes.now) c.if-s-words.false
