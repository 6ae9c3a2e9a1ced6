use Rattle.store.specs.Mem.{slot_count}
use Rattle.read_steps.proofs.Puts.{put_spread}
use Rattle.read_steps.proofs.Bytes.{slot_held, slot_none}
use Rattle.read_steps.proofs.read_part.Goals as goal

pub returns-then-s-words : goal.returns-then-s-words
returns-then-s-words c =
    slot_none (slot_count c.args.words.now) c.args.s c.args.r c.args.n c.args.bytes.now c.requires.head_length_in_bounds.2 c.requires.n_bound.0 c.args.to _ _ c.if-s-words.true c.fill.ensures

pub returns : goal.returns
returns c =
    slot_held (slot_count c.args.words.now) c.args.s c.args.r c.args.n c.args.bytes.now c.requires.head_length_in_bounds.2 c.requires.n_bound.0 c.args.to _ _ c.if-s-words.false (put_spread _ _ _ _ _ c.copy.auto.dst c.copy.ensures)
