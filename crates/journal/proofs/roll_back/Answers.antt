use Rattle.journal.proofs.Undos.{heap_asks, aux_asks, rolled}
use Rattle.journal.proofs.roll_back.Goals as goal

pub undo-requires : goal.undo-requires
undo-requires c =
    heap_asks c.args.bytes.now c.args.keys.now c.args.order.now c.args.words.now c.args.heap c.args.aux c.requires

pub undo-requires-2 : goal.undo-requires-2
undo-requires-2 c =
    aux_asks c.args.bytes.now c.args.keys.now c.args.order.now c.args.words.now c.args.heap c.args.aux c.requires c.undo.new.bytes c.undo.new.words c.undo.ensures

pub returns : goal.returns
returns c =
    rolled c.args.bytes.now c.args.keys.now c.args.order.now c.args.words.now c.args.heap c.args.aux c.requires c.undo.new.bytes c.undo.new.words c.undo.ensures c.undo-2.new.bytes c.undo-2.new.words c.undo-2.ensures
