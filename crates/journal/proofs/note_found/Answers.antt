use Rattle.journal.proofs.Notes.{note_room, note_shows}
use Rattle.journal.proofs.note_found.Goals as goal

pub note_at-requires : goal.note_at-requires
note_at-requires c =
    note_room c.args.bytes.now c.args.keys.now c.args.order.now c.args.words.now c.args.j c.args.address.0 c.requires.note_asks c.args.s c.args.t c.requires.note_slots

pub returns : goal.returns
returns c =
    note_shows c.args.bytes.now c.args.keys.now c.args.order.now c.args.words.now c.args.j c.args.address.0 c.requires.note_asks c.args.s c.args.t c.requires.note_slots c.note_at.new.bytes c.note_at.new.words c.note_at.auto.bytes c.note_at.ensures
