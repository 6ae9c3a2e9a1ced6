use Rattle.store.specs.Find.{slot_at_entry}
use Rattle.store.proofs.Finds.{entry_few}
use Rattle.std.proofs.Common.{ℕ, ap, ◌∙◌, arith}
use Rattle.store.proofs.place_of.Goals as goal

pub returns-then-s-words : goal.returns-then-s-words
returns-then-s-words c =
    c.hinted-s.ensures c.if-s-words.true

pub slot_at_entry-requires : goal.slot_at_entry-requires
slot_at_entry-requires c =
    (c.requires.0.slots, entry_few c.args.keys.now c.args.order.now c.args.words.now c.args.page.0 c.entry_of-e.result c.requires.0 c.entry_of-e.ensures, omega (arith, c.requires.1))

pub returns : goal.returns
returns c =
    c.slot_at_entry.ensures ∙ ap (λ (e : ℕ). slot_at_entry c.args.keys.now c.args.words.now e c.args.chunk) c.entry_of-e.ensures
