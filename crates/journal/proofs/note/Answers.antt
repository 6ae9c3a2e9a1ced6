use mathlib.Core.Path.{◌≡◌, ap, ◌∙◌}
use Prim.Native.Nat.{ℕ, ◌+◌, ◌*◌, ◌/◌}
use native.Mathlib.Omega.{arith}
use Rattle.store.specs.Keys.{key_of}
use Rattle.store.specs.Find.{slot_at_entry}
use Rattle.store.proofs.Slots.{slot_few}
use Rattle.journal.proofs.Places.{slots_indexed}
use Rattle.journal.proofs.Notes.{note_slots}
use Rattle.journal.proofs.note.Goals as goal

pub slot_near-s-requires : goal.slot_near-s-requires
slot_near-s-requires c =
    (slots_indexed c.args.bytes.now c.args.keys.now c.args.order.now c.args.words.now c.requires.0.formed, omega (arith, c.place-e.ensures), omega arith, c.requires.1)

pub overflow_mul-n : goal.overflow_mul-n
overflow_mul-n c =
    omega (arith, c.requires.0.address)

pub note_found-requires : goal.note_found-requires
note_found-requires c =
    let at : ℕ → ℕ = slot_at_entry c.args.keys.now c.args.words.now c.place-e.result in
    let first : c.args.n / 8 ≡ 32 * c.args.n / 256 = omega arith in
    let last : c.args.n / 8 ≡ (32 * c.args.n + 31) / 256 = omega arith in record { note_asks = c.requires.0; note_slots = note_slots c.args.bytes.now c.args.keys.now c.args.order.now c.args.words.now c.args.j (32 * c.args.n) c.requires.0 c.place-e.result c.place-e.ensures.0 c.slot_near-s.result c.slot_near-s.result (c.slot_near-s.ensures ∙ ap at first) (c.slot_near-s.ensures ∙ ap at last) }

pub returns : goal.returns
returns c = record { shows = c.note_found.ensures; upper_bound = omega (arith, slot_few _ _ _ (slots_indexed c.args.bytes.now c.args.keys.now c.args.order.now c.args.words.now c.requires.0.formed) (key_of c.place-e.result (c.args.n / 8)), c.slot_near-s.ensures) }
