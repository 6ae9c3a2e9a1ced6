-- From the slot of a chunk to that of the next.
-- Assumes nothing.
use mathlib.Core.Path.{◌≡◌, sym, ap, ◌∙◌}
use mathlib.Core.List.{List}
use Prim.Native.Nat.{ℕ, ◌<◌, ◌≤◌}
use native.Mathlib.Omega.{arith}
use Rattle.store.specs.Keys.{last_chunk}
use Rattle.store.specs.Mem.{slot_count}
use Rattle.store.specs.Find.{slot_for, Findable, Follows}
use Rattle.store.proofs.Finds.{next_slot}
use Rattle.bodies.specs.Walk.{SlotBefore}

-- the slot that follows that of the chunk before
pub walk_on : (keys order words : List ℕ) (p k s r : ℕ) → Findable keys order words → k ≤ last_chunk → (s < slot_count words → SlotBefore keys words p k s) → r < slot_count words → Follows keys s r → r ≡ slot_for keys words p k
walk_on keys order words p k s r f near h l t =
    let n = t.next in
    let in_slots : s < slot_count words = omega arith in
    let b = h in_slots in
    let q = b.next in
    next_slot keys order words p b.chunk s r f (omega arith) b.slot in_slots l t ∙ ap (slot_for keys words p) (sym b.next)
