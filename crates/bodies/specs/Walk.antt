-- The chunks of a page, one after the other.
-- Assumes nothing.
use Rattle.std.specs.Prelude.{◌≡◌, List, ℕ, ◌+◌}
use Rattle.store.specs.Find.{slot_for}

-- s is the slot of the chunk before chunk k of page p
pub record SlotBefore (keys words : List ℕ) (p k s : ℕ) : Type 0 where
  pub chunk : ℕ
  pub next : k ≡ chunk + 1
  pub slot : s ≡ slot_for keys words p chunk
