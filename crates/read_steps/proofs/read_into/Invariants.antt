use mathlib.Core.Path.{◌≡◌}
use Prim.Native.Nat.{ℕ, ◌+◌, ◌-◌, ◌/◌, ◌≤◌, ◌<◌}
use lib.ListN.{length, get_or}
use Rattle.store.specs.Mem.{mem, slot_count}
use Rattle.formed.specs.Parts.{byte_at}
use Rattle.bodies.specs.Walk.{SlotBefore}
use Rattle.read_steps.proofs.read_into.Given as goal

abbrev pub invariant-loop-pos : goal.invariant-loop-pos
invariant-loop-pos l =
    (l.pos ≤ length l.initial.out) × (length l.out ≡ length l.initial.out)
    × ((i : ℕ) → i < l.pos → get_or l.out i 0 ≡ byte_at (mem l.bytes l.keys l.order l.words) l.page.0 (l.start.0 + i))
    × (l.last ≤ 65536)
    × (l.pos < length l.initial.out → l.last < slot_count l.words → SlotBefore l.keys l.words l.page.0 ((l.start.0 + l.pos) / 256) l.last)

abbrev pub decreases-loop-pos : goal.decreases-loop-pos
decreases-loop-pos l = length l.initial.out - l.pos
