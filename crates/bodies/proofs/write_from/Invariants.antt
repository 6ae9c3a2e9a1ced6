use mathlib.Core.Path.{◌≡◌}
use Prim.Native.Nat.{◌+◌, ◌-◌, ◌/◌, ◌≤◌, ◌<◌}
use lib.ListN.{length, take}
use Rattle.store.specs.Mem.{mem, slot_count}
use Rattle.view.specs.View.{setting_of, view_of}
use Rattle.view.specs.Does.{Shows}
use Rattle.view.specs.Inner.{putting}
use Rattle.bodies.specs.Walk.{SlotBefore}
use Rattle.bodies.proofs.write_from.Given as goal

abbrev pub invariant-loop-pos : goal.invariant-loop-pos
invariant-loop-pos l =
    (l.pos ≤ length l.src) × (length l.bytes ≡ length l.initial.bytes)
    × Shows (setting_of (mem l.initial.bytes l.keys l.order l.words)) (putting l.page.0 l.address.0 (take l.pos l.src) (view_of (mem l.initial.bytes l.keys l.order l.words))) (mem l.bytes l.keys l.order l.words)
    × (l.last ≤ 65536)
    × (l.pos < length l.src → l.last < slot_count l.words → SlotBefore l.keys l.words l.page.0 ((l.address.0 + l.pos) / 256) l.last)

abbrev pub decreases-loop-pos : goal.decreases-loop-pos
decreases-loop-pos l = length l.src - l.pos
