use mathlib.Core.Path.{◌∙◌}
use native.Mathlib.Omega.{arith}
use Rattle.compare.proofs.on_formed.slot_beside.Goals as goal

pub key_chunk-requires : goal.key_chunk-requires
key_chunk-requires c = omega arith

pub slot_at_entry-requires : goal.slot_at_entry-requires
slot_at_entry-requires c = (c.requires.indexed, omega arith, omega (arith, c.key_chunk.ensures))

pub returns : goal.returns
returns c = c.slot_at_entry.ensures ∙ rw c.key_chunk.ensures
