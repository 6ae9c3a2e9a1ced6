-- A key that no slot has.
-- Assumes nothing.
use mathlib.Core.Path.{◌≡◌}
use mathlib.Core.Bool.{cond}
use Prim.Native.Nat.{ℕ, ◌≤◌}
use Rattle.store.specs.Keys.{key_of}
use Rattle.store.specs.Mem.{Mem, holders}
use Rattle.pool.specs.Hold.{lacks}
use Rattle.formed.specs.Parts.{entry_of, holds}
use Rattle.formed.specs.WellFormed.{WellFormed}
use Rattle.formed.proofs.Sizes.{holders_long}
use Rattle.formed.proofs.Sense.{holds_near}

module _ (m : Mem) (f : WellFormed m) where
  -- a key that no slot has is a chunk that is not held
  pub lacks_is : (p k : ℕ) → k ≤ 16777216 → lacks (holders m) (key_of (entry_of m p) k) ≡ cond (holds m p k) 0 1
  unfolding lacks
  lacks_is p k l = rw (holds_near m p k l, holders_long m f.lengths)
