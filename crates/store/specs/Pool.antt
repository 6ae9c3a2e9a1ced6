-- The pool of a memory: a bit for each slot, set where the slot holds no chunk.
-- Assumes nothing.
use Rattle.std.specs.Prelude.{◌≡◌, ℕ, ◌+◌, ◌<◌, ◌≤◌, List, length, take}
use Rattle.bits.specs.Bits.{free_word}
use Rattle.store.specs.Mem.{head_length, slot_count, pool_length, pool_word, pool_skip}

-- the words have room for the pool's, and those that a search skips are 0
pub record PoolPart (words : List ℕ) : Type 0 where
  pub few : slot_count words ≤ 65536
  pub room : head_length + pool_length (slot_count words) ≤ length words
  pub skip : pool_skip words ≤ pool_length (slot_count words)
  pub skipped : (i : ℕ) → i < pool_skip words → pool_word words i ≡ 0

-- .. and the bits are those of the slots' keys
pub record Pooling (keys words : List ℕ) : Type 0 where
  pub part : PoolPart words
  pub bits : (i : ℕ) → i < pool_length (slot_count words) → pool_word words i ≡ free_word (take (slot_count words) keys) i
