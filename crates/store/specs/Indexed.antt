-- The two indexes of a memory: that of its slots, and that of its page entries.
-- Assumes nothing.
use Rattle.std.specs.Prelude.{◌≡◌, ℕ, ◌≤◌, true, List, length, take, drop}
use Rattle.index.specs.Index.{indexed, LowerBound}
use Rattle.store.specs.Mem.{head_length, slot_count, held_now, in_use}

-- the keys, order and words of a memory whose slots are indexed
pub record Indexed (keys order words : List ℕ) : Type 0 where
  pub head : head_length ≤ length words
  pub few : slot_count words ≤ 65536
  pub in_keys : slot_count words ≤ length keys
  pub in_order : slot_count words ≤ length order
  pub index : indexed (take (slot_count words) keys) (take (slot_count words) order) (held_now words) ≡ true

-- r is the rank of the key k among those of the held slots: the first whose key is at least k
abbrev pub Ranked : List ℕ → List ℕ → List ℕ → ℕ → ℕ → Type 0
Ranked keys order words k r = LowerBound (take (slot_count words) keys) (take (slot_count words) order) (held_now words) k r

-- the keys, order and words of a memory whose page entries are indexed
pub record PagesIndexed (keys order words : List ℕ) : Type 0 where
  pub head : head_length ≤ length words
  pub few : slot_count words ≤ 65536
  pub in_keys : slot_count words ≤ length keys
  pub in_order : slot_count words ≤ length order
  pub index : indexed (drop (slot_count words) keys) (drop (slot_count words) order) (in_use words) ≡ true
