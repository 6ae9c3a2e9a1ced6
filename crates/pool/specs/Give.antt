-- Slots are given back to the pool: what `give` leaves.
-- Assumes nothing.
use Rattle.std.specs.Prelude.{◌≡◌, Bool, cond, ◌&&◌, ◌⊎◌, List, ℕ, zero, suc, ◌+◌, ◌*◌, ◌-◌, ◌/◌, ◌%◌, ◌^◌, ◌≤◌, ◌<◌, min, leb, ltb, length, get_or, set, take, drop}
use Rattle.index.specs.Index.{key_at}
use Rattle.store.specs.Mem.{held_place, pool_skip_place, slot_count, pool_place, pool_word, pool_skip}
use Rattle.store.specs.Indexed.{Indexed}
use Rattle.store.specs.Pool.{Pooling}

-- the slots at the ranks from `from` up to, but without, r follow each other; r is `to` at most
pub record SlotRun (os : List ℕ) (from to r : ℕ) : Type 0 where
  pub some : from < r
  pub end : r ≤ to
  pub next : (i : ℕ) → from ≤ i → i < r → get_or os i 0 ≡ get_or os from 0 + (i - from)

-- bs' is bs with n zeros from place `at` on
pub record Zeroed (bs : List ℕ) (at n : ℕ) (bs' : List ℕ) : Type 0 where
  pub long : length bs' ≡ length bs
  pub gone : (x : ℕ) → at ≤ x → x < at + n → get_or bs' x 0 ≡ 0
  pub kept : (x : ℕ) → (x < at) ⊎ (at + n ≤ x) → get_or bs' x 0 ≡ get_or bs x 0

-- .. with the chunks zeroed of the slots at the ranks from `from` up to, but without, `to`
pub record Wiped (bs os : List ℕ) (from to : ℕ) (bs' : List ℕ) : Type 0 where
  pub long : length bs' ≡ length bs
  pub gone : (i r : ℕ) → from ≤ i → i < to → r < 256 → get_or bs' (256 * get_or os i 0 + r) 0 ≡ 0
  pub kept : (x : ℕ) → ((i : ℕ) → from ≤ i → i < to → get_or os i 0 ≡ x / 256 → ⊥) → get_or bs' x 0 ≡ get_or bs x 0

-- the words after slot s was put back to the pool: its bit is 1, and a search does not skip its word
abbrev pub repooled : List ℕ → ℕ → List ℕ
repooled w s = set (set w (pool_place w + s / 64) (pool_word w (s / 64) + 2 ^ (s % 64))) pool_skip_place (min (s / 64) (pool_skip w))

-- .. after the slots at n ranks of os from `from` on were put back
unfoldable pub repooled_all : List ℕ → List ℕ → ℕ → ℕ → List ℕ
repooled_all w os from zero = w
repooled_all w os from (suc n) = repooled (repooled_all w os from n) (get_or os (from + n) 0)

-- the pool's bits are those of some keys, by which the slots at the ranks from `from` up to, but without, `to` are held, each at one rank
pub record Repoolable (words os : List ℕ) (from to : ℕ) : Type 0 where
  pub keys : List ℕ
  pub in_keys : slot_count words ≤ length keys
  pub pooling : Pooling keys words
  pub start : from ≤ to
  pub end : to ≤ length os
  pub held : (i : ℕ) → from ≤ i → i < to → 0 < key_at (take (slot_count words) keys) os i
  pub apart : (i j : ℕ) → from ≤ i → i < j → j < to → get_or os i 0 ≡ get_or os j 0 → ⊥

-- k is from lo up to, but without, hi
abbrev pub within : ℕ → ℕ → ℕ → Bool
within lo hi k = leb lo k && ltb k hi

-- the slots with such keys are back in the pool, their chunks zero, and the rest is as it was
pub record Released (lo hi : ℕ) (bytes keys order words bytes' keys' order' words' : List ℕ) : Type 0 where
  pub slot_keys : (s : ℕ) → s < slot_count words → get_or keys' s 0 ≡ cond (within lo hi (get_or keys s 0)) 0 (get_or keys s 0)
  pub chunk_bytes : (s r : ℕ) → s < slot_count words → r < 256 → get_or bytes' (256 * s + r) 0 ≡ cond (within lo hi (get_or keys s 0)) 0 (get_or bytes (256 * s + r) 0)
  pub bytes_rest : (x : ℕ) → 256 * slot_count words ≤ x → get_or bytes' x 0 ≡ get_or bytes x 0
  pub keys_rest : drop (slot_count words) keys' ≡ drop (slot_count words) keys
  pub order_rest : drop (slot_count words) order' ≡ drop (slot_count words) order
  pub head : (i : ℕ) → i < pool_place words → (i ≡ held_place → ⊥) → (i ≡ pool_skip_place → ⊥) → get_or words' i 0 ≡ get_or words i 0
  pub bytes_long : length bytes' ≡ length bytes
  pub keys_long : length keys' ≡ length keys
  pub order_long : length order' ≡ length order
  pub words_long : length words' ≡ length words
  pub indexed_still : Indexed keys' order' words'
  pub pooling_still : Pooling keys' words'
