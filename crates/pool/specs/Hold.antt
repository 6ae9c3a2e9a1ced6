-- A chunk is held: what `hold` asks, and what it leaves. The slot taken is the lowest pooled one.
-- Assumes nothing.
use Rattle.std.specs.Prelude.{◌≡◌, cond, List, ℕ, ◌+◌, ◌-◌, ◌/◌, ◌%◌, ◌^◌, ◌≤◌, ◌<◌, ltb, length, get_or, set, take, drop}
use Rattle.index.specs.Index.{seek}
use Rattle.bits.specs.Bits.{lowest_of}
use Rattle.store.specs.Mem.{held_place, pool_skip_place, slot_count, held_now, pool_place, pool_word, pool_words}
use Rattle.store.specs.Indexed.{Indexed}
use Rattle.store.specs.Pool.{Pooling}

-- 1 where no place of ks has the key k, else 0
unfoldable pub lacks : List ℕ → ℕ → ℕ
lacks ks k = cond (ltb (seek ks k) (length ks)) 0 1

-- the words after slot s was taken from the pool: its bit is 0, and a search skips the words before its own
abbrev pub unpooled : List ℕ → ℕ → List ℕ
unpooled w s = set (set w (pool_place w + s / 64) (pool_word w (s / 64) - 2 ^ (s % 64))) pool_skip_place (s / 64)

-- keys', order', words' are keys, order, words after the lowest pooled slot, which is s, was given the key k
pub record Taken (k : ℕ) (keys order words : List ℕ) (s : ℕ) (keys' order' words' : List ℕ) : Type 0 where
  pub slot_in : s < slot_count words
  pub lowest : s ≡ lowest_of (pool_words words)
  pub unheld : get_or keys s 0 ≡ 0
  pub keys_are : keys' ≡ set keys s k
  pub words_are : words' ≡ set (unpooled words s) held_place (held_now words + 1)
  pub order_rest : drop (slot_count words) order' ≡ drop (slot_count words) order
  pub order_long : length order' ≡ length order
  pub indexed_still : Indexed keys' order' words'
  pub pooling_still : Pooling keys' words'

-- .. after k was given a slot if it had none; its slot is s
pub record Held (k : ℕ) (keys order words : List ℕ) (s : ℕ) (keys' order' words' : List ℕ) : Type 0 where
  pub slot : s ≡ seek (take (slot_count words) keys') k
  pub slot_in : s < slot_count words
  pub was : seek (take (slot_count words) keys) k < slot_count words → (keys' ≡ keys) × (order' ≡ order) × (words' ≡ words)
  pub new : slot_count words ≤ seek (take (slot_count words) keys) k → Taken k keys order words s keys' order' words'
