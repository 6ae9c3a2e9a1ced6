-- A chunk of a page is found: by a hint, or by the two indexes.
-- Assumes nothing.
use Rattle.std.specs.Prelude.{◌≡◌, ℕ, ◌+◌, ◌%◌, ◌^◌, ◌<◌, ◌≤◌, cond, List, length, take, drop, nat_le, slice_index, slice_index_or}
use Rattle.index.specs.Index.{seek}
use Rattle.store.specs.Mem.{fixed_count, slot_count, page_count}
use Rattle.store.specs.Keys.{last_chunk, key_of}
use Rattle.store.specs.Indexed.{Indexed, PagesIndexed}

-- the slot of chunk k of the page at entry e, or the number of slots where none holds it
abbrev pub slot_at_entry : List ℕ → List ℕ → ℕ → ℕ → ℕ
slot_at_entry keys words e k = seek (take (slot_count words) keys) (key_of e k)

-- .. and no chunk above the last one is held
abbrev pub slot_within : List ℕ → List ℕ → ℕ → ℕ → ℕ
slot_within keys words e k = cond (nat_le k last_chunk) (slot_at_entry keys words e k) (slot_count words)

-- the slot of chunk k of page p
abbrev pub slot_for : List ℕ → List ℕ → ℕ → ℕ → ℕ
slot_for keys words p k = slot_at_entry keys words (seek (drop (slot_count words) keys) (p + 1)) k

-- both tables are indexed, and the order has room for a hint
pub record Findable (keys order words : List ℕ) : Type 0 where
  pub slots : Indexed keys order words
  pub pages : PagesIndexed keys order words
  pub few : length keys ≤ 69636
  pub hints : 0 < length order

-- slot s holds chunk k of a page whose entry lists p
pub record Names (keys words : List ℕ) (s p k : ℕ) : Type 0 where
  pub slot_in : s < slot_count words
  pub entry : ℕ
  pub key : slice_index_or keys s 0 ≡ key_of entry k
  pub entry_in : slot_count words + entry < length keys
  pub page : slice_index_or keys (slot_count words + entry) 0 ≡ p + 1

-- slot r comes after slot s, and its key after that of s, as a 64-bit number: where s holds a chunk, r holds the next one of the same page
pub record Follows (keys : List ℕ) (s r : ℕ) : Type 0 where
  pub next : r ≡ s + 1
  pub key : (slice_index keys s + 1) % 2 ^ 64 ≡ slice_index keys r

-- order' is order except for its hints
pub record HintLearnt (order words order' : List ℕ) : Type 0 where
  pub long : length order' ≡ length order
  pub kept : (i : ℕ) → i < slot_count words + page_count words + fixed_count → slice_index order' i ≡ slice_index order i
