-- The length of each lent buffer, as docs/BUFFERS.md states it: by the counts of chunks, of dynamic pages, and of words of each journal.
-- Assumes nothing.
use Rattle.std.specs.Prelude.{◌≡◌, Bool, ◌&&◌, ℕ, ◌+◌, ◌*◌, ◌≤◌, leb, eqb}
use Rattle.store.specs.Mem.{head_length, fixed_count, pool_length}
use Rattle.formed.specs.Pages.{journal_count}

abbrev pub bytes_for : (chunks words : ℕ) → ℕ
bytes_for chunks words = 256 * chunks + 32 * journal_count * words

abbrev pub keys_for : (chunks pages : ℕ) → ℕ
keys_for chunks pages = chunks + pages + fixed_count

abbrev pub order_for : (chunks pages : ℕ) → ℕ
order_for chunks pages = 3 * chunks + pages + fixed_count

abbrev pub words_for : (chunks words : ℕ) → ℕ
words_for chunks words = head_length + 3 * journal_count * words + pool_length chunks

-- the three counts are in bounds
abbrev pub counts_fit : (chunks pages words : ℕ) → Bool
counts_fit chunks pages words = (leb 1 chunks && leb chunks 65536) && ((leb 1 pages && leb pages 4096) && leb words 65536)

-- b, k, o and w are the lengths of the four buffers for these counts
abbrev pub lengths_are : (b k o w chunks pages words : ℕ) → Bool
lengths_are b k o w chunks pages words = eqb b (bytes_for chunks words) && (eqb k (keys_for chunks pages) && (eqb o (order_for chunks pages) && eqb w (words_for chunks words)))

-- the counts are in bounds and the lengths are right; otherwise refusal 2
abbrev pub lengths_fit : (b k o w chunks pages words : ℕ) → Bool
lengths_fit b k o w chunks pages words = counts_fit chunks pages words && lengths_are b k o w chunks pages words

-- the same as a record
pub record LengthsFit (b k o w chunks pages words : ℕ) : Type 0 where
  pub chunks_lo : 1 ≤ chunks
  pub chunks_hi : chunks ≤ 65536
  pub pages_lo : 1 ≤ pages
  pub pages_hi : pages ≤ 4096
  pub journal_hi : words ≤ 65536
  pub in_bytes : b ≡ bytes_for chunks words
  pub in_keys : k ≡ keys_for chunks pages
  pub in_order : o ≡ order_for chunks pages
  pub in_words : w ≡ words_for chunks words
