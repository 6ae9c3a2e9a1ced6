-- The space that the trace program has.
-- Assumes nothing.
use Rattle.std.specs.Prelude.{◌≡◌, List, ℕ, ◌≤◌, length}
use Rattle.store.specs.Mem.{Mem, mem}
use Rattle.formed.specs.Buffers.{bytes_for, keys_for, order_for, words_for}
use Rattle.trace_calls.specs.declared.Buffers.{Buffers}

-- 01: it has space for 128 chunks, 64 pages and 256 journal words. docs/BUFFERS.md states the lengths
abbrev pub Within : (chunks pages journal_words : ℕ) → Type 0
Within chunks pages journal_words = (chunks ≤ 128) × (pages ≤ 64) × (journal_words ≤ 256)

abbrev pub Space : (bytes keys order words : List ℕ) → Type 0
Space bytes keys order words = (length bytes ≡ bytes_for 128 256) × (length keys ≡ keys_for 128 64) × (length order ≡ order_for 128 64) × (length words ≡ words_for 128 256)

-- the memory that the space is
abbrev pub mem_of : Buffers → Mem
mem_of b = mem b.bytes b.keys b.order b.words
