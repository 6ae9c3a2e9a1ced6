-- What the parts of a memory stand for: pages, chunks, bytes, journals.
-- Assumes nothing.
use Rattle.std.specs.Prelude.{Bool, List, [], ◌∷◌, ℕ, zero, suc, ◌+◌, ◌*◌, ◌/◌, ◌%◌, ltb, length, get_or}
use Rattle.bits.specs.Bits.{ones_of}
use Rattle.store.specs.Find.{slot_within}
use Rattle.index.specs.Index.{seek, free_count}
use Rattle.store.specs.Mem.{Mem, head_length, slot_count, journal_words, journal_length, pool_words, entries, chunk_bytes}

-- f 0, f 1, .., f (n - 1)
unfoldable pub tab : {A : Type 0} → ℕ → (ℕ → A) → List A
tab zero f = []
tab (suc n) f = f 0 ∷ tab n (λ i. f (suc i))

-- the entry of page p, or the number of entries
abbrev pub entry_of : Mem → ℕ → ℕ
entry_of m p = seek (entries m) (p + 1)

unfoldable pub allocated : Mem → ℕ → Bool
allocated m p = ltb (entry_of m p) (length (entries m))

-- how many entries are free
abbrev pub entries_left : Mem → ℕ
entries_left m = free_count (entries m)

-- the slot of chunk k of page p, or the number of slots; no chunk lies above the last one
unfoldable pub slot_of_chunk : Mem → ℕ → ℕ → ℕ
slot_of_chunk m p k = slot_within m.keys m.words (entry_of m p) k

unfoldable pub holds : Mem → ℕ → ℕ → Bool
holds m p k = ltb (slot_of_chunk m p k) (slot_count m.words)

-- the pool's size: how many of its bits are set
abbrev pub pool : Mem → ℕ
pool m = ones_of (pool_words m.words)

-- the byte at address a of page p; where no slot holds its chunk, the place lies past the chunks, and the byte is 0
unfoldable pub byte_at : Mem → ℕ → ℕ → ℕ
byte_at m p a = get_or (chunk_bytes m) (256 * slot_of_chunk m p (a / 256) + a % 256) 0

-- a journalled word: its address, and its 32 bytes as they were
pub record Note : Type 0 where
  pub address : ℕ
  pub old : List ℕ

-- the number of word i of journal j among those of all journals
abbrev pub word_number : List ℕ → ℕ → ℕ → ℕ
word_number w j i = journal_words w * j + i

-- the places of its three numbers and of its 32 bytes
abbrev pub note_place : List ℕ → ℕ → ℕ → ℕ
note_place w j i = head_length + 3 * word_number w j i

abbrev pub old_place : List ℕ → ℕ → ℕ → ℕ
old_place w j i = 256 * slot_count w + 32 * word_number w j i

abbrev pub note_address : Mem → ℕ → ℕ → ℕ
note_address m j i = get_or m.words (note_place m.words j i) 0

abbrev pub note_first : Mem → ℕ → ℕ → ℕ
note_first m j i = get_or m.words (note_place m.words j i + 1) 0

abbrev pub note_last : Mem → ℕ → ℕ → ℕ
note_last m j i = get_or m.words (note_place m.words j i + 2) 0

-- journal j, the oldest word first
unfoldable pub journal : Mem → ℕ → List Note
journal m j = tab (journal_length m.words j) (λ i. record { address = note_address m j i; old = tab 32 (λ k. get_or m.bytes (old_place m.words j i + k) 0) })
