-- Keys: the key of a slot says which chunk of which page entry the slot holds; 0 says that it holds none.
-- Assumes nothing.
use Rattle.std.specs.Prelude.{ℕ, ◌+◌, ◌-◌, ◌*◌, ◌/◌, ◌%◌}

-- the highest chunk number: the word at the last address ends in that chunk
abbrev pub last_chunk : ℕ
last_chunk = 16777216

-- a key is the entry of a page times this factor, plus the chunk number, plus 1
abbrev pub key_factor : ℕ
key_factor = 33554432

-- the key of chunk k of the page at entry e
abbrev pub key_of : ℕ → ℕ → ℕ
key_of e k = e * key_factor + k + 1

-- and back: the entry and the chunk number of a key
abbrev pub key_entry : ℕ → ℕ
key_entry key = (key - 1) / key_factor

abbrev pub key_chunk : ℕ → ℕ
key_chunk key = (key - 1) % key_factor
