-- A memory: the four lent buffers, and the parts of them that have a meaning (docs/BUFFERS.md draws them).
-- Assumes nothing.
use Rattle.std.specs.Prelude.{ℕ, ◌+◌, ◌-◌, ◌*◌, ◌/◌, List, length, take, drop, slice_index}
use Rattle.page_ids.specs.declared.Layout.{Layout}
use Rattle.page_ids.specs.Decode.{layout_from}

-- bytes: 256 for each slot, then 32 for each word that the journals have room for
-- keys: for each slot the key of the place that it holds, 0 where it holds none; then for each page entry the page's id + 1, 0 where it is free
-- order: the held slots by ascending key; then, from the same place on as in keys, the entries in use by ascending page id; then hints, which say nothing
-- words: the head; then three numbers for each word that the journals have room for: its address, and the slots of its first and its last chunk; then the pool, a bit for each slot
pub record Mem : Type 0 where
  pub bytes : List ℕ
  pub keys : List ℕ
  pub order : List ℕ
  pub words : List ℕ

abbrev pub mem : List ℕ → List ℕ → List ℕ → List ℕ → Mem
mem b k o w = record { bytes = b; keys = k; order = o; words = w }

-- how many numbers the head has
abbrev pub head_length : ℕ
head_length = 16

-- how many fixed pages there are: they have the entries from 0 on
abbrev pub fixed_count : ℕ
fixed_count = 4

-- places of the head's numbers that calls change; the journals' lengths follow each other
abbrev pub held_place : ℕ
held_place = 9

abbrev pub in_use_place : ℕ
in_use_place = 10

abbrev pub dynamic_length_place : ℕ
dynamic_length_place = 11

abbrev pub journals_place : ℕ
journals_place = 12

abbrev pub pool_skip_place : ℕ
pool_skip_place = 15

-- 01's layout: the first six numbers of the head
abbrev pub layout_of : List ℕ → Layout
layout_of w = layout_from (slice_index w 0) (slice_index w 1) (slice_index w 2) (slice_index w 3) (slice_index w 4) (slice_index w 5)

-- how many chunks, dynamic pages and words of each journal there is room for
abbrev pub slot_count : List ℕ → ℕ
slot_count w = slice_index w 6

abbrev pub page_count : List ℕ → ℕ
page_count w = slice_index w 7

abbrev pub journal_words : List ℕ → ℕ
journal_words w = slice_index w 8

-- how many slots are held, and how many entries are in use
abbrev pub held_now : List ℕ → ℕ
held_now w = slice_index w held_place

abbrev pub in_use : List ℕ → ℕ
in_use w = slice_index w in_use_place

abbrev pub dynamic_length : List ℕ → ℕ
dynamic_length w = slice_index w dynamic_length_place

-- the length of journal j: 0 is that of the bootloader heap, 1 that of the bootloader aux heap
abbrev pub journal_length : List ℕ → ℕ → ℕ
journal_length w j = slice_index w (journals_place + j)

-- how many 64-bit words the pool of c slots has, and where they begin: they are the last words
abbrev pub pool_length : ℕ → ℕ
pool_length c = (c + 63) / 64

abbrev pub pool_place : List ℕ → ℕ
pool_place w = length w - pool_length (slot_count w)

abbrev pub pool_word : List ℕ → ℕ → ℕ
pool_word w i = slice_index w (pool_place w + i)

abbrev pub pool_words : List ℕ → List ℕ
pool_words w = drop (pool_place w) w

-- how many of them a search for a pooled slot skips, from the first on: they are 0
abbrev pub pool_skip : List ℕ → ℕ
pool_skip w = slice_index w pool_skip_place

-- the parts
abbrev pub holders : Mem → List ℕ
holders m = take (slot_count m.words) m.keys

abbrev pub entries : Mem → List ℕ
entries m = drop (slot_count m.words) m.keys

abbrev pub slot_order : Mem → List ℕ
slot_order m = take (slot_count m.words) m.order

abbrev pub page_order : Mem → List ℕ
page_order m = drop (slot_count m.words) m.order

abbrev pub chunk_bytes : Mem → List ℕ
chunk_bytes m = take (256 * slot_count m.words) m.bytes
