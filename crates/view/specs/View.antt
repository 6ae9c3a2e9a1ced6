-- What calls see of a memory. The plain map of 01 has the same parts.
-- Assumes nothing.
use Rattle.std.specs.Prelude.{Bool, cond, List, [], ℕ, ltb}
use Rattle.store.specs.Mem.{Mem, layout_of, slot_count, page_count, journal_words, dynamic_length}
use Rattle.formed.specs.Pages.{journal_count}
use Rattle.formed.specs.Parts.{Note, byte_at, holds, pool, allocated, entries_left, journal}
use Rattle.page_ids.specs.declared.Layout.{Layout}

pub record View : Type 0 where
  -- the byte of a page and an address
  pub bytes : ℕ → ℕ → ℕ
  -- is the chunk of a page and a chunk number held?
  pub held : ℕ → ℕ → Bool
  -- how many chunks have no holder
  pub pool : ℕ
  -- is a page allocated? A fixed one always is
  pub allocated : ℕ → Bool
  -- how many page entries are left
  pub entries_left : ℕ
  pub dynamic_length : ℕ
  -- journal 0 is that of the bootloader heap, 1 that of the bootloader aux heap; the oldest word stands first
  pub journal : ℕ → List Note

-- a view with another value of one of its parts
abbrev pub with_bytes : (ℕ → ℕ → ℕ) → View → View
with_bytes x v = record { bytes = x; held = v.held; pool = v.pool; allocated = v.allocated; entries_left = v.entries_left; dynamic_length = v.dynamic_length; journal = v.journal }

abbrev pub with_held : (ℕ → ℕ → Bool) → View → View
with_held x v = record { bytes = v.bytes; held = x; pool = v.pool; allocated = v.allocated; entries_left = v.entries_left; dynamic_length = v.dynamic_length; journal = v.journal }

abbrev pub with_pool : ℕ → View → View
with_pool x v = record { bytes = v.bytes; held = v.held; pool = x; allocated = v.allocated; entries_left = v.entries_left; dynamic_length = v.dynamic_length; journal = v.journal }

abbrev pub with_allocated : (ℕ → Bool) → View → View
with_allocated x v = record { bytes = v.bytes; held = v.held; pool = v.pool; allocated = x; entries_left = v.entries_left; dynamic_length = v.dynamic_length; journal = v.journal }

abbrev pub with_entries_left : ℕ → View → View
with_entries_left x v = record { bytes = v.bytes; held = v.held; pool = v.pool; allocated = v.allocated; entries_left = x; dynamic_length = v.dynamic_length; journal = v.journal }

abbrev pub with_dynamic_length : ℕ → View → View
with_dynamic_length x v = record { bytes = v.bytes; held = v.held; pool = v.pool; allocated = v.allocated; entries_left = v.entries_left; dynamic_length = x; journal = v.journal }

abbrev pub with_journal : (ℕ → List Note) → View → View
with_journal x v = record { bytes = v.bytes; held = v.held; pool = v.pool; allocated = v.allocated; entries_left = v.entries_left; dynamic_length = v.dynamic_length; journal = x }

-- the layout and the three counts of an opening, which no call changes
pub record Setting : Type 0 where
  pub layout : Layout
  pub chunks : ℕ
  pub pages : ℕ
  pub journal_words : ℕ

abbrev pub setting_of : Mem → Setting
setting_of m = record { layout = layout_of m.words; chunks = slot_count m.words; pages = page_count m.words; journal_words = journal_words m.words }

abbrev pub view_of : Mem → View
view_of m = record {
  bytes = byte_at m;
  held = holds m;
  pool = pool m;
  allocated = allocated m;
  entries_left = entries_left m;
  dynamic_length = dynamic_length m.words;
  journal = λ j. cond (ltb j journal_count) (journal m j) [];
}
