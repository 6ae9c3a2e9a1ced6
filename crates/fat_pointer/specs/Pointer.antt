-- A fat pointer and the number of its word.
-- Assumes nothing.
use Rattle.std.specs.Prelude.{ℕ, ◌+◌, ◌*◌, ◌/◌, ◌%◌, ◌^◌}
use Rattle.fat_pointer.specs.declared.FatPointer.{FatPointer}

-- fields are 32-bit from the low end: offset, page, start, length; bits from 128 up are ignored
abbrev pub pointer_of : ℕ → FatPointer
pointer_of word = record {
  offset = word % 2 ^ 32;
  memory_page = record { 0 = word / 2 ^ 32 % 2 ^ 32 };
  start = word / 2 ^ 64 % 2 ^ 32;
  length = word / 2 ^ 96 % 2 ^ 32;
}

-- the number of a pointer's word; bits from 128 up are 0
abbrev pub pointer_word : FatPointer → ℕ
pointer_word p = p.offset + 2 ^ 32 * p.memory_page.0 + 2 ^ 64 * p.start + 2 ^ 96 * p.length
