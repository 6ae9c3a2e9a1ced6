-- The number of a word, by its limbs and by its bytes.
-- Assumes nothing.
use Rattle.std.specs.Prelude.{List, [], ◌∷◌, ℕ, zero, suc, ◌+◌, ◌*◌, ◌/◌, ◌%◌, ◌^◌, get_or}

-- four 64-bit limbs, the lowest first
abbrev pub limbs_value : (a b c d : ℕ) → ℕ
limbs_value a b c d = a + 2 ^ 64 * (b + 2 ^ 64 * (c + 2 ^ 64 * d))

unfoldable pub value : List ℕ → ℕ
value limbs = limbs_value (get_or limbs 0 0) (get_or limbs 1 0) (get_or limbs 2 0) (get_or limbs 3 0)

-- the n bytes from place `at`, the highest first
unfoldable pub bytes_at : List ℕ → ℕ → ℕ → ℕ
bytes_at bytes at zero = 0
bytes_at bytes at (suc n) = 256 * bytes_at bytes at n + get_or bytes (at + n) 0

-- 01: words are big-endian in memory
abbrev pub big_endian : List ℕ → ℕ
big_endian bytes = bytes_at bytes 0 32

-- the n bytes of a number, the highest first
unfoldable pub digits : ℕ → ℕ → List ℕ
digits zero v = []
digits (suc n) v = v / 256 ^ n % 256 ∷ digits n v

abbrev pub word_bytes : ℕ → List ℕ
word_bytes v = digits 32 v

-- the last address to which 32 can be added within 32 bits: the operand limit of loads and stores
abbrev pub last_address : ℕ
last_address = 4294967263
