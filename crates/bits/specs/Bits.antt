-- A bit for each place of a table, in words of 64 bits, the lowest bit first: it is set where the place is free.
-- Assumes nothing.
use Rattle.std.specs.Prelude.{cond, List, [], ◌∷◌, ℕ, zero, suc, ◌+◌, ◌*◌, ◌/◌, ◌%◌, ◌^◌, eqb, get_or}
use Rattle.std.specs.Int.Count.{ones, count_trailing_zeros}

-- bit s of the words ws: 1 or 0
abbrev pub bit_of : List ℕ → ℕ → ℕ
bit_of ws s = get_or ws (s / 64) 0 / 2 ^ (s % 64) % 2

-- how many bits are set
unfoldable pub ones_of : List ℕ → ℕ
ones_of [] = 0
ones_of (x ∷ ws) = ones x + ones_of ws

-- the lowest bit that is set; where none is, the number of bits
unfoldable pub lowest_of : List ℕ → ℕ
lowest_of [] = 0
lowest_of (x ∷ ws) = cond (eqb x 0) (64 + lowest_of ws) (count_trailing_zeros 64 x)

-- 1 where place i of the table ks is free, its key being 0; else 0, past the table too
abbrev pub free_bit : List ℕ → ℕ → ℕ
free_bit ks i = cond (eqb (get_or ks i 1) 0) 1 0

-- the bits of n places from `at` on, as one number
unfoldable pub free_bits : List ℕ → ℕ → ℕ → ℕ
free_bits ks at zero = 0
free_bits ks at (suc n) = free_bit ks at + 2 * free_bits ks (suc at) n

-- word i of the table's bits
abbrev pub free_word : List ℕ → ℕ → ℕ
free_word ks i = free_bits ks (64 * i) 64
