-- Reading the bytes of a page, part by part: what the steps of a read do.
-- Assumes nothing.
use Rattle.std.specs.Prelude.{◌≡◌, List, ℕ, ◌+◌, ◌<◌, length, get_or}

-- d is o with the n numbers of f from place `at` on; what stands after them stays open
pub record Put (f : ℕ → ℕ) (at n : ℕ) (o d : List ℕ) : Type 0 where
  pub long : length d ≡ length o
  pub low : (i : ℕ) → i < at → get_or d i 0 ≡ get_or o i 0
  pub new : (i : ℕ) → i < n → get_or d (at + i) 0 ≡ f i
