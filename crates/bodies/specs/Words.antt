-- Bytes copied, and words of 32 bytes in the slots that hold their chunks.
-- Assumes nothing.
use Rattle.std.specs.Prelude.{◌≡◌, cond, List, ℕ, ◌+◌, ◌*◌, ◌-◌, ◌<◌, ◌≤◌, ltb, length, get_or}

-- the place of byte i of a word whose first byte is at offset r of slot s, and which goes on in slot t
abbrev pub place_in : ℕ → ℕ → ℕ → ℕ → ℕ
place_in s t r i = cond (ltb (r + i) 256) (256 * s + (r + i)) (256 * t + (r + i - 256))

-- bytes' is bytes with g 0, g 1, .., g (n - 1) at the places f 0, f 1, .., f (n - 1)
pub record Spread (f g : ℕ → ℕ) (n : ℕ) (bytes bytes' : List ℕ) : Type 0 where
  pub on : (i : ℕ) → i < n → get_or bytes' (f i) 0 ≡ g i
  pub off : (b : ℕ) → ((i : ℕ) → i < n → b ≡ f i → ⊥) → get_or bytes' b 0 ≡ get_or bytes b 0

-- a word at offset r of slot s, which goes on in slot t, lies in the bytes
pub record InSlots (bytes : List ℕ) (s t r : ℕ) : Type 0 where
  pub offset : r < 256
  pub first_few : s < 65536
  pub last_few : t < 65536
  pub first : 256 * s + 256 ≤ length bytes
  pub last : 256 * t + 256 ≤ length bytes
