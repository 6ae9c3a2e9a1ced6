-- Which kinds and numbers an instruction returns.
-- Assumes nothing.
use Rattle.std.specs.Prelude.{Bool, ◌&&◌, ◌||◌, ℕ, eqb, leb}

-- running, suspended or panicked; or refused, and the number is that of a refusal
abbrev pub is_numbered : (kind number : ℕ) → Bool
is_numbered kind number = leb kind 2 || (eqb kind 3 && (leb 1 number && leb number 16))
