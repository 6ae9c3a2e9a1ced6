-- THE CONTRACTS of the exported calls.
-- A call that returns no value has the contract of view/specs/Calls.antt, with `answered` of its status for the outcome.
-- A call that returns a value through an output has `Gives`.
-- Assumes nothing.
use Rattle.std.specs.Prelude.{◌≡◌, true, false, cond, List, ℕ, ◌*◌, eqb, length, get_or}
use Rattle.outcome.specs.Outcome.{Outcome, answered}
use Rattle.word.specs.Value.{value}
use Rattle.store.specs.Mem.{Mem}
use Rattle.view.specs.View.{view_of}
use Rattle.view.specs.Steps.{run}
use Rattle.view.specs.Checks.{on_memory, lookup_checks}
use Rattle.reads.specs.Calls.{partial_value}
use Rattle.view.specs.Calls.{Value, nothing, number, lengths, bytes, verdict}

-- a call with this outcome returns r. Its output must have n places; it was `out` and is `out'` after the call, and `means` reads the value off it.
-- An output of another length gets 102; this is no outcome, and so it is decided before all of them
pub record Gives {A : Type 0} (n : ℕ) (outcome : Outcome A) (means : List ℕ → A) (r : ℕ) (out out' : List ℕ) : Type 0 where
  pub unfit : (length out ≡ n → ⊥) → (r ≡ 102) × (out' ≡ out)
  pub answer : length out ≡ n → answered r (means out') ≡ outcome
  pub kept : (r ≡ 0 → ⊥) → out' ≡ out

-- ---- the values
-- four limbs, the lowest first
abbrev pub word_in : List ℕ → Value
word_in o = number (value o)

-- four limbs, and how many bytes of the range lead the word
abbrev pub partial_at : List ℕ → ℕ × ℕ
partial_at o = (value o, get_or o 4 0)

-- the same, among the values of all calls
abbrev pub partial_in : List ℕ → Value
partial_in o = partial_value (partial_at o)

abbrev pub number_in : List ℕ → Value
number_in o = number (get_or o 0 0)

-- the lengths of the journals of heap and aux heap
abbrev pub marks_at : List ℕ → ℕ × ℕ
marks_at o = (get_or o 0 0, get_or o 1 0)

-- the same, among the values of all calls
abbrev pub marks_in : List ℕ → Value
marks_in o = lengths (get_or o 0 0) (get_or o 1 0)

-- 1 for equal, 0 for different; any other number is no verdict
abbrev pub verdict_of : ℕ → Value
verdict_of x = cond (eqb x 1) (verdict true) (cond (eqb x 0) (verdict false) nothing)

abbrev pub verdict_in : List ℕ → Value
verdict_in o = verdict_of (get_or o 0 0)

-- a lookup of chunk k of page p that copies: the checks of 01's lookup, and its 256 bytes
abbrev pub chunk_answer : Mem → ℕ → ℕ → List ℕ → Outcome Value
chunk_answer m p k block = on_memory m (lookup_checks block) (bytes (run (view_of m) p (256 * k) 256))
