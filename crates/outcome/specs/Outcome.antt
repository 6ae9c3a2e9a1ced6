-- What a call answers, and the order of its checks.
-- Assumes nothing.
use Rattle.std.specs.Prelude.{Bool, true, false, cond, List, [], ◌∷◌, ℕ, zero, suc, Result, Ok, Err, ⊤}
use Rattle.outcome.specs.declared.Refusal.{Refusal}
use Rattle.outcome.specs.declared.Refusal.TheVariants.{Layout, Sizes, NotFormed, Undecodable, Fixed, Allocated, NotAllocated, Range, NoPage, NoChunk, NoJournal, BadMark, BadLength, Pointer, HookValue, Operand}

-- A call is refused with a number of 01's table, or carried out with an answer. An EraVM panic is no refusal: it is an outcome of an instruction,
-- which answers too (with its frame), and is not carried out.
pub data Outcome (A : Type 0) : Type 0 where
  refused : ℕ → Outcome A
  panicked : A → Outcome A
  done : A → Outcome A

abbrev pub carried_out : {A : Type 0} → Outcome A → Bool
carried_out (refused n) = false
carried_out (panicked a) = false
carried_out (done a) = true

-- the same outcome, its answer told by f
abbrev pub mapped : {A B : Type 0} → (A → B) → Outcome A → Outcome B
mapped f (refused n) = refused n
mapped f (panicked a) = panicked (f a)
mapped f (done a) = done (f a)

-- the number of a refusal, 0 where there is none; and back, beside an answer
abbrev pub refusal_number : {A : Type 0} → Outcome A → ℕ
refusal_number (refused n) = n
refusal_number (panicked a) = 0
refusal_number (done a) = 0

abbrev pub answered : {A : Type 0} → ℕ → A → Outcome A
answered zero a = done a
answered (suc n) a = refused (suc n)

-- The value beside the first condition that holds, or `otherwise` where none does.
-- 01's 'table order is check order' is a list of conditions, each with its refusal, and the answer as the value otherwise.
abbrev pub first_of : {A : Type 0} → List (Bool × A) → A → A
first_of [] otherwise = otherwise
first_of ((holds, value) ∷ rest) otherwise = cond holds value (first_of rest otherwise)

-- 01's number of a refusal
abbrev pub number_of : Refusal → ℕ
number_of Layout = 1
number_of Sizes = 2
number_of NotFormed = 3
number_of Undecodable = 4
number_of Fixed = 5
number_of Allocated = 6
number_of NotAllocated = 7
number_of Range = 8
number_of NoPage = 9
number_of NoChunk = 10
number_of NoJournal = 11
number_of BadMark = 12
number_of BadLength = 13
number_of Pointer = 14
number_of HookValue = 15
number_of Operand = 16

-- the outcome that a result reports: the value, read by f, or the number of the refusal, read by n
abbrev pub outcome_by : {A B E : Type 0} → (n : E → ℕ) → (f : A → B) → Result A E → Outcome B
outcome_by n f (Ok x) = done (f x)
outcome_by n f (Err e) = refused (n e)

-- .. with 01's number of the refusal
abbrev pub result_outcome : {A B : Type 0} → (A → B) → Result A Refusal → Outcome B
result_outcome f r = outcome_by number_of f r

-- .. where the call was carried out with the value a
abbrev pub answer_outcome : {A : Type 0} → A → Result ⊤ Refusal → Outcome A
answer_outcome a r = result_outcome (λ _. a) r

-- that of a call whose value lies in an output, or that has none
abbrev pub unit_outcome : Result ⊤ Refusal → Outcome ⊤
unit_outcome r = answer_outcome tt r

-- the status of an answer: 0, or the number of the refusal, read by n
abbrev pub status_by : {E : Type 0} → (n : E → ℕ) → Result ⊤ E → ℕ
status_by n (Ok _) = 0
status_by n (Err e) = n e

-- .. with 01's number of the refusal
abbrev pub status_of : Result ⊤ Refusal → ℕ
status_of r = status_by number_of r
