-- The status of an answer tells whether the call was carried out, and which refusal it got, since no refusal has the number 0.
-- Assumes nothing.
use mathlib.Core.Path.{◌≡◌, refl, ap}
use Rattle.std.specs.Prelude.{Result, Ok, Err, ⊤, IsErrAnd}
use Rattle.outcome.specs.declared.Refusal.{Refusal}
use Rattle.outcome.specs.declared.Refusal.TheVariants.{Layout, Sizes, NotFormed, Undecodable, Fixed, Allocated, NotAllocated, Range, NoPage, NoChunk, NoJournal, BadMark, BadLength, Pointer, HookValue, Operand}
use Rattle.outcome.specs.Outcome.{status_of, answered, answer_outcome}

-- the status of an answer, beside a value, is the outcome that the answer reports
pub status_answered : {A : Type 0} (a : A) (r : Result ⊤ Refusal) → answered (status_of r) a ≡ answer_outcome a r
status_answered a (Ok u) = refl
status_answered a (Err Layout) = refl
status_answered a (Err Sizes) = refl
status_answered a (Err NotFormed) = refl
status_answered a (Err Undecodable) = refl
status_answered a (Err Fixed) = refl
status_answered a (Err Allocated) = refl
status_answered a (Err NotAllocated) = refl
status_answered a (Err Range) = refl
status_answered a (Err NoPage) = refl
status_answered a (Err NoChunk) = refl
status_answered a (Err NoJournal) = refl
status_answered a (Err BadMark) = refl
status_answered a (Err BadLength) = refl
status_answered a (Err Pointer) = refl
status_answered a (Err HookValue) = refl
status_answered a (Err Operand) = refl

-- what `?` returns of a refusal
pub handed_on : {A : Type 0} (r : Result A Refusal) {e : Refusal} → IsErrAnd r (λ y. y ≡ e) → r ≡ Err e
handed_on (Ok x) h = absurd h
handed_on (Err y) h = ap Err h
