-- No refusal has the number 0.
-- Assumes nothing.
use mathlib.Core.Path.{◌≡◌}
use native.Mathlib.Omega.{arith}
use Rattle.std.specs.Int.NonZero.{non_zero_u32_get}
use Rattle.std.specs.declared.num.NonZeroU32.{NonZeroU32}
use Rattle.outcome.specs.declared.Refusal.{Refusal}
use Rattle.outcome.specs.declared.Refusal.TheVariants.{Layout, Sizes, NotFormed, Undecodable, Fixed, Allocated, NotAllocated, Range, NoPage, NoChunk, NoJournal, BadMark, BadLength, Pointer, HookValue, Operand}
use Rattle.outcome.specs.Outcome.{number_of}

pub number_nonzero : (e : Refusal) → number_of e ≡ 0 → ⊥
number_nonzero Layout q = omega arith
number_nonzero Sizes q = omega arith
number_nonzero NotFormed q = omega arith
number_nonzero Undecodable q = omega arith
number_nonzero Fixed q = omega arith
number_nonzero Allocated q = omega arith
number_nonzero NotAllocated q = omega arith
number_nonzero Range q = omega arith
number_nonzero NoPage q = omega arith
number_nonzero NoChunk q = omega arith
number_nonzero NoJournal q = omega arith
number_nonzero BadMark q = omega arith
number_nonzero BadLength q = omega arith
number_nonzero Pointer q = omega arith
number_nonzero HookValue q = omega arith
number_nonzero Operand q = omega arith

pub nonzero_number : (e : NonZeroU32) → non_zero_u32_get e ≡ 0 → ⊥
nonzero_number e q = let p = e.ok in omega arith
