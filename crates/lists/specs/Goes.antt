-- The claim is not empty: lists begin, and after every list every call whose arguments fit has a step.
-- Assumes nothing.
use Rattle.std.specs.Prelude.{◌≡◌, List, [], ℕ, ◌*◌, ◌≤◌, length}
use Rattle.outcome.specs.Outcome.{Outcome, done}
use Rattle.store.specs.Mem.{Mem}
use Rattle.view.specs.View.{Setting}
use Rattle.view.specs.Calls.{Call, Value, Open, Allocate, ReadWord, ReadPartial, ReadRange, ReadByte, DynamicLength, WriteWord, WriteBytes, Lookup, LookupCheck, Free, Window, Truncate, CompareLeft, CompareRight, CompareBoth, Snapshot, Rollback, DeleteHistory, nothing, outcome_of, Load, Store, LoadPointer, LoadStatic, StoreStatic}
use Rattle.registers.specs.Registers.{Registers, registers_from}
use Rattle.view.specs.Instructions.{heap_of}
use Rattle.opening.specs.Opening.{OpenAsks}
use Rattle.plain.specs.Plain.{Plain, fresh_plain, seen}
use Rattle.plain.specs.Claim.{Started, Run, Any}
use Rattle.lists.specs.Steps.{PublicStep, Step}

-- the numbers of a layout have 32 bits
pub record Narrow (s : Setting) : Type 0 where
  pub statics : s.layout.static_memory.0 ≤ 4294967295
  pub calldata : s.layout.calldata.0 ≤ 4294967295
  pub heap : s.layout.bootloader_heap.0 ≤ 4294967295
  pub aux : s.layout.bootloader_aux.0 ≤ 4294967295
  pub base : s.layout.base.0 ≤ 4294967295
  pub stride : s.layout.stride ≤ 4294967295

-- the registers are those of 65 numbers
pub record Numbered (g : Registers) : Type 0 where
  pub numbers : List ℕ
  pub count : length numbers ≡ 65
  pub are : registers_from numbers ≡ g

-- What is asked of a call's arguments: the pages and addresses written to, and a layout's numbers, have 32 bits, and registers are those of 65
-- numbers. The types of the code's arguments ask this and more, so every call that the code can be given fits
abbrev pub Fits : Call → Type 0
Fits (Open s calldata) = Narrow s
Fits (Allocate p bs) = p ≤ 4294967295
Fits (ReadWord p a) = Unit {0}
Fits (ReadPartial p x y) = Unit {0}
Fits (ReadRange p x y n) = Unit {0}
Fits (ReadByte p a) = Unit {0}
Fits DynamicLength = Unit {0}
Fits (WriteWord p a n) = (p ≤ 4294967295) × (a ≤ 4294967295)
Fits (WriteBytes p a bs) = (p ≤ 4294967295) × (a ≤ 4294967295)
Fits (Lookup p k z) = Unit {0}
Fits (LookupCheck p k z) = Unit {0}
Fits (Free p) = Unit {0}
Fits (Window p start n) = Unit {0}
Fits (Truncate n) = Unit {0}
Fits (CompareLeft other) = Unit {0}
Fits (CompareRight other) = Unit {0}
Fits CompareBoth = Unit {0}
Fits Snapshot = Unit {0}
Fits (Rollback heap aux) = Unit {0}
Fits DeleteHistory = Unit {0}
Fits (Load area f g p) = Numbered g
Fits (Store area f g p kernel h) = Numbered g × (heap_of f area ≤ 4294967295)
Fits (LoadPointer f g p) = Numbered g
Fits (LoadStatic f g p) = Numbered g
Fits (StoreStatic f g p kernel) = Numbered g

-- the call c, lent the buffers m, has a step with the outcome o
pub record Goes (m : Mem) (c : Call) (o : Outcome Value) : Type 0 where
  pub after : Mem
  pub step : PublicStep m c o after

-- a list begins by opening the buffers m
pub record Begins (m : Mem) (s : Setting) (calldata : List ℕ) : Type 0 where
  pub start : Mem
  pub step : PublicStep m (Open s calldata) (done nothing) start
  pub started : Started Step s start (fresh_plain s calldata)

pub record NotEmpty : Type 0 where
  -- lists begin: with every setting and calldata that no condition of an opening refuses, on buffers of the right lengths, whatever these hold
  pub begins : {m : Mem} {s : Setting} {calldata : List ℕ} → Narrow s → OpenAsks s m → length calldata ≤ 256 * s.chunks → Begins m s calldata
  -- one begins, with nothing assumed
  pub one : (m : Mem) × (s : Setting) × Begins m s []
  -- lists go on: after every list every call that fits has a step, with the outcome computed from the setting and the plain map
  pub goes_on : {s : Setting} {start m : Mem} {p₀ p : Plain} → Started Step s start p₀ → Run Step Any s start p₀ m p
      → (c : Call) → Fits c → Goes m c (outcome_of s c (seen s p))
