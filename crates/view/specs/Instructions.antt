-- The five instructions: when they panic or are refused, what they compute of an operand, and which registers they write. What a store does to the memory is a word write (Steps).
-- Assumes nothing.
use Rattle.std.specs.Prelude.{Bool, true, false, cond, not, ◌&&◌, List, [], ◌∷◌, ◌++◌, ℕ, ◌+◌, ◌-◌, ◌%◌, ◌^◌, min, ltb, eqb}
use Rattle.outcome.specs.Outcome.{refused, panicked}
use Rattle.word.specs.Value.{big_endian, last_address}
use Rattle.registers.specs.declared.Place.{Place}
use Rattle.registers.specs.declared.LoadPlaces.{LoadPlaces}
use Rattle.registers.specs.declared.StorePlaces.{StorePlaces}
use Rattle.registers.specs.Registers.{Registers, Operand, with_register, cleared, register_number}
use Rattle.page_ids.specs.declared.Layout.{Layout}
use Rattle.fat_pointer.specs.declared.FatPointer.{FatPointer}
use Rattle.fat_pointer.specs.Pointer.{pointer_of}
use Rattle.state.specs.declared.Frame.{Frame}
use Rattle.state.specs.declared.Area.{Area}
use Rattle.state.specs.declared.Area.TheVariants.{Heap, Aux}
use Rattle.state.specs.Access.{frame_accessed}
use Rattle.view.specs.View.{View, Setting}
use Rattle.view.specs.Steps.{run, padded}
use Rattle.view.specs.Checks.{Check, word_write_checks}

-- whether hooking is on, and the hook address
pub record Hook : Type 0 where
  pub on : Bool
  pub address : ℕ

-- the run goes on, or stops on the hook with a value
pub data Stop : Type 0 where
  running : Stop
  on_hook : ℕ → Stop

-- what an instruction computes: the word that it read (0 where it reads none), the incremented operand with its tag, the frame, and the stop
pub record InstructionResult : Type 0 where
  pub word : ℕ
  pub operand : Operand
  pub frame : Frame
  pub stop : Stop

-- what an instruction leaves: its frame, its registers, and the stop
pub record Executed : Type 0 where
  pub frame : Frame
  pub registers : Registers
  pub stop : Stop

-- ---- frames
-- the page of an area
abbrev pub heap_of : Frame → Area → ℕ
heap_of f Heap = f.heap.0
heap_of f Aux = f.aux.0

-- the static page
abbrev pub static_of : Layout → ℕ
static_of l = l.static_memory.0

abbrev pub with_panicked : Frame → Frame
with_panicked f = record { gas = f.gas; heap = f.heap; aux = f.aux; heap_bound = f.heap_bound; aux_bound = f.aux_bound; panicked = true }

-- no word and no operand are given, and the frame is f: what a refused step answers, its frame being as it was
abbrev pub frame_alone : Frame → InstructionResult
frame_alone f = record { word = 0; operand = record { word = 0; tag = false }; frame = f; stop = running }

-- a panic sets the mark, which no definition here reads and none clears; f has the gas that it leaves
abbrev pub panic : Frame → InstructionResult
panic f = frame_alone (with_panicked f)

-- the whole word plus 32, in 256 bits
-- It never leaves them where the operand is within the limit: `no_carry` of proofs/Operands.antt, a field of lists/specs/Rules.antt
abbrev pub incremented : ℕ → ℕ
incremented x = (x + 32) % 2 ^ 256

-- ---- load and store, of the word at an operand's number
-- an access that is not paid panics: an operand above 4,294,967,263, or a growth that the gas does not pay; it empties the gas and keeps the bound
abbrev pub access_checks : {A : Type 0} → (InstructionResult → A) → Area → Frame → ℕ → List (Check A)
access_checks give area f x = (not (frame_accessed f area x).paid, panicked (give (panic (frame_accessed f area x).frame))) ∷ []

-- a load keeps the operand's tag; of an undecodable page it reads zeros, and pays all the same
abbrev pub loaded_from : View → (page : ℕ) → Operand → (after : Frame) → InstructionResult
loaded_from v p x f = record {
  word = big_endian (run v p x.word 32);
  operand = record { word = incremented x.word; tag = x.tag };
  frame = f;
  stop = running;
}

abbrev pub loaded : View → Area → Frame → Operand → InstructionResult
loaded v area f x = loaded_from v (heap_of f area) x (frame_accessed f area x.word).frame

-- hooking is on and the address is the hook address
abbrev pub hooked : Hook → ℕ → Bool
hooked h x = h.on && eqb x h.address

-- 15: the hook address is hit by a value above 4,294,967,295
abbrev pub hook_checks : {A : Type 0} → Hook → (address value : ℕ) → List (Check A)
hook_checks h x n = (hooked h x && ltb 4294967295 n, refused 15) ∷ []

-- the panics, then the refusals of a word write, then that of the hook
abbrev pub store_checks : {A : Type 0} → (InstructionResult → A) → Setting → View → Area → Frame → ℕ → ℕ → Hook → List (Check A)
store_checks give s v area f x n h = access_checks give area f x ++ (word_write_checks s v (heap_of f area) x ++ hook_checks h x n)

-- a store clears the tag, and stops with the value n where it is hooked
abbrev pub stored_with : Operand → ℕ → Hook → (after : Frame) → InstructionResult
stored_with x n h f = record {
  word = 0;
  operand = record { word = incremented x.word; tag = false };
  frame = f;
  stop = cond (hooked h x.word) (on_hook n) running;
}

abbrev pub stored : Area → Frame → Operand → ℕ → Hook → InstructionResult
stored area f x n h = stored_with x n h (frame_accessed f area x.word).frame

-- ---- static load and store: the same operand limit; panic without charge; no growth
abbrev pub static_checks : {A : Type 0} → (InstructionResult → A) → Frame → ℕ → List (Check A)
static_checks give f x = (ltb last_address x, panicked (give (panic f))) ∷ []

abbrev pub static_loaded : Setting → View → Frame → Operand → InstructionResult
static_loaded s v f x = loaded_from v (static_of s.layout) x f

abbrev pub static_store_checks : {A : Type 0} → (InstructionResult → A) → Setting → View → Frame → ℕ → List (Check A)
static_store_checks give s v f x = static_checks give f x ++ word_write_checks s v (static_of s.layout) x

abbrev pub static_stored : Frame → Operand → InstructionResult
static_stored f x = record { word = 0; operand = record { word = incremented x.word; tag = false }; frame = f; stop = running }

-- ---- pointer read: panics without charge
-- an untagged operand panics; so does an offset above 4,294,967,263; 14: start + length above 4,294,967,295
abbrev pub pointer_checks : {A : Type 0} → (InstructionResult → A) → Frame → Operand → List (Check A)
pointer_checks give f x =
    let p = pointer_of x.word in
    (not x.tag, panicked (give (panic f)))
    ∷ (ltb last_address p.offset, panicked (give (panic f)))
    ∷ (ltb 4294967295 (p.start + p.length), refused 14)
    ∷ []

-- the first byte that is read
abbrev pub read_from : FatPointer → ℕ
read_from p = p.start + min p.offset p.length

-- how many are read: at most 32, and none past start + length
abbrev pub read_count : FatPointer → ℕ
read_count p = min 32 (p.start + p.length - read_from p)

-- they lead the word, and zeros follow; the incremented operand is tagged
abbrev pub pointed : View → Frame → Operand → InstructionResult
pointed v f x =
    let p = pointer_of x.word in
    record {
      word = big_endian (padded (run v p.memory_page.0 (read_from p) (read_count p)));
      operand = record { word = incremented x.word; tag = true };
      frame = f;
      stop = running;
    }

-- ---- the registers
-- 16: a place is not one that the instruction takes; `takes` says whether all are
abbrev pub place_checks : {A : Type 0} → (takes : Bool) → List (Check A)
place_checks takes = (not takes, refused 16) ∷ []

-- a load writes the word to dst0, and then dst1: the operand plus 32 where it increments, else 0
abbrev pub loaded_into : Registers → LoadPlaces → InstructionResult → Executed
loaded_into g p r =
    let h = with_register (register_number p.dst0) r.word false g in
    let n = register_number p.dst1 in
    record { frame = r.frame; registers = cond p.increment (with_register n r.operand.word r.operand.tag h) (cleared n h); stop = r.stop }

-- a store writes the operand plus 32 to dst0 where it increments, and clears dst1
abbrev pub stored_into : Registers → StorePlaces → InstructionResult → Executed
stored_into g p r =
    let h = cond p.increment (with_register (register_number p.dst0) r.operand.word r.operand.tag g) g in
    record { frame = r.frame; registers = cleared (register_number p.dst1) h; stop = r.stop }

-- an EraVM panic leaves dst0 and clears dst1
abbrev pub panicked_into : Registers → (dst1 : Place) → InstructionResult → Executed
panicked_into g dst1 r = record { frame = r.frame; registers = cleared (register_number dst1) g; stop = r.stop }
