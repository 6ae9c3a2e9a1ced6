-- A RUN WORKED OUT BY HAND: six loads and stores on one memory, each given the frame and the memory that the last one left.
-- Assumes nothing.
use Rattle.std.specs.Prelude.{◌≡◌, true, false, List, [], ◌∷◌, ℕ, replicate}
use Rattle.outcome.specs.Outcome.{done}
use Rattle.state.specs.declared.Frame.{Frame}
use Rattle.state.specs.declared.Area.TheVariants.{Heap, Aux}
use Rattle.store.specs.Mem.{Mem}
use Rattle.registers.specs.declared.Place.TheVariants.{Register}
use Rattle.registers.specs.declared.LoadPlaces.{LoadPlaces}
use Rattle.registers.specs.declared.StorePlaces.{StorePlaces}
use Rattle.registers.specs.Registers.{Registers, registers_from}
use Rattle.view.specs.Instructions.{Hook, Executed, on_hook}
use Rattle.view.specs.Calls.{Call, Load, Store, executed}
use Rattle.growth.specs.Charges.{Charge, LoadsAndStores}
use Rattle.lists.specs.Steps.{PublicStep}

-- a call that is carried out and leaves the frame g
pub record Leaves (m : Mem) (c : Call) (g : Frame) (m' : Mem) : Type 0 where
  pub result : Executed
  pub step : PublicStep m c (done (executed result)) m'
  pub frame : result.frame ≡ g

-- register 1 has an address and register 2 the word 7; all other numbers are 0
abbrev pub numbers_at : ℕ → List ℕ
numbers_at address = 0 ∷ 0 ∷ 0 ∷ 0 ∷ address ∷ 0 ∷ 0 ∷ 0 ∷ 7 ∷ replicate 56 0

abbrev pub registers_at : ℕ → Registers
registers_at address = registers_from (numbers_at address)

-- the operand is in register 1 and the value of a store in register 2; registers 3 and 4 are written
abbrev pub load_places : LoadPlaces
load_places = record { source = Register 1; dst0 = Register 3; dst1 = Register 4; increment = true }

abbrev pub store_places : StorePlaces
store_places = record { source = Register 1; value = Register 2; dst0 = Register 3; dst1 = Register 4; increment = true }

abbrev pub no_hook : Hook
no_hook = record { on = false; address = 0 }

abbrev pub hook_at : ℕ → Hook
hook_at address = record { on = true; address = address }

-- the heap is page 6, and the aux heap page 7
abbrev pub worked_frame : (gas heap aux : ℕ) → Frame
worked_frame gas heap aux = record { gas = gas; heap = record { 0 = 6 }; aux = record { 0 = 7 }; heap_bound = heap; aux_bound = aux; panicked = false }

-- their charges
abbrev pub charges : List Charge
charges =
    record { area = Heap; address = 4064; amount = 0 }
    ∷ record { area = Aux; address = 0; amount = 32 }
    ∷ record { area = Heap; address = 4065; amount = 1 }
    ∷ record { area = Heap; address = 10; amount = 0 }
    ∷ record { area = Aux; address = 100; amount = 100 }
    ∷ record { area = Aux; address = 50; amount = 0 }
    ∷ []

pub record Worked : Type 0 where
  -- the memory at the beginning and after each store
  pub m₀ : Mem
  pub m₁ : Mem
  pub m₂ : Mem
  -- the calls
  pub load_4064 : Leaves m₀ (Load Heap (worked_frame 1000 4096 0) (registers_at 4064) load_places) (worked_frame 1000 4096 0) m₀
  pub store_0 : Leaves m₀ (Store Aux (worked_frame 1000 4096 0) (registers_at 0) store_places false no_hook) (worked_frame 968 4096 32) m₁
  pub load_4065 : Leaves m₁ (Load Heap (worked_frame 968 4096 32) (registers_at 4065) load_places) (worked_frame 967 4097 32) m₁
  pub store_10 : Leaves m₁ (Store Heap (worked_frame 967 4097 32) (registers_at 10) store_places false (hook_at 10)) (worked_frame 967 4097 32) m₂
  pub load_100 : Leaves m₂ (Load Aux (worked_frame 967 4097 32) (registers_at 100) load_places) (worked_frame 867 4097 132) m₂
  pub load_50 : Leaves m₂ (Load Aux (worked_frame 867 4097 132) (registers_at 50) load_places) (worked_frame 867 4097 132) m₂
  -- the store at 10 stops on the hook
  pub stops : store_10.result.stop ≡ on_hook 7
  -- there is a run with these charges, from the first frame to the last
  pub run : LoadsAndStores PublicStep (worked_frame 1000 4096 0) charges (worked_frame 867 4097 132)
