-- WHAT LOADS AND STORES PAY, of the code's own `quote`, and of its loads and stores: the public, the linked and the owned ones. They meet their contracts,
-- and from these it follows that a quote is what its loads pay, and that growth adds up over every run of loads and stores. No hypothesis is left.
-- Assumes nothing.
use Rattle.std.specs.Prelude.{◌≡◌, Bool, true, List, ℕ, ◌≤◌, length}
use Rattle.outcome.specs.Outcome.{done, carried_out}
use Rattle.state.specs.declared.Frame.{Frame}
use Rattle.state.specs.declared.Area.{Area}
use Rattle.state.specs.Access.{bound_of, frame_accessed}
use Rattle.state.specs.Quote.{end_of, quote_outcome}
use Rattle.state.proofs.quote.quote.Kinds as quote_kinds
use Rattle.state.proofs.quote.quote.Reads as quote_reads
use Rattle.state.proofs.quote.quote.Statement as quote_says
use Rattle.instructions.proofs.load.Statement as load_says
use Rattle.instructions.proofs.store.Statement as store_says
use Rattle.store.specs.Mem.{Mem}
use Rattle.formed.specs.Formed.{well_formed}
use Rattle.registers.specs.declared.StorePlaces.{StorePlaces}
use Rattle.registers.specs.Registers.{Registers, register_number, source_of, value_of}
use Rattle.view.specs.Instructions.{Hook, heap_of, stored, stored_into}
use Rattle.view.specs.Calls.{Load, Store, executed, answer_of}
use Rattle.growth.specs.Quotes.{LoadRun, QuoteOfLoads}
use Rattle.growth.specs.Charges.{GrowthAddsUp}
use Rattle.lists.specs.Went.{Went}
use Rattle.lists.specs.Steps.{PublicStep, Step}
use Rattle.lists.specs.Goes.{Goes, Numbered}
use Rattle.lists.specs.Worked.{Leaves, registers_at, load_places, Worked}

-- a call of `quote`, as its contract tells it: its list, gas and bound
abbrev pub Quote : Type 0
Quote = Went quote_kinds.ps quote_kinds.r quote_reads.Asked quote_reads.Learnt

abbrev pub list_of : Quote → List ℕ
list_of q = q.args.0.now

abbrev pub gas_of : Quote → ℕ
gas_of q = q.args.1.0

abbrev pub first_bound : Quote → ℕ
first_bound q = q.args.1.1.0

-- there are loads of a list from the frame f
pub record LoadsExist (area : Area) (f : Frame) (list : List ℕ) : Type 0 where
  pub position : ℕ
  pub last : Frame
  pub loads : LoadRun PublicStep area f list position last

-- there is a quote of a list, with this gas and bound
pub record QuoteExists (list : List ℕ) (gas bound : ℕ) : Type 0 where
  pub quote : Quote
  pub list_is : list_of quote ≡ list
  pub gas_is : gas_of quote ≡ gas
  pub bound_is : first_bound quote ≡ bound

pub record Charged : Type 2 where
  pub quote : {M : Type 1} → quote_says.statement M
  pub load : {M : Type 1} → load_says.statement M
  pub store : {M : Type 1} → store_says.statement M
  -- ---- a quote is what its loads pay
  -- the definition of a quote tells what loads spend, the bound that they reach, and where they end
  pub defined : QuoteOfLoads Step
  -- A call of the code's `quote` of at most 4,096 addresses, with the gas and the area's bound of f, answers what loads from f on spend, the bound that
  -- they reach, and where they end
  pub equals : (q : Quote) → length (list_of q) ≤ 4096 → {area : Area} {f g : Frame} {n : ℕ} → gas_of q ≡ f.gas → first_bound q ≡ bound_of f area
      → LoadRun Step area f (list_of q) n g → quote_outcome q.result ≡ done (end_of f.gas g.gas (bound_of g area) n)
  -- there are such loads, of every area, frame and list
  pub loaded : (area : Area) (f : Frame) (list : List ℕ) → LoadsExist area f list
  -- there are such quotes
  pub asked : (list : List ℕ) (gas bound : ℕ) → QuoteExists list gas bound
  -- ---- growth adds up
  pub adds_up : GrowthAddsUp Step
  -- there are such runs: on every well-formed memory a load whose access is paid can come next
  pub load_next : (m : Mem) → well_formed m ≡ true → (area : Area) (f : Frame) (x : ℕ) → (frame_accessed f area x).paid ≡ true
      → Leaves m (Load area f (registers_at x) load_places) (frame_accessed f area x).frame m
  -- and so can every store that the definition carries out, to a page whose number has 32 bits
  pub store_next : (m : Mem) (area : Area) (f : Frame) (g : Registers) (p : StorePlaces) (kernel : Bool) (h : Hook) → Numbered g → heap_of f area ≤ 4294967295
      → carried_out (answer_of m (Store area f g p kernel h)) ≡ true
      → Goes m (Store area f g p kernel h) (done (executed (stored_into g p (stored area f (source_of g p.source) (value_of kernel g (register_number p.value)) h))))
  -- there is a well-formed memory
  pub formed : (m : Mem) × (well_formed m ≡ true)
  -- a run worked out by hand
  pub worked : Worked
