-- 01's worked cases as one table. What a row says is said by the definitions that the contracts of the calls cite, and by no copies of them.
-- Assumes nothing.
use Rattle.std.specs.Prelude.{◌≡◌, Bool, false, ◌&&◌, ◌||◌, List, [], ◌∷◌, ℕ, ◌+◌, ◌-◌, ◌≤◌, eqb}
use Rattle.outcome.specs.Outcome.{Outcome, panicked, done, first_of}
use Rattle.page_ids.specs.Decode.{layout_from, Page, none, page, decoding}
use Rattle.page_ids.specs.declared.Layout.{Layout}
use Rattle.fat_pointer.specs.declared.FatPointer.{FatPointer}
use Rattle.fat_pointer.specs.Pointer.{pointer_of, pointer_word}
use Rattle.state.specs.declared.Frame.{Frame}
use Rattle.state.specs.declared.Area.TheVariants.{Heap}
use Rattle.state.specs.Access.{frame_accessed}
use Rattle.formed.specs.Parts.{tab}
use Rattle.view.specs.View.{View, Setting}
use Rattle.view.specs.Steps.{touched_count, windowed}
use Rattle.view.specs.Instructions.{access_checks, read_from, read_count}

pub data Case : Type 0 where
  -- a page id of 01's layout, and what it stands for
  decodes : (id : ℕ) → Page → Case
  -- an address, and how many chunks a word there touches
  spans : (address : ℕ) → (chunks : ℕ) → Case
  -- a window, and which chunks of its page it keeps
  keeps : (start length : ℕ) → (chunks : List ℕ) → Case
  -- a pointer, and the addresses of the bytes that are read
  reads : (start length offset : ℕ) → (addresses : List ℕ) → Case
  -- an access under a bound, what it pays where there is gas, and what it answers where there is none: the gas and the bound after it
  pays : (bound address : ℕ) → (price : ℕ) → (broke : Outcome (ℕ × ℕ)) → Case

-- ---- what the rows are of
-- 'base 64 and stride 8 and fixed ids 1, 4, 5, 6'
abbrev pub table_layout : Layout
table_layout = layout_from 1 4 5 6 64 8

-- a setting with that layout; no row reads its counts
abbrev pub table_setting : Setting
table_setting = record { layout = table_layout; chunks = 0; pages = 0; journal_words = 0 }

-- is k a number of the list?
abbrev pub among : List ℕ → ℕ → Bool
among [] k = false
among (n ∷ list) k = eqb k n || among list k

-- a pointer, read back from the number of its word
abbrev pub table_pointer : ℕ → ℕ → ℕ → FatPointer
table_pointer start length offset = pointer_of (pointer_word (record { offset = offset; memory_page = record { 0 = 66 }; start = start; length = length }))

-- a frame with this gas and heap bound
abbrev pub table_frame : ℕ → ℕ → Frame
table_frame gas bound = record { gas = gas; heap = record { 0 = 66 }; aux = record { 0 = 67 }; heap_bound = bound; aux_bound = 0; panicked = false }

abbrev pub gas_and_bound : Frame → ℕ × ℕ
gas_and_bound f = (f.gas, f.heap_bound)

-- the outcome of a load or store at an address, as far as the frame tells it
abbrev pub access : Frame → ℕ → Outcome (ℕ × ℕ)
access f address =
    first_of
    (access_checks (λ g. gas_and_bound g.frame) Heap f address)
    (done (gas_and_bound (frame_accessed f Heap address).frame))

-- ---- a row holds
-- A window is one of page 66, a heap: of the chunks that it held it holds those of the list, and no others. A price is paid from any gas that reaches it.
abbrev pub Holds : Case → Type 0
Holds (decodes id p) = decoding table_layout id ≡ done p
Holds (spans address chunks) = touched_count address 32 ≡ chunks
Holds (keeps start length chunks) =
    (v : View) (k : ℕ) → (windowed table_setting 66 start length v).held 66 k ≡ (v.held 66 k && among chunks k)
Holds (reads start length offset addresses) =
    let p = table_pointer start length offset in
    tab (read_count p) (λ i. read_from p + i) ≡ addresses
Holds (pays bound address price broke) =
    ((gas : ℕ) → price ≤ gas → access (table_frame gas bound) address ≡ done (gas - price, bound + price))
    × (access (table_frame 0 bound) address ≡ broke)

-- every row of a list holds
abbrev pub All : List Case → Type 0
All [] = Unit {0}
All (row ∷ rows) = Holds row × All rows

-- ---- THE TABLE
abbrev pub table : List Case
table =
    -- 'With base 64 and stride 8 and fixed ids 1, 4, 5, 6'; kinds are numbered code 0, heap 1, aux 2
    decodes 64 (page 0 0)  -- '64 code of group 0'
    ∷ decodes 65 none  -- '65 none'
    ∷ decodes 66 (page 1 0)  -- '66 heap'
    ∷ decodes 67 (page 2 0)  -- '67 aux'
    ∷ decodes 68 none  -- '68 none'
    ∷ decodes 74 (page 1 1)  -- '74 heap of group 1'
    ∷ decodes 63 none  -- '63 none'
    ∷ spans 224 1  -- 'A word at 224 touches one chunk'
    ∷ spans 225 2  -- 'at 225 two'
    ∷ keeps 256 256 (1 ∷ [])  -- 'Window 256, 256 keeps chunk 1'
    ∷ keeps 256 257 (1 ∷ 2 ∷ [])  -- '256, 257 keeps 1 and 2'
    ∷ keeps 300 300 (1 ∷ 2 ∷ [])  -- '300, 300 keeps 1 and 2'
    ∷ reads 10 5 3 (13 ∷ 14 ∷ [])  -- 'Pointer start 10, length 5: offset 3 reads bytes 13 and 14'
    ∷ reads 10 5 5 []  -- 'offset 5 reads none'
    ∷ pays 4096 4064 0 (done (0, 4096))  -- 'Bound 4,096: address 4,064 pays 0'
    ∷ pays 4096 4065 1 (panicked (0, 4096))  -- '4,065 pays 1; with gas 0 the latter panics, bound still 4,096'
    ∷ []
