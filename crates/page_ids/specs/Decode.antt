-- The rule of a layout, and what a page id stands for in it.
-- Assumes nothing.
use Rattle.std.specs.Prelude.{Bool, true, false, ◌||◌, [], ◌∷◌, ℕ, ◌-◌, ◌/◌, ◌%◌, eqb, ltb, leb, Option, Some, None, Result}
use Rattle.outcome.specs.Outcome.{Outcome, refused, done, first_of, result_outcome}
use Rattle.outcome.specs.declared.Refusal.{Refusal}
use Rattle.page_ids.specs.declared.Layout.{Layout}
use Rattle.page_ids.specs.declared.DynamicPageKind.TheVariants.{Code, Heap, Aux}
use Rattle.page_ids.specs.declared.DecodedPage.{DecodedPage}
use Rattle.page_ids.specs.declared.DecodedPage.TheVariants.{Static, BootloaderCalldata, BootloaderHeap, BootloaderAuxHeap, Dynamic}

-- the layout of six numbers
abbrev pub layout_from : (static calldata heap aux base stride : ℕ) → Layout
layout_from static calldata heap aux base stride = record {
  static_memory = record { 0 = static };
  calldata = record { 0 = calldata };
  bootloader_heap = record { 0 = heap };
  bootloader_aux = record { 0 = aux };
  base = record { 0 = base };
  stride = stride;
}

-- 01, refusal 1: the four fixed page ids are not distinct, or the stride is below 4
abbrev pub bad_layout : Layout → Bool
bad_layout l =
    eqb l.static_memory.0 l.calldata.0
    || (eqb l.static_memory.0 l.bootloader_heap.0
    || (eqb l.static_memory.0 l.bootloader_aux.0
    || (eqb l.calldata.0 l.bootloader_heap.0
    || (eqb l.calldata.0 l.bootloader_aux.0
    || (eqb l.bootloader_heap.0 l.bootloader_aux.0
    || ltb l.stride 4)))))

-- What a page id stands for: nothing (01: undecodable), or a page of a kind and a group.
-- The kinds are numbered code 0, heap 1, aux 2, static 3, calldata 4, bootloader heap 5, bootloader aux 6. A fixed page has group 0.
pub data Page : Type 0 where
  none : Page
  page : (kind group : ℕ) → Page

-- the kind's number and the group of a decoded page
abbrev pub page_of : Option DecodedPage → Page
page_of (Some (Dynamic Code group)) = page 0 group
page_of (Some (Dynamic Heap group)) = page 1 group
page_of (Some (Dynamic Aux group)) = page 2 group
page_of (Some Static) = page 3 0
page_of (Some BootloaderCalldata) = page 4 0
page_of (Some BootloaderHeap) = page 5 0
page_of (Some BootloaderAuxHeap) = page 6 0
page_of None = none

-- the number of a page's kind, 7 where it is undecodable
abbrev pub kind_number : Page → ℕ
kind_number none = 7
kind_number (page kind group) = kind

-- its group, 0 where it has none
abbrev pub group_number : Page → ℕ
group_number none = 0
group_number (page kind group) = group

abbrev pub is_none : Page → Bool
is_none none = true
is_none (page kind group) = false

-- kinds 0 to 2 are dynamic, 3 to 6 fixed
abbrev pub is_dynamic : Page → Bool
is_dynamic none = false
is_dynamic (page kind group) = ltb kind 3

abbrev pub is_fixed : Page → Bool
is_fixed none = false
is_fixed (page kind group) = leb 3 kind

-- 01's number, or the page, of a decoding
abbrev pub decoding_outcome : Result (Option DecodedPage) Refusal → Outcome Page
decoding_outcome r = result_outcome page_of r

-- remainder 0 means code, 2 heap, 3 aux, any other is undecodable
abbrev pub by_remainder : ℕ → ℕ → Page
by_remainder remainder group =
    first_of
    ((eqb remainder 0, page 0 group)
    ∷ (eqb remainder 2, page 1 group)
    ∷ (eqb remainder 3, page 2 group)
    ∷ [])
    none

-- fixed ids are matched first, then an id below the base is undecodable, otherwise the remainder decides (a stride of 0, which no tested layout has, makes no groups)
abbrev pub decoded : Layout → ℕ → Page
decoded l id =
    first_of
    ((eqb id l.static_memory.0, page 3 0)
    ∷ (eqb id l.calldata.0, page 4 0)
    ∷ (eqb id l.bootloader_heap.0, page 5 0)
    ∷ (eqb id l.bootloader_aux.0, page 6 0)
    ∷ (ltb id l.base.0, none)
    ∷ (eqb l.stride 0, none)
    ∷ [])
    (by_remainder ((id - l.base.0) % l.stride) ((id - l.base.0) / l.stride))

-- a decode that is given a layout and no memory meets 1
abbrev pub decoding : Layout → ℕ → Outcome Page
decoding l id = first_of ((bad_layout l, refused 1) ∷ []) (done (decoded l id))
