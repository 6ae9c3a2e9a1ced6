-- What a reservation requires and ensures.
-- Assumes nothing.
use Rattle.std.specs.Prelude.{◌≡◌, true, false, ◌||◌, ℕ, ◌+◌, ◌^◌, ◌<◌, ◌≤◌, Result, ⊤}
use Rattle.outcome.specs.Outcome.{status_of}
use Rattle.outcome.specs.declared.Refusal.{Refusal}
use Rattle.store.specs.Keys.{last_chunk}
use Rattle.store.specs.Mem.{Mem, layout_of}
use Rattle.formed.specs.Pages.{fixed, dynamic}
use Rattle.formed.specs.WellFormed.{WellFormed}
use Rattle.view.specs.View.{view_of, setting_of}
use Rattle.view.specs.Steps.{missing}
use Rattle.view.specs.Checks.{capacity_checks}
use Rattle.view.specs.Calls.{first_refusal}
use Rattle.view.specs.Does.{Shows}
use Rattle.view.specs.Inner.{listing, holding}

-- page p can be allocated, and hold the n chunks from k on
pub record PrepareAsks (m : Mem) (p k n : ℕ) : Type 0 where
  pub formed : WellFormed m
  pub page : p ≤ 4294967295
  pub decodable : (fixed (layout_of m.words) p || dynamic (layout_of m.words) p) ≡ true
  pub entry : (view_of m).allocated p ≡ false → 0 < (view_of m).entries_left
  pub top : k + n ≤ last_chunk + 1
  pub room : missing ((view_of m).held p) k n ≤ (view_of m).pool

-- page p is decodable, and the n chunks from k on are chunks of a page; w is not too large to be added to a journal's length
pub record ReserveAsks (m : Mem) (p k n w : ℕ) : Type 0 where
  pub formed : WellFormed m
  pub page : p ≤ 4294967295
  pub decodable : (fixed (layout_of m.words) p || dynamic (layout_of m.words) p) ≡ true
  pub top : k + n ≤ last_chunk + 1
  pub words : w ≤ 2 ^ 60

-- r has the first refusal of 9, 10 and 11 that page p gets for the n chunks from k on and w journal words; where it gets none, it is allocated and holds them, and else the memory is as it was
pub record Reserved (m : Mem) (p k n w : ℕ) (r : Result ⊤ Refusal) (m' : Mem) : Type 0 where
  pub number : status_of r ≡ first_refusal (capacity_checks (setting_of m) (view_of m) p k n w)
  pub held : status_of r ≡ 0 → Shows (setting_of m) (holding p k n (listing m p)) m'
  pub kept : (status_of r ≡ 0 → ⊥) → m' ≡ m
