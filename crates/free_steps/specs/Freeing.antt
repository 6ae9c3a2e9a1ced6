-- The inner steps of windows and truncation: what each does to the view, and what it asks.
-- Assumes nothing.
use Rattle.std.specs.Prelude.{◌≡◌, Bool, true, false, cond, not, ◌&&◌, ℕ, ◌+◌, ◌-◌, ◌/◌, ◌≤◌, ◌<◌, leb, eqb, get_or}
use Rattle.page_ids.specs.declared.Layout.{Layout}
use Rattle.store.specs.Keys.{last_chunk}
use Rattle.store.specs.Mem.{Mem, fixed_count, layout_of, page_count, dynamic_length, entries}
use Rattle.formed.specs.Pages.{group}
use Rattle.formed.specs.WellFormed.{WellFormed}
use Rattle.view.specs.View.{View, Setting, setting_of, view_of}
use Rattle.view.specs.Steps.{touched_count, from_group, without, freed}
use Rattle.view.specs.Does.{Shows}
use Rattle.drops.specs.Drops.{EntriesBut}

-- the first chunk past a window, or past the page
abbrev pub window_end : ℕ → ℕ → ℕ
window_end start n = cond (leb (last_chunk + 1) (start / 256 + touched_count start n)) (last_chunk + 1) (start / 256 + touched_count start n)

-- the pages of groups from n up are freed; the dynamic length is as it was
abbrev pub emptied : Setting → ℕ → View → View
emptied s n v = without s (λ q k. from_group s.layout n q) (from_group s.layout n) v

-- the number x of an entry that is in use tells a page of a group from n up
abbrev pub is_from : Layout → ℕ → ℕ → Bool
is_from l n x = not (eqb x 0) && leb n (group l (x - 1))

-- entry e is one of those past the fixed pages'
pub record VisitAsks (m : Mem) (e : ℕ) : Type 0 where
  pub formed : WellFormed m
  pub past_fixed : fixed_count ≤ e
  pub in_table : e < page_count m.words + fixed_count

-- its page is freed, if it is of a group from n up
pub record Visited (m : Mem) (n e : ℕ) (m' : Mem) : Type 0 where
  pub free : is_from (layout_of m.words) n (get_or (entries m) e 0) ≡ true
      → (Shows (setting_of m) (freed (setting_of m) (get_or (entries m) e 0 - 1) (view_of m)) m') × EntriesBut (get_or (entries m) e 0 - 1) m m'
  pub kept : is_from (layout_of m.words) n (get_or (entries m) e 0) ≡ false → m' ≡ m

-- no page is allocated of a group from n up
pub record ShortenAsks (m : Mem) (n : ℕ) : Type 0 where
  pub formed : WellFormed m
  pub most : n ≤ dynamic_length m.words
  pub none : (q : ℕ) → from_group (layout_of m.words) n q ≡ true → (view_of m).allocated q ≡ false
