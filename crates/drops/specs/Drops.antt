-- The steps that freeing, windows and truncation are made of: what each does to the view, and what it asks.
-- Assumes nothing.
use Rattle.std.specs.Prelude.{◌≡◌, true, false, cond, ◌&&◌, ℕ, ◌+◌, ◌≤◌, eqb, get_or}
use Rattle.store.specs.Keys.{last_chunk}
use Rattle.store.specs.Mem.{Mem, layout_of, entries}
use Rattle.pool.specs.Give.{within}
use Rattle.formed.specs.Pages.{dynamic}
use Rattle.formed.specs.WellFormed.{WellFormed}
use Rattle.view.specs.View.{View, Setting, view_of}
use Rattle.view.specs.Steps.{without}

-- page p no longer holds the chunks from lo up to, but without, hi
abbrev pub dropping : Setting → ℕ → ℕ → ℕ → View → View
dropping s p lo hi v = without s (λ q k. eqb q p && within lo hi k) (λ q. false) v

-- page p, which holds nothing, is no longer allocated
abbrev pub unlisting : Setting → ℕ → View → View
unlisting s p v = without s (λ q k. false) (λ q. eqb q p) v

-- every entry stays as it was, but that of page p is free
abbrev pub EntriesBut : ℕ → Mem → Mem → Type 0
EntriesBut p m m' = (e : ℕ) → get_or (entries m') e 0 ≡ cond (eqb (get_or (entries m) e 0) (p + 1)) 0 (get_or (entries m) e 0)

-- a dynamic page that is allocated
pub record PageAsks (m : Mem) (p : ℕ) : Type 0 where
  pub formed : WellFormed m
  pub listed : (view_of m).allocated p ≡ true
  pub kind : dynamic (layout_of m.words) p ≡ true

pub record DropAsks (m : Mem) (p lo hi : ℕ) : Type 0 where
  pub page : PageAsks m p
  pub order : lo ≤ hi
  pub top : hi ≤ last_chunk + 1

pub record UnlistAsks (m : Mem) (p : ℕ) : Type 0 where
  pub page : PageAsks m p
  pub empty : (k : ℕ) → (view_of m).held p k ≡ false
