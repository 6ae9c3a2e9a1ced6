-- The view where a page was allocated.
-- Assumes nothing.
use mathlib.Core.Path.{◌≡◌, refl, sym, ◌∙◌}
use mathlib.Core.Bool.{Bool, true, false, cond, ◌&&◌, ◌||◌, and-false}
use mathlib.Core.List.{[], ◌++◌, append-nil}
use Prim.Native.Nat.{ℕ, ◌+◌, ◌-◌, zero-le, max}
use native.Mathlib.Omega.{arith}
use lib.Dec.{eqb}
use borrow.Author.Tests.{le-ltb}
use Rattle.formed.specs.Pages.{dynamic, group}
use Rattle.page_ids.specs.declared.Layout.{Layout}
use Rattle.view.specs.View.{View}
use Rattle.view.specs.Steps.{over, touches, missing, journalled, written}
use Rattle.view.proofs.Equal.{view_by}

module _ (l : Layout) (p : ℕ) (v : View) where
  over_none : (q a : ℕ) → v.bytes q a ≡ over p 0 [] v.bytes q a
  unfolding over
  over_none q a = rw (le-ltb a 0 zero-le, and-false, and-false)

  held_none : (q k : ℕ) → v.held q k ≡ ((eqb q p && touches 0 0 k) || v.held q k)
  held_none q k = rw (le-ltb k 0 zero-le, and-false, and-false)

  pool_none : v.pool ≡ v.pool - missing (v.held p) 0 0
  unfolding missing
  pool_none = less v.pool
    where
      less : (n : ℕ) → n ≡ n - 0
      less n = omega arith

  journal_none : (j : ℕ) → v.journal j ≡ cond (journalled l p j) (v.journal j ++ []) (v.journal j)
  journal_none j = go (journalled l p j)
    where
      go : (b : Bool) → v.journal j ≡ cond b (v.journal j ++ []) (v.journal j)
      go true = sym (append-nil (v.journal j))
      go false = refl

  -- w has the bytes, chunks and journals of v
  module _ (w : View) (bytes : (q a : ℕ) → w.bytes q a ≡ v.bytes q a) (held : (q k : ℕ) → w.held q k ≡ v.held q k) (pool : w.pool ≡ v.pool)
      (allocated : (q : ℕ) → w.allocated q ≡ (eqb q p || v.allocated q)) (entries : w.entries_left ≡ cond (v.allocated p) v.entries_left (v.entries_left - 1))
      (high : w.dynamic_length ≡ cond (dynamic l p) (max v.dynamic_length (group l p + 1)) v.dynamic_length) (journal : (j : ℕ) → w.journal j ≡ v.journal j) where
    pub listing_by : w ≡ written l p 0 [] [] v
    listing_by =
        view_by w (written l p 0 [] [] v) (λ q a. bytes q a ∙ over_none q a) (λ q k. held q k ∙ held_none q k) (pool ∙ pool_none) allocated entries high
        (λ j. journal j ∙ journal_none j)
