-- Where dynamic pages lie.
-- Assumes nothing.
use mathlib.Core.Path.{◌≡◌, refl, sym, ◌∙◌}
use mathlib.Core.Logic.{⊎_elim}
use mathlib.Core.Bool.{Bool, true, false, cond, false≢true}
use Prim.Native.Nat.{ℕ, ◌-◌, ◌%◌, ◌≤◌, ◌<◌}
use lib.Dec.{ltb, eqb}
use borrow.Author.Tests.{lt-ltb}
use Rattle.page_ids.specs.Decode.{Page, none, page, by_remainder, is_dynamic}
use Rattle.page_ids.specs.declared.Layout.{Layout}
use Rattle.index.proofs.Logic.{lt_or_ge}
use Rattle.formed.specs.Pages.{dynamic, group}

-- a dynamic page lies at or above the base
pub dynamic_above : (l : Layout) (p : ℕ) → dynamic l p ≡ true → l.base.0 ≤ p
unfolding dynamic
dynamic_above l p y =
    ⊎_elim
    (λ (low : p < l.base.0).
    let n = go (eqb p l.static_memory.0) (eqb p l.calldata.0) (eqb p l.bootloader_heap.0) (eqb p l.bootloader_aux.0) (ltb p l.base.0)
    (cond (eqb l.stride 0) none (by_remainder ((p - l.base.0) % l.stride) (group l p))) (lt-ltb p l.base.0 low) in
    absurd (false≢true (sym n ∙ y)))
    (λ (h : l.base.0 ≤ p). h)
    (lt_or_ge p l.base.0)
  where
    go : (a b c d x : Bool) (z : Page) → x ≡ true → is_dynamic (cond a (page 3 0) (cond b (page 4 0) (cond c (page 5 0) (cond d (page 6 0) (cond x none z))))) ≡ false
    go true b c d x z e = refl
    go false true c d x z e = refl
    go false false true d x z e = refl
    go false false false true x z e = refl
    go false false false false x z e = rw e
