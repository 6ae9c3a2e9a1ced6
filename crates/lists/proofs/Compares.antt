-- A comparison in a list: the memory on the left, on the right, or on both sides.
-- Assumes nothing.
use mathlib.Core.Path.{◌≡◌, refl, sym, ap, ◌∙◌}
use mathlib.Core.Logic.{⊎_elim}
use mathlib.Core.Bool.{Bool, true, false, cond, not}
use Prim.Native.Nat.{ℕ}
use lib.Dec.{eqb}
use borrow.Author.Tests.{eq-eqb, ne_eqb}
use Rattle.index.proofs.Logic.{same_or_not}
use Rattle.outcome.specs.Outcome.{Outcome, refused, done}
use Rattle.page_ids.specs.declared.Layout.{Layout}
use Rattle.store.specs.Mem.{Mem, layout_of}
use Rattle.formed.specs.Formed.{well_formed}
use Rattle.view.specs.View.{view_of}
use Rattle.view.specs.Steps.{alike}
use Rattle.view.specs.Checks.{same_layout}
use Rattle.view.specs.Calls.{Value, CompareLeft, CompareRight, CompareBoth, verdict, comparison_of, CallDoes}
use Rattle.reads.proofs.Calls.{only_reads}

-- ---- layouts are compared number by number, so the order does not matter
turned : (a b : ℕ) → eqb a b ≡ eqb b a
turned a b = ⊎_elim (λ (e : a ≡ b). eq-eqb a b e ∙ sym (eq-eqb b a (sym e))) (λ (n : a ≡ b → ⊥). ne_eqb a b n ∙ sym (ne_eqb b a (λ e. n (sym e)))) (same_or_not a b)

same_turned : (l k : Layout) → same_layout l k ≡ same_layout k l
same_turned l k =
    rw (
      turned l.static_memory.0 k.static_memory.0,
      turned l.calldata.0 k.calldata.0,
      turned l.bootloader_heap.0 k.bootloader_heap.0,
      turned l.bootloader_aux.0 k.bootloader_aux.0,
      turned l.base.0 k.base.0,
      turned l.stride k.stride,
    )

same_self : (l : Layout) → same_layout l l ≡ true
same_self l =
    rw (
      eq-eqb l.static_memory.0 l.static_memory.0 refl,
      eq-eqb l.calldata.0 l.calldata.0 refl,
      eq-eqb l.bootloader_heap.0 l.bootloader_heap.0 refl,
      eq-eqb l.bootloader_aux.0 l.bootloader_aux.0 refl,
      eq-eqb l.base.0 l.base.0 refl,
      eq-eqb l.stride l.stride refl,
    )

-- ---- a memory that is not well formed is refused the same, on whichever side it stands
module _ (x : Outcome Value) where
  either : (a b : Bool) → cond (not a) (refused 3) (cond (not b) (refused 3) x) ≡ cond (not b) (refused 3) (cond (not a) (refused 3) x)
  either true b = refl
  either false true = refl
  either false false = refl

  twice : (a : Bool) → cond (not a) (refused 3) (cond (not a) (refused 3) x) ≡ cond (not a) (refused 3) x
  twice true = refl
  twice false = refl

-- ---- the three calls; m is the memory of the list
module _ (m other : Mem) (o : Outcome Value) where
  pub left_call : o ≡ comparison_of m other → CallDoes m (CompareLeft other) o m
  left_call e = only_reads m (CompareLeft other) o refl e

  pub right_call : o ≡ comparison_of other m → CallDoes m (CompareRight other) o m
  right_call e =
      only_reads m (CompareRight other) o refl
      (e
      ∙ ap (λ (b : Bool). cond (not (well_formed other)) (refused 3) (cond (not (well_formed m)) (refused 3) (cond (not b) (refused 1) (done (verdict (alike (view_of other) (view_of m))))))) (same_turned (layout_of other.words) (layout_of m.words))
      ∙ either _ (well_formed other) (well_formed m))

  pub both_call : other ≡ m → o ≡ comparison_of m other → CallDoes m CompareBoth o m
  both_call q e = only_reads m CompareBoth o refl (e ∙ ap (comparison_of m) q ∙ rw (same_self (layout_of m.words)) (twice (done (verdict (alike (view_of m) (view_of m)))) (well_formed m)))
