-- Which refusal a rollback gets, and what it has passed otherwise.
-- Assumes nothing.
use mathlib.Core.Path.{◌≡◌, refl, ap, ◌∙◌}
use mathlib.Core.Bool.{Bool, true, false, ◌||◌, true≢false}
use mathlib.Core.List.{[]}
use Prim.Native.Nat.{ℕ, ◌≤◌, ◌<◌}
use native.Mathlib.Omega.{arith}
use lib.Dec.{ltb}
use lib.ListN.{length, get_or}
use borrow.Author.Tests.{lt-ltb, le-ltb, ltb-false}
use Rattle.outcome.specs.Outcome.{refused}
use Rattle.store.specs.Mem.{Mem}
use Rattle.formed.specs.WellFormed.{WellFormed}
use Rattle.view.specs.View.{view_of}
use Rattle.view.specs.Checks.{rollback_checks}
use Rattle.view.specs.Calls.{first_refusal}
use Rattle.view.proofs.Refused.{first_holds, first_fails, none_first, Refusals, end, next}
use Rattle.journal.specs.Steps.{RollBackAsks}
use Rattle.journal.proofs.Shown.{journal_long}

neither : (a b : Bool) → (a || b) ≡ false → (a ≡ false) × (b ≡ false)
neither true b e = absurd (true≢false e)
neither false b e = (refl, e)

module _ (m : Mem) (heap aux : ℕ) where
  -- the marks are past the journals' lengths
  abbrev H : Bool
  H = ltb (length ((view_of m).journal 0)) heap

  abbrev A : Bool
  A = ltb (length ((view_of m).journal 1)) aux

  heap_long : length ((view_of m).journal 0) ≡ get_or m.words 12 0
  heap_long = journal_long m 0 (omega arith)

  aux_long : length ((view_of m).journal 1) ≡ get_or m.words 13 0
  aux_long = journal_long m 1 (omega arith)

  pub heap_past : get_or m.words 12 0 < heap → 12 ≡ first_refusal (rollback_checks (view_of m) heap aux)
  heap_past l = first_holds (H || A) 12 [] (ap (λ (b : Bool). b || A) (lt-ltb _ heap (let q = heap_long in omega arith)))

  module _ (k : heap ≤ get_or m.words 12 0) where
    aux_decides : (H || A) ≡ A
    aux_decides = ap (λ (b : Bool). b || A) (le-ltb _ heap (let q = heap_long in omega arith))

    pub aux_past : get_or m.words 13 0 < aux → 12 ≡ first_refusal (rollback_checks (view_of m) heap aux)
    aux_past l = first_holds (H || A) 12 [] (aux_decides ∙ lt-ltb _ aux (let q = aux_long in omega arith))

    pub none_past : aux ≤ get_or m.words 13 0 → 0 ≡ first_refusal (rollback_checks (view_of m) heap aux)
    none_past l = first_fails (H || A) (refused 12) [] (aux_decides ∙ le-ltb _ aux (let q = aux_long in omega arith))

  pub rollback_refusals : Refusals (rollback_checks (view_of m) heap aux)
  rollback_refusals = next end

  pub rollback_asks : WellFormed m → first_refusal (rollback_checks (view_of m) heap aux) ≡ 0 → RollBackAsks m heap aux
  rollback_asks f e =
      let h = neither H A (none_first (H || A) 11 [] e).0 in
      record { formed = f; heap_mark = ltb-false _ heap h.0; aux_mark = ltb-false _ aux h.1 }
