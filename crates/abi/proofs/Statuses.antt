-- Statuses: the status of an answer is the outcome of the call.
-- Assumes nothing.
use mathlib.Core.Path.{◌≡◌, refl, sym, ap, ◌∙◌, subst}
use mathlib.Core.Bool.{Bool, true, false, cond, not, ◌&&◌, false≢true}
use mathlib.Core.List.{List}
use Prim.Native.Nat.{ℕ, ◌*◌}
use lib.Dec.{eqb}
use lib.ListN.{length}
use Rattle.std.specs.Prelude.{Result, Ok, ⊤}
use Rattle.outcome.specs.Outcome.{Outcome, refused, done, carried_out, answered, answer_outcome, status_of, unit_outcome}
use Rattle.outcome.specs.declared.Refusal.{Refusal}
use Rattle.outcome.proofs.Numbers.{status_answered}
use Rattle.store.specs.Mem.{Mem}
use Rattle.formed.specs.Formed.{zeros, well_formed}
use Rattle.formed.specs.WellFormed.{WellFormed}
use Rattle.formed.proofs.Meaning.{well_formed_means}
use Rattle.formed.proofs.Same.{tab_long}
use Rattle.view.specs.View.{View, Setting, view_of}
use Rattle.view.specs.Steps.{run}
use Rattle.view.specs.Checks.{lookup_checks, on_memory}
use Rattle.view.specs.Calls.{Value, WriteWord, nothing, CallDoes}
use Rattle.view.specs.Does.{Does}
use Rattle.reads.proofs.Answers.{block_long, block_zero}

-- r is the status of an answer
status_told : {A : Type 0} (x : A) (a : Result ⊤ Refusal) {r : ℕ} → r ≡ status_of a → answered r x ≡ answer_outcome x a
status_told x a e = ap (λ (k : ℕ). answered k x) e ∙ status_answered x a

call_status : {m m' : Mem} {o : Outcome Value} {s : Setting} {v : View} (a : Result ⊤ Refusal) {r : ℕ} → r ≡ status_of a → Does m o s v (answer_outcome nothing a) m' → Does m o s v (answered r nothing) m'
call_status a e d = record { answer = status_told nothing a e ∙ d.answer; kept = d.kept; changed = d.changed }

-- the word as it was made
pub word_status : {m : Mem} (p x : ℕ) {n k : ℕ} {m' : Mem} (a : Result ⊤ Refusal) {r : ℕ} → n ≡ k → r ≡ status_of a → CallDoes m (WriteWord p x n) (answer_outcome nothing a) m' → CallDoes m (WriteWord p x k) (answered r nothing) m'
word_status {m} p x {m' = m'} a {r} q e d = subst (λ (y : ℕ). CallDoes m (WriteWord p x y) (answered r nothing) m') q (call_status a e d)

-- ---- a chunk: a is the answer of its check
module _ (m : Mem) (p k : ℕ) (block : List ℕ) (a : Result ⊤ Refusal) (t : unit_outcome a ≡ on_memory m (lookup_checks block) tt) where
  -- a check that passes
  passes : a ≡ Ok tt → (well_formed m ≡ true) × ((eqb (length block) 256 && zeros block) ≡ true)
  passes e = go (well_formed m) (eqb (length block) 256 && zeros block) (ap carried_out (sym t ∙ ap unit_outcome e))
    where
      go : (b c : Bool) → carried_out {A = Unit {0}} (cond (not b) (refused 3) (cond (not c) (refused 8) (done tt))) ≡ true → (b ≡ true) × (c ≡ true)
      go true true h = (refl, refl)
      go true false h = absurd (false≢true h)
      go false c h = absurd (false≢true h)

  pub chunk_asks : a ≡ Ok tt → WellFormed m × ((length block ≡ 256) × (zeros block ≡ true))
  chunk_asks e = let h = passes e in (well_formed_means m h.0, (block_long block h.1, block_zero block h.1))

pub chunk_fits : (m : Mem) (p k : ℕ) (o : List ℕ) {d : List ℕ} → length o ≡ 256 → d ≡ run (view_of m) p (256 * k) 256 → length d ≡ length o
chunk_fits m p k o l q = ap length q ∙ tab_long 256 _ ∙ sym l
