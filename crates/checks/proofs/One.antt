-- A word in one chunk of an allocated page: of its refusals 10 and 11 are left.
-- Assumes nothing.
use mathlib.Core.Path.{◌≡◌, refl, sym, ap, ◌∙◌}
use mathlib.Core.Bool.{Bool, true, false, cond, not, ◌&&◌, false≢true}
use Prim.Native.Nat.{ℕ, zero, suc, ◌/◌, ◌%◌, ◌<◌, ◌≤◌}
use native.Mathlib.Omega.{arith}
use lib.Dec.{ltb, leb, eqb}
use borrow.Author.Tests.{lt-ltb, le-ltb, le-leb}
use Rattle.outcome.specs.Outcome.{refused}
use Rattle.store.specs.Mem.{Mem, slot_count}
use Rattle.formed.specs.Parts.{slot_of_chunk, holds, pool}
use Rattle.formed.specs.WellFormed.{WellFormed}
use Rattle.formed.proofs.Sense.{undecodable_unlisted}
use Rattle.view.specs.View.{setting_of, view_of}
use Rattle.view.specs.Steps.{missing}
use Rattle.view.specs.Checks.{undecodable, capacity_checks, capacity_checks_at, word_write_checks}
use Rattle.view.specs.Calls.{first_refusal}
use Rattle.view.proofs.Missing.{missing_one}
use Rattle.view.proofs.Refused.{first_fails}
use Rattle.checks.proofs.Chosen.{room_chosen}

not_true : (b : Bool) → (b ≡ true → ⊥) → b ≡ false
not_true true n = absurd (n refl)
not_true false n = refl

-- none is left, or not one
none_left : (n : ℕ) → not (leb 1 n) ≡ ltb n 1
none_left zero = refl
none_left (suc n) = ap not (le-leb 1 (suc n) (omega arith)) ∙ sym (le-ltb (suc n) 1 (omega arith))

-- an allocated page needs no entry
pub listed_entry : (m : Mem) (p : ℕ) → (view_of m).allocated p ≡ true → (not ((view_of m).allocated p) && eqb (view_of m).entries_left 0) ≡ false
listed_entry m p there = rw there refl

module _ (m : Mem) (f : WellFormed m) (p a : ℕ) (there : (view_of m).allocated p ≡ true) (one : a % 256 ≤ 224) where
  known : undecodable (setting_of m) p ≡ false
  unfolding undecodable
  known = not_true (undecodable (setting_of m) p) (λ u. false≢true (sym (undecodable_unlisted m f p u) ∙ there))

  pub one_number : (r : ℕ) → r ≡ first_refusal (capacity_checks (setting_of m) (view_of m) p (a / 256) 1 1) → r ≡ first_refusal (word_write_checks (setting_of m) (view_of m) p a)
  one_number r e = room_chosen a 32 1 (omega arith) (setting_of m) (view_of m) p 1 1 r refl e ∙ first_fails (undecodable (setting_of m) p) (refused 4) (capacity_checks_at (setting_of m) (view_of m) p a 32 1) known

-- whether the pool has too few for one chunk
module _ (m : Mem) (p k s : ℕ) (is : s ≡ slot_of_chunk m p k) where
  pub one_held : s < slot_count m.words → false ≡ ltb (view_of m).pool (missing ((view_of m).held p) k 1)
  unfolding holds
  one_held l =
      let h : holds m p k ≡ true = lt-ltb (slot_of_chunk m p k) (slot_count m.words) (omega arith) in
      let z : missing (holds m p) k 1 ≡ 0 = missing_one (holds m p) k ∙ ap (λ (b : Bool). cond b 0 1) h in
      sym (le-ltb (pool m) (missing (holds m p) k 1) (omega arith))

  pub one_missing : slot_count m.words ≤ s → not (leb 1 (view_of m).pool) ≡ ltb (view_of m).pool (missing ((view_of m).held p) k 1)
  unfolding holds
  one_missing l =
      let h : holds m p k ≡ false = le-ltb (slot_of_chunk m p k) (slot_count m.words) (omega arith) in
      none_left (pool m) ∙ sym (ap (ltb (pool m)) (missing_one (holds m p) k ∙ ap (λ (b : Bool). cond b 0 1) h))
