-- What the structs and statuses tell that the owned calls return.
-- Assumes nothing.
use mathlib.Core.Path.{◌≡◌, sym, ap, ◌∙◌, subst}
use mathlib.Core.List.{[]}
use Prim.Native.Nat.{ℕ}
use lib.ListN.{length}
use Rattle.outcome.specs.Outcome.{Outcome, done}
use Rattle.word.specs.Value.{big_endian}
use Rattle.store.specs.Mem.{Mem}
use Rattle.formed.specs.WellFormed.{WellFormed}
use Rattle.view.specs.View.{view_of}
use Rattle.view.specs.Steps.{run}
use Rattle.view.specs.Calls.{Value, ReadWord, ReadByte, DynamicLength, Snapshot, WriteWord, number, lengths, CallDoes}
use Rattle.reads.proofs.Answers.{on_formed, pair_told}
use Rattle.reads.proofs.Calls.{word_call, byte_call, length_call, marks_call}

-- ---- reads, which a well-formed memory cannot refuse
module _ (m : Mem) (formed : WellFormed m) where
  -- a word that was read
  pub word_does : (p a : ℕ) {n : ℕ} → n ≡ big_endian (run (view_of m) p a 32) → CallDoes m (ReadWord p a) (done (number n)) m
  word_does p a e = word_call m p a (done _) (ap done e ∙ sym (on_formed m [] (big_endian (run (view_of m) p a 32)) formed))

  pub byte_does : (p a : ℕ) {n : ℕ} → n ≡ (view_of m).bytes p a → CallDoes m (ReadByte p a) (done (number n)) m
  byte_does p a e = byte_call m p a (done _) (ap done e ∙ sym (on_formed m [] ((view_of m).bytes p a) formed))

  pub length_does : {n : ℕ} → n ≡ (view_of m).dynamic_length → CallDoes m DynamicLength (done (number n)) m
  length_does e = length_call m (done _) (ap done e ∙ sym (on_formed m [] (view_of m).dynamic_length formed))

  pub marks_does : {heap aux : ℕ} → heap ≡ length ((view_of m).journal 0) → aux ≡ length ((view_of m).journal 1) → CallDoes m Snapshot (done (lengths heap aux)) m
  marks_does e q = marks_call m (done _) (sym (on_formed m [] (length ((view_of m).journal 0), length ((view_of m).journal 1)) formed ∙ pair_told e q))

-- ---- writes
-- the same word that is written
pub written_as : {m m' : Mem} (p a : ℕ) {n k : ℕ} {o : Outcome Value} → n ≡ k → CallDoes m (WriteWord p a n) o m' → CallDoes m (WriteWord p a k) o m'
written_as {m} {m'} p a {o = o} e d = subst (λ (x : ℕ). CallDoes m (WriteWord p a x) o m') e d
