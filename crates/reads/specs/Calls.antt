-- What the reads answer.
-- Assumes nothing.
use Rattle.std.specs.Prelude.{◌≡◌, true, false, List, ℕ, Result}
use Rattle.outcome.specs.Outcome.{Outcome, carried_out, result_outcome}
use Rattle.outcome.specs.declared.Refusal.{Refusal}
use Rattle.word.specs.Value.{value}
use Rattle.word.specs.declared.Word.{Word}
use Rattle.view.specs.Calls.{Value, lengths, partial_word}
use Rattle.reads.specs.declared.PartialWord.{PartialWord}
use Rattle.reads.specs.declared.Marks.{Marks}

-- A read answers a value, or is refused with a number of 01's table
-- the number of the word
abbrev pub word_outcome : Result Word Refusal → Outcome ℕ
word_outcome r = result_outcome (λ w. value w.limbs) r

-- .. and how many bytes of the range lead it
abbrev pub word_and_count : PartialWord → ℕ × ℕ
word_and_count r = (value r.word.limbs, r.bytes_read)

abbrev pub partial_outcome : Result PartialWord Refusal → Outcome (ℕ × ℕ)
partial_outcome r = result_outcome word_and_count r

abbrev pub byte_outcome : Result ℕ Refusal → Outcome ℕ
byte_outcome r = result_outcome (λ b. b) r

abbrev pub length_outcome : Result ℕ Refusal → Outcome ℕ
length_outcome r = result_outcome (λ n. n) r

-- the lengths of the two journals
abbrev pub snapshot_outcome : Result Marks Refusal → Outcome (ℕ × ℕ)
snapshot_outcome r = result_outcome (λ k. (k.heap, k.aux)) r

-- a read that tells its outcome and gives a value, which is `none` where it is refused: what a C function returns by value
pub record ReadDoes {A : Type 0} (outcome reported : Outcome A) (value none : A) : Type 0 where
  pub answer : reported ≡ outcome
  pub zero : carried_out outcome ≡ false → value ≡ none

-- a read into an output: it is d after the call, and was o; `bytes` are those of the range
pub record RangeDoes {A : Type 0} (outcome reported : Outcome A) (bytes o d : List ℕ) : Type 0 where
  pub answer : reported ≡ outcome
  pub kept : carried_out outcome ≡ false → d ≡ o
  pub read : carried_out outcome ≡ true → d ≡ bytes

-- the same, among the values of all calls
abbrev pub partial_value : ℕ × ℕ → Value
partial_value x = partial_word x.0 x.1

abbrev pub lengths_value : ℕ × ℕ → Value
lengths_value x = lengths x.0 x.1
