-- RULES OF 01 that the definitions of the contracts have, each in one sentence. A reader need not work them out.
-- Assumes nothing.
use Rattle.std.specs.Prelude.{◌≡◌, true, false, ◌⊎◌, List, ◌++◌, ℕ, ◌+◌, ◌-◌, ◌%◌, ◌^◌, ◌≤◌, ◌<◌, replicate}
use borrow.Fn.Kind.{ParamKind, ResultKind}
use borrow.Fn.Kinds.{In, Out}
use borrow.Fn.Args.{ArgsT, args_v}
use borrow.Table.Row.{Cx}
use borrow.Table.Typed.{Mo}
use borrow.Author.Called.{Called}
use Rattle.word.specs.Value.{last_address, big_endian, word_bytes}
use Rattle.fat_pointer.specs.declared.FatPointer.{FatPointer}
use Rattle.state.specs.Access.{new_bound}
use Rattle.store.specs.Mem.{Mem}
use Rattle.formed.specs.Buffers.{bytes_for, keys_for, order_for, words_for}
use Rattle.formed.specs.Parts.{allocated, byte_at}
use Rattle.formed.specs.Formed.{well_formed}
use Rattle.formed.specs.WellFormed.{WellFormed}
use Rattle.view.specs.View.{View, setting_of}
use Rattle.view.specs.Checks.{undecodable}
use Rattle.view.specs.Calls.{LookupRule}
use Rattle.view.specs.Steps.{run, padded}
use Rattle.view.specs.Instructions.{incremented, read_from, read_count}
use Rattle.lists.specs.Went.{WentBy}

pub record Rules : Type 3 where
  -- ---- the memory
  -- refusal 3: the test that the code computes is 01's sentence, both ways
  pub well_formed_lem : (m : Mem) → (well_formed m ≡ true → WellFormed m) × (WellFormed m → well_formed m ≡ true)
  -- refusal 2: for counts in bounds no buffer is longer than 33,554,432
  pub buffers_bound : (chunks pages words : ℕ) → chunks ≤ 65536 → pages ≤ 4096 → words ≤ 65536
      → (bytes_for chunks words ≤ 33554432) × (keys_for chunks pages ≤ 33554432) × (order_for chunks pages ≤ 33554432) × (words_for chunks words ≤ 33554432)
  -- an undecodable page is not allocated
  pub undecodable_not_allocated : (m : Mem) → WellFormed m → (p : ℕ) → undecodable (setting_of m) p ≡ true → allocated m p ≡ false
  -- a page that is undecodable or not allocated reads zero at every address
  pub reads_zero : (m : Mem) → WellFormed m → (p a : ℕ) → (undecodable (setting_of m) p ≡ true) ⊎ (allocated m p ≡ false) → byte_at m p a ≡ 0
  -- ---- the calls
  -- a lookup shows an empty part exactly where its check is refused
  pub lookup : (m : Mem) (p k : ℕ) (z : List ℕ) → LookupRule m p k z
  -- within the operand limit the new bound, a wrapping sum, is the address plus 32
  pub no_wrap : (x : ℕ) → x ≤ last_address → new_bound x ≡ x + 32
  -- and the incremented operand is the whole word plus 32; the low 32 bits are the address, a pointer's its offset
  pub no_carry : (x : ℕ) → x < 2 ^ 256 → x % 2 ^ 32 ≤ last_address → incremented x ≡ x + 32
  -- a pointer load reads at most 32 bytes, and none past the pointer's end
  pub read_limit : (p : FatPointer) → (read_count p ≤ 32) × (read_from p + read_count p ≤ p.start + p.length)
  -- where a page's bytes are below 256, as bytes are, up to 32 bytes of a range lead the word that is read, and its other bytes are 0: they are the padding
  pub padding : (v : View) (p a n : ℕ) → n ≤ 32 → ((i : ℕ) → v.bytes p i < 256) → word_bytes (big_endian (padded (run v p a n))) ≡ run v p a n ++ replicate (32 - n) 0
  -- each call of the code is a step: a caller that showed what is asked, and has what the logic hands it, has the `Went` of a step
  pub calls_are_steps : {n : ℕ} {ps : List (ParamKind n)} {r : ResultKind n} {P : In n ps} {Q : Out n ps r} {Γ : Cx} {ar : ArgsT ps Γ.locals} {u : Mo Γ}
      (c : Called ps r Q Γ ar u) → P c.lifetimes (args_v c.lifetimes ps Γ.locals ar u) → WentBy P c
