-- What the lookups of slots and entries ask, in a well-formed memory.
-- Assumes nothing.
use Prim.Native.Nat.{ℕ, ◌+◌, ◌≤◌}
use native.Mathlib.Omega.{arith}
use Rattle.index.proofs.Places.{seek_le}
use Rattle.store.specs.Mem.{Mem, entries}
use Rattle.store.specs.Indexed.{Indexed, PagesIndexed}
use Rattle.formed.specs.Parts.{entry_of}
use Rattle.formed.specs.WellFormed.{WellFormed}
use Rattle.formed.proofs.Sizes.{entries_long}
use Rattle.formed.proofs.Meaning.{slots_index, pages_index}

module _ (m : Mem) (f : WellFormed m) where
  pub slots_asked : Indexed m.keys m.order m.words
  slots_asked =
      let k = f.lengths.in_keys in
      let o = f.lengths.in_order in
      let w = f.lengths.in_words in
      record { head = omega arith; few = f.lengths.chunks_hi; in_keys = omega arith; in_order = omega arith; index = slots_index m f }

  pub pages_asked : PagesIndexed m.keys m.order m.words
  pages_asked =
      let k = f.lengths.in_keys in
      let o = f.lengths.in_order in
      let w = f.lengths.in_words in
      record { head = omega arith; few = f.lengths.chunks_hi; in_keys = omega arith; in_order = omega arith; index = pages_index m f }

  -- an entry's number, also where no entry lists the page
  pub entry_few : (p : ℕ) → entry_of m p ≤ 4100
  entry_few p = let h = seek_le (entries m) (p + 1) in let l = entries_long m f.lengths in let c = f.lengths.pages_hi in omega arith
