-- A memory that is well formed, so that `WellFormed` has a member. Memories that break one rule are run by the program `edges`.
-- Assumes nothing.
use mathlib.Core.Path.{◌≡◌, refl}
use mathlib.Core.Bool.{true}
use mathlib.Core.List.{List, [], ◌∷◌}
use Prim.Native.Nat.{ℕ}
use lib.ListN.{replicate}
use Rattle.index.specs.Index.{all, key_before, used_count, indexed}
use Rattle.bits.specs.Bits.{free_bits}
use Rattle.store.specs.Mem.{Mem, mem}
use Rattle.formed.specs.Buffers.{bytes_for}
use Rattle.formed.specs.Pages.{dynamic}
use Rattle.formed.specs.Formed.{zeros, held_right, slot_right, sized, narrow, head_right, entry_right, pool_right, journal_right, contents, well_formed}
use Rattle.formed.specs.WellFormed.{WellFormed}
use Rattle.formed.proofs.Meaning.{well_formed_means}

-- 01's layout 1, 4, 5, 6, base 64, stride 8; two chunks, one dynamic page, one journal word; chunk 0 of the bootloader heap is held in slot 0, page 66 is listed, and word 0 is journalled
abbrev keys₀ : List ℕ
keys₀ = 67108865 ∷ 0 ∷ 2 ∷ 5 ∷ 6 ∷ 7 ∷ 67 ∷ []

abbrev order₀ : List ℕ
order₀ = 0 ∷ 0 ∷ 0 ∷ 1 ∷ 2 ∷ 3 ∷ 4 ∷ 0 ∷ 0 ∷ 0 ∷ 0 ∷ []

abbrev words₀ : List ℕ
words₀ = 1 ∷ 4 ∷ 5 ∷ 6 ∷ 64 ∷ 8 ∷ 2 ∷ 1 ∷ 1 ∷ 1 ∷ 5 ∷ 1 ∷ 1 ∷ 0 ∷ 0 ∷ 0 ∷ 0 ∷ 0 ∷ 0 ∷ 0 ∷ 0 ∷ 0 ∷ 2 ∷ []

abbrev memory₀ : Mem
memory₀ = mem (replicate (bytes_for 2 1) 0) keys₀ order₀ words₀

pub passes : well_formed memory₀ ≡ true
unfolding well_formed sized head_right narrow contents entry_right pool_right free_bits journal_right dynamic indexed all key_before used_count slot_right held_right zeros
passes = refl

pub inhabited : WellFormed memory₀
inhabited = well_formed_means memory₀ passes
