-- Keys, and where they stand.
-- Assumes nothing.
use mathlib.Core.Path.{◌≡◌, sym, ◌∙◌}
use mathlib.Core.Logic.{◌⊎◌, inl, inr, ⊎_elim}
use mathlib.Core.List.{List}
use Prim.Native.Nat.{ℕ, ◌≤◌, ◌<◌}
use native.Mathlib.Nat.{lt_of_not-le}
use native.Mathlib.Omega.{arith}
use lib.ListN.{length, get_or, get_or-eq_default}
use Rattle.store.specs.Keys.{key_of, key_entry, key_chunk}
use Rattle.index.specs.Index.{seek}
use Rattle.index.proofs.Logic.{lt_or_ge}
use Rattle.index.proofs.Places.{seek_hit, seek_upto}

pub le_or_gt : (a b : ℕ) → (a ≤ b) ⊎ (b < a)
le_or_gt a b = ⊎_elim (λ (l : b < a). inr l) (λ (l : a ≤ b). inl l) (lt_or_ge b a)

-- a place in use is of the table
pub in_table : (ks : List ℕ) (s : ℕ) → 0 < get_or ks s 0 → s < length ks
in_table ks s p = lt_of_not-le (λ past. let z = get_or-eq_default ks 0 past in omega arith)

-- the place of a key that is there once
pub seek_is : (xs : List ℕ) (k s : ℕ) → ((a b : ℕ) → 0 < get_or xs a 0 → get_or xs a 0 ≡ get_or xs b 0 → a ≡ b) → 0 < k → get_or xs s 0 ≡ k → seek xs k ≡ s
seek_is xs k s once pos e =
    let l = in_table xs s (rw e pos) in
    let u = seek_upto xs k s l e in
    let v : seek xs k < length xs = omega arith in
    once (seek xs k) s (rw (seek_hit xs k v) pos) (seek_hit xs k v ∙ sym e)

-- a key is its entry and its chunk
pub same_key : (a b : ℕ) → 0 < a → 0 < b → key_entry a ≡ key_entry b → key_chunk a ≡ key_chunk b → a ≡ b
same_key a b p q e c = omega arith

pub key_entry_lem : (e k : ℕ) → k < 33554432 → key_entry (key_of e k) ≡ e
key_entry_lem e k l = omega arith

pub key_chunk_lem : (e k : ℕ) → k < 33554432 → key_chunk (key_of e k) ≡ k
key_chunk_lem e k l = omega arith

pub key_again : (k : ℕ) → 0 < k → key_of (key_entry k) (key_chunk k) ≡ k
key_again k p = omega arith
