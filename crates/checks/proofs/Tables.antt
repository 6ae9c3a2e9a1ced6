-- What the numbers of a well-formed memory's tables tell: whether a page is allocated, an entry left, a chunk held.
-- Assumes nothing.
use mathlib.Core.Path.{◌≡◌, refl, sym, ap, ◌∙◌, subst}
use mathlib.Core.Bool.{Bool, true, false, not, ◌&&◌}
use mathlib.Core.List.{List}
use mathlib.Core.Logic.{⊎_elim}
use Prim.Native.Nat.{ℕ, zero, suc, ◌+◌, ◌-◌, ◌≤◌, ◌<◌}
use native.Mathlib.Omega.{arith}
use lib.Dec.{ltb, eqb}
use lib.ListN.{get_or, take, drop}
use borrow.Author.Tests.{eq-eqb, ne_eqb, lt-ltb, le-ltb, le-leb}
use Rattle.index.specs.Index.{seek}
use Rattle.index.proofs.Logic.{same_or_not}
use Rattle.store.specs.Keys.{last_chunk, key_of}
use Rattle.store.specs.Indexed.{Ranked}
use Rattle.store.specs.Find.{slot_at_entry, slot_within, slot_for, Findable}
use Rattle.store.specs.Mem.{Mem, slot_count, page_count, in_use}
use Rattle.store.proofs.Slots.{slot_of_key}
use Rattle.formed.specs.Parts.{entry_of, allocated, entries_left, holds, slot_of_chunk, pool}
use Rattle.formed.specs.WellFormed.{WellFormed}
use Rattle.formed.proofs.Sizes.{entries_long}
use Rattle.formed.proofs.Sense.{left_is, unlisted_holds}
use Rattle.view.specs.Steps.{missing}
use Rattle.view.proofs.Missing.{missing_held, missing_all}
use Rattle.checks.specs.Located.{Locates}

module _ (m : Mem) (f : WellFormed m) where
  -- a page is allocated if its entry is one of the table
  pub allocated_by : (p e : ℕ) → e ≡ entry_of m p → ltb e (page_count m.words + 4) ≡ allocated m p
  unfolding allocated
  allocated_by p e q = rw (q, entries_long m f.lengths) refl

  -- no entry is left if all are in use
  pub left_none : eqb (in_use m.words) (page_count m.words + 4) ≡ eqb (entries_left m) 0
  left_none = both (in_use m.words) (entries_left m) (page_count m.words + 4) (left_is m f)
    where
      both : (n l t : ℕ) → l + n ≡ t → eqb n t ≡ eqb l 0
      both n zero t e = rw (eq-eqb n t (omega arith)) refl
      both n (suc l) t e = rw (ne_eqb n t (λ q. omega arith), ne_eqb (suc l) 0 (λ q. omega arith)) refl

  -- the test of a page that is not allocated
  pub entry_asked : (p : ℕ) → allocated m p ≡ false → eqb (in_use m.words) (page_count m.words + 4) ≡ (not (allocated m p) && eqb (entries_left m) 0)
  entry_asked p new = left_none ∙ ap (λ (b : Bool). not b && eqb (entries_left m) 0) (sym new)

  -- none of its chunks is held
  module _ (p : ℕ) (new : allocated m p ≡ false) (first count n : ℕ) (is : n ≡ pool m) where
    all_missing : missing (holds m p) first count ≡ count
    all_missing = missing_all (holds m p) (λ k. unlisted_holds m f p k new) first count

    pub pool_short : n < count → ltb (pool m) (missing (holds m p) first count) ≡ true
    pool_short l = let a = all_missing in lt-ltb (pool m) (missing (holds m p) first count) (omega arith)

    pub pool_enough : count ≤ n → ltb (pool m) (missing (holds m p) first count) ≡ false
    pool_enough l = let a = all_missing in le-ltb (pool m) (missing (holds m p) first count) (omega arith)

-- the page at entry e holds chunk k
abbrev pub holds_at : List ℕ → List ℕ → ℕ → ℕ → Bool
holds_at keys words e k = ltb (slot_within keys words e k) (slot_count words)

-- the chunks that a page holds are those that its entry holds
pub held_at : (m : Mem) (p e : ℕ) → e ≡ entry_of m p → holds_at m.keys m.words e ≡ holds m p
unfolding holds slot_of_chunk
held_at m p e q = rw q refl

-- a slot that has the key of a chunk is the chunk's
pub key_found : (keys order words : List ℕ) → Findable keys order words → (p k key s : ℕ) → key ≡ key_of (seek (drop (slot_count words) keys) (p + 1)) k → (s < slot_count words) × (get_or keys s 0 ≡ key) → s ≡ slot_for keys words p k
key_found keys order words f p k key s is t = slot_of_key keys order words f.slots key s (omega arith) t ∙ ap (seek (take (slot_count words) keys)) is

-- one chunk more is known to be held
pub run_longer : (keys words : List ℕ) (p first i s : ℕ) → ((x : ℕ) → first ≤ x → x < first + i → slot_for keys words p x < slot_count words) → (s < slot_count words → s ≡ slot_for keys words p (first + i)) → s < slot_count words
    → (x : ℕ) → first ≤ x → x < first + (i + 1) → slot_for keys words p x < slot_count words
run_longer keys words p first i s known is l x a b =
    ⊎_elim
    (λ (e : x ≡ first + i). let q = is l in let w : slot_for keys words p x ≡ slot_for keys words p (first + i) = ap (slot_for keys words p) e in omega arith)
    (λ (ne : x ≡ first + i → ⊥). known x a (omega arith))
    (same_or_not x (first + i))

-- what the slot of a key tells of its chunk
module _ (keys words : List ℕ) (e k : ℕ) (near : k ≤ last_chunk) where
  within_near : slot_within keys words e k ≡ slot_at_entry keys words e k
  within_near = rw (le-leb k last_chunk near)

  pub found_held : slot_at_entry keys words e k < slot_count words → holds_at keys words e k ≡ true
  found_held l = let q = within_near in lt-ltb (slot_within keys words e k) (slot_count words) (omega arith)

  pub found_none : slot_count words ≤ slot_at_entry keys words e k → holds_at keys words e k ≡ false
  found_none l = let q = within_near in le-ltb (slot_within keys words e k) (slot_count words) (omega arith)

-- what a located range tells: none is missing before the chunk `at`, whose key has this rank
module _ (keys order words : List ℕ) (e p first count at rank : ℕ) (is : e ≡ seek (drop (slot_count words) keys) (p + 1)) (top : first + count ≤ last_chunk + 1) (l : Locates keys order words p first count at rank) where
  pub located_none : missing (holds_at keys words e) first (at - first) ≡ 0
  located_none =
      let a = l.from in
      let b = l.to in
      missing_held (holds_at keys words e) first (at - first) (λ x low high.
      let h = l.held x low (omega arith) in
      let q : slot_at_entry keys words e x ≡ slot_for keys words p x = ap (λ (y : ℕ). slot_at_entry keys words y x) is in
      found_held keys words e x (omega arith) (omega arith))

  pub located_rank : at < first + count → Ranked keys order words (key_of e (first + (at - first))) rank
  located_rank more =
      let a = l.from in
      let q : first + (at - first) ≡ at = omega arith in
      subst (λ (x : ℕ). Ranked keys order words x rank) (sym (ap (key_of e) q ∙ ap (λ (y : ℕ). key_of y at) is)) (l.ranked more)
