-- The bytes of a page in a well-formed memory, as the slots have them.
-- Assumes nothing.
use mathlib.Core.Path.{◌≡◌, refl, sym, ap, ◌∙◌}
use mathlib.Core.Bool.{true}
use mathlib.Core.List.{List, [], ◌∷◌}
use mathlib.Core.Logic.{⊎_elim}
use Prim.Native.Nat.{ℕ, zero, suc, ◌+◌, ◌*◌, ◌-◌, ◌/◌, ◌%◌, ◌≤◌, ◌<◌}
use native.Mathlib.Omega.{arith}
use lib.Dec.{eqb}
use lib.ListN.{length, get_or, take, drop, length-drop, get_or-eq_default}
use lib.Seq.{get_or-take, get_or-drop, length-take-le}
use borrow.Author.Tests.{le-leb, lt-leb, eqb-true}
use Rattle.index.proofs.Logic.{and_left, and_right, lt_or_ge}
use Rattle.index.specs.Index.{seek}
use Rattle.index.proofs.Places.{seek_le}
use Rattle.store.specs.Keys.{key_of}
use Rattle.store.specs.Mem.{Mem, slot_count, chunk_bytes}
use Rattle.store.specs.Find.{slot_for}
use Rattle.formed.specs.Parts.{tab, slot_of_chunk, byte_at}
use Rattle.formed.specs.Formed.{zeros}
use Rattle.formed.specs.WellFormed.{WellFormed}
use Rattle.formed.proofs.Same.{tab_is, tab_upto}
use Rattle.formed.proofs.Sizes.{chunks_long}
use Rattle.bodies.specs.Words.{place_in}
use Rattle.bodies.proofs.WordBytes.{word_byte}
use Rattle.read_steps.specs.Reading.{Put}
use Rattle.read_steps.proofs.Puts.{put_by, put_on}

-- a chunk up to 16,777,216 is looked for, and no slot holds one above
module _ (m : Mem) (p k : ℕ) where
  pub slot_near : k ≤ 16777216 → slot_for m.keys m.words p k ≡ slot_of_chunk m p k
  unfolding slot_of_chunk
  slot_near l = rw (le-leb k 16777216 l)

  pub slot_far : 16777216 < k → slot_count m.words ≡ slot_of_chunk m p k
  unfolding slot_of_chunk
  slot_far l = rw (lt-leb k 16777216 l)

  -- there are few slots
  pub slot_few : WellFormed m → (s : ℕ) → s ≡ slot_of_chunk m p k → s ≤ 65536
  slot_few f s e =
      let few = f.lengths.chunks_hi in
      let in_keys = f.lengths.in_keys in
      ⊎_elim (λ (far : 16777216 < k). let q = slot_far far in omega arith)
      (λ (near : k ≤ 16777216).
      let q = slot_near near in
      let l = seek_le (take (slot_count m.words) m.keys) (key_of (seek (drop (slot_count m.words) m.keys) (p + 1)) k) in
      let n = length-take-le (slot_count m.words) m.keys (omega arith) in
      omega arith)
      (lt_or_ge 16777216 k)

  -- a slot that has a chunk is the one that a lookup finds
  pub slot_within_lem : (s : ℕ) → s ≡ slot_of_chunk m p k → s < slot_count m.words → s ≡ slot_for m.keys m.words p k
  slot_within_lem s e l =
      ⊎_elim (λ (far : 16777216 < k). let q = slot_far far in absurd (omega arith)) (λ (near : k ≤ 16777216). e ∙ sym (slot_near near)) (lt_or_ge 16777216 k)

-- n bytes from offset r of slot s on, if there are c slots
module _ (c s r n : ℕ) (bytes : List ℕ) (long : 256 * c ≤ length bytes) (one : r + n ≤ 256) (to : ℕ) (o d : List ℕ) where
  pub slot_held : s < c → Put (λ i. get_or bytes (256 * s + r + i) 0) to n o d → Put (λ i. get_or (take (256 * c) bytes) (256 * s + r + i) 0) to n o d
  slot_held l w =
      put_by (λ i. get_or bytes (256 * s + r + i) 0) to o (λ i. get_or (take (256 * c) bytes) (256 * s + r + i) 0) n d
      (λ i h. sym (get_or-take (256 * c) bytes (256 * s + r + i) 0 (omega arith))) w

  pub slot_none : c ≤ s → Put (λ i. 0) to n o d → Put (λ i. get_or (take (256 * c) bytes) (256 * s + r + i) 0) to n o d
  slot_none l w =
      let e = length-take-le (256 * c) bytes long in
      put_by (λ i. 0) to o (λ i. get_or (take (256 * c) bytes) (256 * s + r + i) 0) n d
      (λ i h. sym (get_or-eq_default (take (256 * c) bytes) 0 (omega arith))) w

pub zero_at : (z : List ℕ) → zeros z ≡ true → (i : ℕ) → get_or z i 0 ≡ 0
unfolding zeros
zero_at [] e i = refl
zero_at (x ∷ z) e zero = eqb-true x 0 (and_left (eqb x 0) (zeros z) e)
zero_at (x ∷ z) e (suc i) = zero_at z (and_right (eqb x 0) (zeros z) e) i

module _ (m : Mem) (f : WellFormed m) (p : ℕ) where
  -- the slot of chunk c is s
  module _ (c s : ℕ) (is : s ≡ slot_of_chunk m p c) where
    -- the byte at an address of the chunk
    byte_is : (a : ℕ) → a / 256 ≡ c → byte_at m p a ≡ get_or (chunk_bytes m) (256 * s + a % 256) 0
    unfolding byte_at
    byte_is a e = ap (λ (x : ℕ). get_or (chunk_bytes m) (256 * x + a % 256) 0) (ap (slot_of_chunk m p) e ∙ sym is)

    pub byte_held : s < slot_count m.words → (a at : ℕ) → a / 256 ≡ c → at ≡ 256 * s + a % 256 → get_or m.bytes at 0 ≡ byte_at m p a
    byte_held l a at e q =
        sym (byte_is a e ∙ ap (λ (x : ℕ). get_or (chunk_bytes m) x 0) (sym q) ∙ get_or-take (256 * slot_count m.words) m.bytes at 0 (omega arith))

    pub byte_none : slot_count m.words ≤ s → (a : ℕ) → a / 256 ≡ c → 0 ≡ byte_at m p a
    byte_none l a e = let b = chunks_long m f.lengths in sym (byte_is a e ∙ get_or-eq_default (chunk_bytes m) 0 (omega arith))

    -- the chunk's 256 bytes
    pub chunk_held : s < slot_count m.words → take (256 * s + 256 - 256 * s) (drop (256 * s) m.bytes) ≡ tab 256 (λ i. byte_at m p (256 * c + i))
    chunk_held l =
        let b = f.lengths.in_bytes in
        let w : 256 * s + 256 - 256 * s ≡ 256 = omega arith in
        rw w
        (tab_is 256 (λ i. byte_at m p (256 * c + i)) (take 256 (drop (256 * s) m.bytes))
        (length-take-le 256 (drop (256 * s) m.bytes) (let h = length-drop (256 * s) m.bytes in omega arith))
        (λ i h. get_or-take 256 (drop (256 * s) m.bytes) i 0 h ∙ get_or-drop (256 * s) m.bytes i 0 ∙ byte_held l (256 * c + i) (256 * s + i) (omega arith) (omega arith)))

    pub chunk_none : slot_count m.words ≤ s → (z : List ℕ) → length z ≡ 256 → zeros z ≡ true → z ≡ tab 256 (λ i. byte_at m p (256 * c + i))
    chunk_none l z w e = tab_is 256 (λ i. byte_at m p (256 * c + i)) z w (λ i h. zero_at z e i ∙ byte_none l (256 * c + i) (omega arith))

  -- n bytes from address a on, of one chunk, whose slot is s
  module _ (a n s : ℕ) (one : a % 256 + n ≤ 256) (is : s ≡ slot_of_chunk m p (a / 256)) where
    pub run_held : s < slot_count m.words → (i : ℕ) → i < n → get_or m.bytes (256 * s + a % 256 + i) 0 ≡ byte_at m p (a + i)
    run_held l i h = byte_held (a / 256) s is l (a + i) (256 * s + a % 256 + i) (omega arith) (omega arith)

    pub part_is : (pos : ℕ) (o d : List ℕ) → Put (λ i. get_or (chunk_bytes m) (256 * s + a % 256 + i) 0) pos n o d → Put (λ i. byte_at m p (a + i)) pos n o d
    part_is pos o d w =
        put_by (λ i. get_or (chunk_bytes m) (256 * s + a % 256 + i) 0) pos o (λ i. byte_at m p (a + i)) n d
        (λ i h.
        let q : 256 * s + a % 256 + i ≡ 256 * s + (a + i) % 256 = omega arith in
        ap (λ (x : ℕ). get_or (chunk_bytes m) x 0) q ∙ sym (byte_is (a / 256) s is (a + i) (omega arith)))
        w

  -- a word in the slots that hold its chunks
  pub word_held : (a s t : ℕ) → a ≤ 4294967295 → s ≡ slot_for m.keys m.words p (a / 256) → t ≡ slot_for m.keys m.words p ((a + 31) / 256) → s < slot_count m.words → t < slot_count m.words
      → tab 32 (λ i. get_or m.bytes (place_in s t (a % 256) i) 0) ≡ tab 32 (λ i. byte_at m p (a + i))
  word_held a s t small first last ls lt =
      tab_upto 32 (λ i. get_or m.bytes (place_in s t (a % 256) i) 0) (λ i. byte_at m p (a + i))
      (word_byte m p a s t ls lt (sym (first ∙ slot_near m p (a / 256) (omega arith))) (sym (last ∙ slot_near m p ((a + 31) / 256) (omega arith))))

  -- the bytes from `start` on, part by part
  pub part_on : (start pos n : ℕ) (o d : List ℕ) → ((i : ℕ) → i < pos → get_or o i 0 ≡ byte_at m p (start + i))
      → Put (λ i. byte_at m p (start + pos + i)) pos n o d → (i : ℕ) → i < pos + n → get_or d i 0 ≡ byte_at m p (start + i)
  part_on start pos n o d h w =
      put_on (λ i. byte_at m p (start + i)) pos n o d h
      (put_by (λ i. byte_at m p (start + pos + i)) pos o (λ i. byte_at m p (start + (pos + i))) n d
      (λ i l. let q : start + pos + i ≡ start + (pos + i) = omega arith in ap (byte_at m p) q)
      w)
