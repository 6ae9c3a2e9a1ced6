-- A well-formed memory whose bytes changed in the bodies of held chunks alone.
-- Assumes nothing.
use mathlib.Core.Path.{◌≡◌, refl, sym, ap, ◌∙◌, fun_ext}
use mathlib.Core.Logic.{⊎_elim}
use mathlib.Core.Bool.{cond}
use mathlib.Core.List.{List, [], ◌∷◌}
use Prim.Native.Nat.{ℕ, zero, suc, ◌+◌, ◌*◌, ◌≤◌, ◌<◌}
use native.Mathlib.Nat.{le_of_suc-le-suc, not-suc-le-zero}
use native.Mathlib.Omega.{arith}
use lib.Dec.{ltb}
use lib.ListN.{length, get_or, take}
use lib.Seq.{get_or-take}
use Rattle.formed.proofs.Sizes.{lengths_kept}
use Rattle.store.specs.Keys.{key_chunk}
use Rattle.index.proofs.Logic.{lt_or_ge}
use Rattle.store.specs.Mem.{Mem, mem, slot_count, journal_length, chunk_bytes}
use Rattle.formed.specs.Pages.{journal_count}
use Rattle.formed.specs.Parts.{Note, tab, note_address, old_place, slot_of_chunk, holds, byte_at, allocated, journal}
use Rattle.formed.specs.WellFormed.{holder, WellFormed}
use Rattle.formed.proofs.Meaning.{facts_of, formed_by}
use Rattle.view.specs.View.{View, setting_of, view_of}
use Rattle.view.specs.Does.{Shows}
use Rattle.view.proofs.Equal.{view_by}

abbrev pub with_bytes : Mem → List ℕ → Mem
with_bytes m bytes' = mem bytes' m.keys m.order m.words

abbrev pub bytes_are : (ℕ → ℕ → ℕ) → View → View
bytes_are g v = record {
  bytes = g;
  held = v.held;
  pool = v.pool;
  allocated = v.allocated;
  entries_left = v.entries_left;
  dynamic_length = v.dynamic_length;
  journal = v.journal;
}

-- bytes' are m's bytes at the places of pooled slots, past byte 30 of a last chunk, and behind the chunks
pub record Bodies (m : Mem) (bytes' : List ℕ) : Type 0 where
  pub long : length bytes' ≡ length m.bytes
  pub pooled : (s r : ℕ) → s < slot_count m.words → holder m s ≡ 0 → r < 256 → get_or bytes' (256 * s + r) 0 ≡ get_or m.bytes (256 * s + r) 0
  pub tail : (s r : ℕ) → 0 < holder m s → key_chunk (holder m s) ≡ 16777216 → 31 ≤ r → r < 256 → get_or bytes' (256 * s + r) 0 ≡ get_or m.bytes (256 * s + r) 0
  pub behind : (b : ℕ) → 256 * slot_count m.words ≤ b → get_or bytes' b 0 ≡ get_or m.bytes b 0

take_past : (n : ℕ) (xs : List ℕ) (i : ℕ) → n ≤ i → get_or (take n xs) i 0 ≡ 0
take_past zero xs i l = refl
take_past (suc n) [] i l = refl
take_past (suc n) (x ∷ xs) zero l = absurd (not-suc-le-zero l)
take_past (suc n) (x ∷ xs) (suc i) l = take_past n xs i (le_of_suc-le-suc l)

-- a place with the same byte has it among the chunks too
pub cut_same : (n : ℕ) (xs ys : List ℕ) (i : ℕ) → get_or xs i 0 ≡ get_or ys i 0 → get_or (take n xs) i 0 ≡ get_or (take n ys) i 0
cut_same n xs ys i e =
    ⊎_elim
    (λ (l : i < n). get_or-take n xs i 0 l ∙ e ∙ sym (get_or-take n ys i 0 l))
    (λ (l : n ≤ i). take_past n xs i l ∙ sym (take_past n ys i l))
    (lt_or_ge i n)

-- slots are found by the keys
pub slot_same : (m : Mem) (bytes' : List ℕ) (p k : ℕ) → slot_of_chunk (with_bytes m bytes') p k ≡ slot_of_chunk m p k
unfolding slot_of_chunk
slot_same m bytes' p k = refl

module _ (m : Mem) (f : WellFormed m) (bytes' : List ℕ) (kept : Bodies m bytes') where
  chunk_same : (b : ℕ) → get_or bytes' b 0 ≡ get_or m.bytes b 0 → get_or (chunk_bytes (with_bytes m bytes')) b 0 ≡ get_or (chunk_bytes m) b 0
  chunk_same b e = cut_same (256 * slot_count m.words) bytes' m.bytes b e

  -- it is well formed again
  pub body_kept : WellFormed (with_bytes m bytes')
  body_kept =
      let g = facts_of m f in
      let l = g.lengths in
      formed_by (with_bytes m bytes') record {
        lengths = lengths_kept m (with_bytes m bytes') (record { slots = refl; pages = refl; journals = refl; bytes_long = kept.long; keys_long = refl; order_long = refl; words_long = refl }) l;
        layout = g.layout;
        layout_width = g.layout_width;
        length_width = g.length_width;
        slots = g.slots;
        pages = g.pages;
        fixed_four = g.fixed_four;
        listed = g.listed;
        pooled = λ s i z r h. chunk_same (256 * s + r) (kept.pooled s r i z h) ∙ g.pooled s i z r h;
        held = λ s p.
            let h = g.held s p in
            record { entry = h.entry; top = h.top; tail = λ e r lo hi. chunk_same (256 * s + r) (kept.tail s r p e lo hi) ∙ h.tail e r lo hi };
        pool = g.pool;
        in_capacity = g.in_capacity;
        notes = λ j i o h. let n = g.notes j i o h in record { address = n.address; first = n.first; last = n.last };
      }

  held_same : (p k : ℕ) → holds (with_bytes m bytes') p k ≡ holds m p k
  unfolding holds slot_of_chunk
  held_same p k = refl

  allocated_same : (p : ℕ) → allocated (with_bytes m bytes') p ≡ allocated m p
  unfolding allocated
  allocated_same p = refl

  old_same : (j i : ℕ) → tab 32 (λ x. get_or bytes' (old_place m.words j i + x) 0) ≡ tab 32 (λ x. get_or m.bytes (old_place m.words j i + x) 0)
  old_same j i = ap (tab 32) (fun_ext (λ x. kept.behind (old_place m.words j i + x) (omega arith)))

  journal_same : (j : ℕ) → journal (with_bytes m bytes') j ≡ journal m j
  unfolding journal
  journal_same j =
      ap (λ (o : ℕ → List ℕ). tab {A = Note} (journal_length m.words j) (λ i. record { address = note_address m j i; old = o i })) (fun_ext (λ i. old_same j i))

  -- and but for the bytes its view is the same
  pub body_shows : (g : ℕ → ℕ → ℕ) → ((p a : ℕ) → byte_at (with_bytes m bytes') p a ≡ g p a) → Shows (setting_of m) (bytes_are g (view_of m)) (with_bytes m bytes')
  body_shows g bytes = record {
    formed = body_kept;
    setting = refl;
    view = view_by (view_of (with_bytes m bytes')) (bytes_are g (view_of m)) bytes held_same refl allocated_same refl refl
        (λ j. ap (λ (x : List Note). cond (ltb j journal_count) x []) (journal_same j));
  }
