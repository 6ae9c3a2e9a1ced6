-- A word that is put at the slots that hold its chunks.
-- Assumes nothing.
use mathlib.Core.Path.{◌≡◌, sym, ap, ◌∙◌}
use mathlib.Core.List.{List}
use mathlib.Core.Logic.{⊎_elim}
use Prim.Native.Nat.{ℕ, ◌+◌, ◌*◌, ◌-◌, ◌/◌, ◌%◌, ◌≤◌, ◌<◌}
use native.Mathlib.Omega.{arith}
use lib.ListN.{length, get_or}
use lib.Seq.{get_or-take}
use Rattle.store.specs.Keys.{key_chunk}
use Rattle.index.proofs.Logic.{lt_or_ge}
use Rattle.store.specs.Mem.{Mem, slot_count, chunk_bytes}
use Rattle.formed.specs.Parts.{tab, slot_of_chunk, byte_at}
use Rattle.formed.specs.WellFormed.{holder, HeldAt, WellFormed}
use Rattle.formed.proofs.Same.{tab_at, tab_long}
use Rattle.formed.proofs.Sense.{held_byte}
use Rattle.view.specs.View.{setting_of, view_of}
use Rattle.view.specs.Steps.{over}
use Rattle.view.specs.Does.{Shows}
use Rattle.view.specs.Inner.{putting}
use Rattle.bodies.specs.Words.{place_in, Spread}
use Rattle.bodies.proofs.Copies.{place_low, place_high, place_is, place_lt}
use Rattle.bodies.proofs.Overs.{over_by}
use Rattle.bodies.proofs.Kept.{Bodies, with_bytes, cut_same, slot_same, body_kept, body_shows}
use Rattle.bodies.proofs.Pieces.{slot_lt, moved, held_here}

-- the slots s and t hold the first and the last chunk of the 32 bytes at address a of page p
module _ (m : Mem) (f : WellFormed m) (p a s t : ℕ) (small : a ≤ 4294967295) (first : HeldAt m s p (a / 256)) (last : HeldAt m t p ((a + 31) / 256))
    (g : ℕ → ℕ) (bytes' : List ℕ) (long : length bytes' ≡ length m.bytes) (d : Spread (place_in s t (a % 256)) g 32 m.bytes bytes') where
  abbrev m' : Mem
  m' = with_bytes m bytes'

  in_slot : (i : ℕ) → i < 32 → place_in s t (a % 256) i < 256 * slot_count m.words
  in_slot i l =
      let x = slot_lt m f s p (a / 256) first in
      let y = slot_lt m f t p ((a + 31) / 256) last in
      place_lt s t (a % 256) i (256 * slot_count m.words) (omega arith) l (omega arith) (omega arith)

  word_bodies : Bodies m bytes'
  word_bodies = record {
    long = long;
    pooled = λ x r lx z lr. d.off (256 * x + r) (λ i li e.
        let h = first.held in
        let k = last.held in
        ⊎_elim
        (λ (o : (x ≡ s) × (r ≡ a % 256 + i)). let q : holder m x ≡ holder m s = ap (holder m) o.0 in omega arith)
        (λ (o : (x ≡ t) × (r + 256 ≡ a % 256 + i)). let q : holder m x ≡ holder m t = ap (holder m) o.0 in omega arith)
        (place_is s t (a % 256) i x r lr (omega arith) li e));
    tail = λ x r pos z lo hi. d.off (256 * x + r) (λ i li e.
        let h = first.chunk in
        ⊎_elim
        (λ (o : (x ≡ s) × (r ≡ a % 256 + i)). let q : key_chunk (holder m x) ≡ key_chunk (holder m s) = ap (λ (y : ℕ). key_chunk (holder m y)) o.0 in let k = o.1 in omega arith)
        (λ (o : (x ≡ t) × (r + 256 ≡ a % 256 + i)). let k = o.1 in omega arith)
        (place_is s t (a % 256) i x r hi (omega arith) li e));
    behind = λ b l. d.off b (λ i li e. let h = in_slot i li in omega arith);
  }

  formed : WellFormed m'
  formed = body_kept m f bytes' word_bodies

  -- a byte of the word, in the slot x that holds its chunk k
  placed : (x k b : ℕ) → HeldAt m x p k → 256 * k ≤ b → b < 256 * k + 256 → a ≤ b → b < a + 32 → place_in s t (a % 256) (b - a) ≡ 256 * x + (b - 256 * k) → byte_at m' p b ≡ g (b - a)
  placed x k b h lo hi l₁ l₂ e =
      let i = slot_lt m f x p k h in
      let q : b ≡ 256 * k + (b - 256 * k) = omega arith in
      ap (byte_at m' p) q
      ∙ held_byte m' formed x p k (b - 256 * k) (moved m bytes' x p k h) (omega arith)
      ∙ get_or-take (256 * slot_count m.words) bytes' (256 * x + (b - 256 * k)) 0 (omega arith)
      ∙ ap (λ (y : ℕ). get_or bytes' y 0) (sym e)
      ∙ d.on (b - a) (omega arith)

  new_byte : (b : ℕ) → a ≤ b → b < a + 32 → byte_at m' p b ≡ g (b - a)
  new_byte b l₁ l₂ =
      ⊎_elim
      (λ (l : a % 256 + (b - a) < 256).
      let e : 256 * s + (a % 256 + (b - a)) ≡ 256 * s + (b - 256 * (a / 256)) = omega arith in
      placed s (a / 256) b first (omega arith) (omega arith) l₁ l₂ (place_low s t (a % 256) (b - a) l ∙ e))
      (λ (l : 256 ≤ a % 256 + (b - a)).
      let e : 256 * t + (a % 256 + (b - a) - 256) ≡ 256 * t + (b - 256 * ((a + 31) / 256)) = omega arith in
      placed t ((a + 31) / 256) b last (omega arith) (omega arith) l₁ l₂ (place_high s t (a % 256) (b - a) l ∙ e))
      (lt_or_ge (a % 256 + (b - a)) 256)

  -- every other byte
  old_byte : (q b : ℕ) → (q ≡ p → a ≤ b → b < a + 32 → ⊥) → byte_at m' q b ≡ byte_at m q b
  unfolding byte_at
  old_byte q b off =
      ap (λ (y : ℕ). get_or (chunk_bytes m') (256 * y + b % 256) 0) (slot_same m bytes' q (b / 256))
      ∙ cut_same (256 * slot_count m.words) bytes' m.bytes (256 * slot_of_chunk m q (b / 256) + b % 256)
      (d.off (256 * slot_of_chunk m q (b / 256) + b % 256) (λ i li e.
      ⊎_elim
      (λ (o : (slot_of_chunk m q (b / 256) ≡ s) × (b % 256 ≡ a % 256 + i)).
      let h = held_here m f s q (b / 256) o.0 (slot_lt m f s p (a / 256) first) in
      let c : b / 256 ≡ a / 256 = sym h.chunk ∙ first.chunk in
      let n : q + 1 ≡ p + 1 = sym h.page ∙ first.page in
      let r = o.1 in
      off (omega arith) (omega arith) (omega arith))
      (λ (o : (slot_of_chunk m q (b / 256) ≡ t) × (b % 256 + 256 ≡ a % 256 + i)).
      let h = held_here m f t q (b / 256) o.0 (slot_lt m f t p ((a + 31) / 256) last) in
      let c : b / 256 ≡ (a + 31) / 256 = sym h.chunk ∙ last.chunk in
      let n : q + 1 ≡ p + 1 = sym h.page ∙ last.page in
      let r = o.1 in
      off (omega arith) (omega arith) (omega arith))
      (place_is s t (a % 256) i (slot_of_chunk m q (b / 256)) (b % 256) (omega arith) (omega arith) li e)))

  -- the 32 bytes g stand at address a of page p
  pub put_shows : Shows (setting_of m) (putting p a (tab 32 g) (view_of m)) m'
  put_shows =
      let len = tab_long 32 g in
      body_shows m f bytes' word_bodies (over p a (tab 32 g) (byte_at m)) (λ q b.
      sym (over_by p a (tab 32 g) (byte_at m) q b (byte_at m' q b)
      (λ e lo hi. tab_at 32 g (b - a) (omega arith) ∙ sym (ap (λ (x : ℕ). byte_at m' x b) e ∙ new_byte b lo (omega arith)))
      (λ off. sym (old_byte q b (λ e lo hi. off e lo (omega arith))))))
