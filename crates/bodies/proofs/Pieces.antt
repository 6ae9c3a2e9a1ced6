-- A piece of a chunk is put: its bytes are the page's, and no other byte of any page changes.
-- Assumes nothing.
use mathlib.Core.Path.{◌≡◌, sym, ap, ◌∙◌, subst}
use mathlib.Core.Bool.{true}
use mathlib.Core.List.{List}
use Prim.Native.Nat.{ℕ, ◌+◌, ◌*◌, ◌-◌, ◌/◌, ◌%◌, ◌≤◌, ◌<◌}
use native.Mathlib.Omega.{arith}
use lib.ListN.{length, get_or, take, drop, length-drop}
use lib.Seq.{get_or-take, get_or-drop, length-take-le}
use borrow.Author.Tests.{lt-ltb}
use Rattle.store.specs.Keys.{key_chunk}
use Rattle.store.specs.Mem.{Mem, slot_count, holders, chunk_bytes}
use Rattle.formed.specs.Parts.{slot_of_chunk, holds, byte_at}
use Rattle.formed.specs.WellFormed.{holder, HeldAt, WellFormed}
use Rattle.formed.proofs.Sizes.{holders_long}
use Rattle.formed.proofs.Keys.{in_table}
use Rattle.formed.proofs.Sense.{holds_held, held_byte}
use Rattle.view.specs.View.{setting_of, view_of}
use Rattle.view.specs.Steps.{over}
use Rattle.view.specs.Does.{Shows}
use Rattle.view.specs.Inner.{putting}
use Rattle.bodies.specs.Words.{Spread}
use Rattle.bodies.proofs.Overs.{over_by}
use Rattle.bodies.proofs.Kept.{Bodies, with_bytes, cut_same, slot_same, body_kept, body_shows}

-- a slot that is held is a slot
pub slot_lt : (m : Mem) → WellFormed m → (s p k : ℕ) → HeldAt m s p k → s < slot_count m.words
slot_lt m f s p k h =
    let i = in_table (holders m) s h.held in
    let l = holders_long m f.lengths in
    omega arith

-- the keys say where a chunk is held
pub moved : (m : Mem) (bytes' : List ℕ) (s p k : ℕ) → HeldAt m s p k → HeldAt (with_bytes m bytes') s p k
moved m bytes' s p k h = record { held = h.held; page = h.page; chunk = h.chunk }

slot_holds : (m : Mem) (q k : ℕ) → slot_of_chunk m q k < slot_count m.words → holds m q k ≡ true
unfolding holds
slot_holds m q k l = lt-ltb (slot_of_chunk m q k) (slot_count m.words) l

-- .. and so do the searches
pub held_here : (m : Mem) → WellFormed m → (s p k : ℕ) → slot_of_chunk m p k ≡ s → s < slot_count m.words → HeldAt m s p k
held_here m f s p k e l = subst (λ (x : ℕ). HeldAt m x p k) e (holds_held m f p k (slot_holds m p k (omega arith)))

-- n bytes of src are put at byte r of slot s, which holds chunk k of page p
module _ (m : Mem) (f : WellFormed m) (s p k r : ℕ) (there : HeldAt m s p k) (src : List ℕ) (from n : ℕ) (bytes' : List ℕ) (long : length bytes' ≡ length m.bytes)
    (copied : Spread (λ i. 256 * s + r + i) (λ i. get_or src (from + i) 0) n m.bytes bytes') (fits : from + n ≤ length src) (within : r + n ≤ 256) (top : 256 * k + r + n ≤ 4294967327) where
  piece_long : length (take n (drop from src)) ≡ n
  piece_long = length-take-le n (drop from src) (let l = length-drop from src in omega arith)

  outside : (b : ℕ) → (256 * s + r ≤ b → b < 256 * s + r + n → ⊥) → get_or bytes' b 0 ≡ get_or m.bytes b 0
  outside b off = copied.off b (λ i l e. off (omega arith) (omega arith))

  pub piece_bodies : Bodies m bytes'
  piece_bodies = record {
    long = long;
    pooled = λ t x l z lx.
        outside (256 * t + x) (λ lo hi.
        let e : s ≡ t = omega arith in
        let h = there.held in
        let q : holder m s ≡ 0 = ap (holder m) e ∙ z in
        omega arith);
    tail = λ t x pos e lx hx.
        outside (256 * t + x) (λ lo hi.
        let q : s ≡ t = omega arith in
        let d : key_chunk (holder m s) ≡ 16777216 = ap (λ (y : ℕ). key_chunk (holder m y)) q ∙ e in
        let g : k ≡ 16777216 = sym there.chunk ∙ d in
        omega arith);
    behind = λ b l. outside b (λ lo hi. let i = slot_lt m f s p k there in omega arith);
  }

  new_byte : (b : ℕ) → 256 * k + r ≤ b → b < 256 * k + r + n → byte_at (with_bytes m bytes') p b ≡ get_or (take n (drop from src)) (b - (256 * k + r)) 0
  new_byte b lo hi =
      let i = slot_lt m f s p k there in
      let e₁ : b ≡ 256 * k + (b - 256 * k) = omega arith in
      let e₂ : 256 * s + (b - 256 * k) ≡ 256 * s + r + (b - (256 * k + r)) = omega arith in
      ap (byte_at (with_bytes m bytes') p) e₁
      ∙ held_byte (with_bytes m bytes') (body_kept m f bytes' piece_bodies) s p k (b - 256 * k) (moved m bytes' s p k there) (omega arith)
      ∙ get_or-take (256 * slot_count m.words) bytes' (256 * s + (b - 256 * k)) 0 (omega arith)
      ∙ ap (λ (y : ℕ). get_or bytes' y 0) e₂
      ∙ copied.on (b - (256 * k + r)) (omega arith)
      ∙ sym (get_or-drop from src (b - (256 * k + r)) 0)
      ∙ sym (get_or-take n (drop from src) (b - (256 * k + r)) 0 (omega arith))

  old_byte : (q b : ℕ) → (q ≡ p → 256 * k + r ≤ b → b < 256 * k + r + n → ⊥) → byte_at (with_bytes m bytes') q b ≡ byte_at m q b
  unfolding byte_at
  old_byte q b off =
      let i = slot_lt m f s p k there in
      ap (λ (t : ℕ). get_or (chunk_bytes (with_bytes m bytes')) (256 * t + b % 256) 0) (slot_same m bytes' q (b / 256))
      ∙ cut_same (256 * slot_count m.words) bytes' m.bytes (256 * slot_of_chunk m q (b / 256) + b % 256)
      (outside (256 * slot_of_chunk m q (b / 256) + b % 256) (λ lo hi.
      let h = held_here m f s q (b / 256) (omega arith) i in
      let c : b / 256 ≡ k = sym h.chunk ∙ there.chunk in
      let g : q + 1 ≡ p + 1 = sym h.page ∙ there.page in
      off (omega arith) (omega arith) (omega arith)))

  pub put_piece : Shows (setting_of m) (putting p (256 * k + r) (take n (drop from src)) (view_of m)) (with_bytes m bytes')
  put_piece =
      let len = piece_long in
      body_shows m f bytes' piece_bodies (over p (256 * k + r) (take n (drop from src)) (byte_at m)) (λ q b.
      sym (over_by p (256 * k + r) (take n (drop from src)) (byte_at m) q b (byte_at (with_bytes m bytes') q b)
      (λ e lo hi. sym (ap (λ (x : ℕ). byte_at (with_bytes m bytes') x b) e ∙ new_byte b lo (omega arith)))
      (λ off. sym (old_byte q b (λ e lo hi. off e lo (omega arith))))))
