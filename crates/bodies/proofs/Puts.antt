-- Bytes that are put piece by piece.
-- Assumes nothing.
use mathlib.Core.Path.{◌≡◌, refl, sym, ap, ◌∙◌, subst}
use mathlib.Core.List.{List}
use Prim.Native.Nat.{ℕ, ◌+◌, ◌*◌, ◌/◌, ◌%◌, ◌≤◌, ◌<◌}
use native.Mathlib.Omega.{arith}
use lib.ListN.{length, get_or, take, drop}
use lib.Seq.{take-add, take_all, length-take-le}
use Rattle.store.specs.Mem.{Mem, mem}
use Rattle.store.specs.Find.{slot_for}
use Rattle.formed.specs.Parts.{slot_of_chunk}
use Rattle.formed.specs.WellFormed.{HeldAt}
use Rattle.formed.proofs.Hints.{slot_found}
use Rattle.formed.proofs.Sense.{holds_held}
use Rattle.view.specs.View.{View, Setting, setting_of, view_of}
use Rattle.view.specs.Does.{Shows}
use Rattle.view.specs.Inner.{putting, PutAsks}
use Rattle.bodies.specs.Words.{Spread}
use Rattle.bodies.proofs.Overs.{putting_two, putting_none}
use Rattle.bodies.proofs.Pieces.{slot_lt, moved, put_piece}

-- one step after another
pub shows_then : {s : Setting} {v : View} {m m' : Mem} (g : View → View) → Shows s v m → Shows (setting_of m) (g (view_of m)) m' → Shows s (g v) m'
shows_then g one two = record { formed = two.formed; setting = two.setting ∙ one.setting; view = two.view ∙ ap g one.view }

pub shows_view : {s : Setting} {v w : View} {m : Mem} → Shows s v m → v ≡ w → Shows s w m
shows_view one e = record { formed = one.formed; setting = one.setting; view = one.view ∙ e }

module _ (bytes keys order words : List ℕ) (p a : ℕ) (src : List ℕ) (asks : PutAsks (mem bytes keys order words) p a (length src)) where
  -- none is put yet
  pub put_none : Shows (setting_of (mem bytes keys order words)) (putting p a (take 0 src) (view_of (mem bytes keys order words))) (mem bytes keys order words)
  put_none = record { formed = asks.formed; setting = refl; view = sym (putting_none p a (view_of (mem bytes keys order words))) }

  -- the slot of the next piece
  pub put_slot : (s pos : ℕ) → pos < length src → s ≡ slot_for keys words p ((a + pos) / 256) → HeldAt (mem bytes keys order words) s p ((a + pos) / 256)
  put_slot s pos l h =
      let t = asks.top in
      let i : slot_of_chunk (mem bytes keys order words) p ((a + pos) / 256) ≡ s = sym (h ∙ slot_found (mem bytes keys order words) asks.formed p ((a + pos) / 256) (omega arith)) in
      subst (λ (x : ℕ). HeldAt (mem bytes keys order words) x p ((a + pos) / 256)) i (holds_held (mem bytes keys order words) asks.formed p ((a + pos) / 256) (asks.held pos l))

  -- .. is one of the chunks' places
  pub put_in : (s pos : ℕ) → pos < length src → s ≡ slot_for keys words p ((a + pos) / 256) → (256 * s + 256 ≤ length bytes) × (s < 65536)
  put_in s pos l h =
      let i = slot_lt (mem bytes keys order words) asks.formed s p ((a + pos) / 256) (put_slot s pos l h) in
      let n = asks.formed.lengths.in_bytes in
      let few = asks.formed.lengths.chunks_hi in
      (omega arith, omega arith)

  module _ (pos : ℕ) (now : List ℕ) (shown : Shows (setting_of (mem bytes keys order words)) (putting p a (take pos src) (view_of (mem bytes keys order words))) (mem now keys order words)) where
    -- n bytes more are
    pub put_more : (s n : ℕ) (next : List ℕ) → HeldAt (mem bytes keys order words) s p ((a + pos) / 256) → pos + n ≤ length src → (a + pos) % 256 + n ≤ 256
        → length next ≡ length now → Spread (λ i. 256 * s + (a + pos) % 256 + i) (λ i. get_or src (pos + i) 0) n now next
        → Shows (setting_of (mem bytes keys order words)) (putting p a (take (pos + n) src) (view_of (mem bytes keys order words))) (mem next keys order words)
    put_more s n next h fits within long c =
        let t = asks.top in
        let len = length-take-le pos src (omega arith) in
        let e : 256 * ((a + pos) / 256) + (a + pos) % 256 ≡ a + length (take pos src) = omega arith in
        let one = put_piece (mem now keys order words) shown.formed s p ((a + pos) / 256) ((a + pos) % 256) (moved (mem bytes keys order words) now s p ((a + pos) / 256) h) src pos n next long c fits within (omega arith) in
        shows_view (shows_then (putting p (256 * ((a + pos) / 256) + (a + pos) % 256) (take n (drop pos src))) shown one)
        (ap (λ (x : ℕ). putting p x (take n (drop pos src)) (putting p a (take pos src) (view_of (mem bytes keys order words)))) e
        ∙ putting_two p a (take pos src) (take n (drop pos src)) (view_of (mem bytes keys order words))
        ∙ ap (λ (x : List ℕ). putting p a x (view_of (mem bytes keys order words))) (sym (take-add pos n src)))

    -- all are
    pub put_done : length src ≤ pos → Shows (setting_of (mem bytes keys order words)) (putting p a src (view_of (mem bytes keys order words))) (mem now keys order words)
    put_done l = shows_view shown (ap (λ (x : List ℕ). putting p a x (view_of (mem bytes keys order words))) (take_all pos src l))
