-- A word in one piece.
-- Assumes nothing.
use mathlib.Core.Path.{◌≡◌, sym, ap, ◌∙◌}
use mathlib.Core.List.{List}
use Prim.Native.Nat.{ℕ, ◌+◌, ◌*◌, ◌%◌, ◌≤◌, ◌<◌}
use native.Mathlib.Omega.{arith}
use lib.ListN.{length, get_or}
use Rattle.word.specs.Value.{word_bytes}
use Rattle.word.proofs.Digits.{digits_long}
use Rattle.store.specs.Mem.{Mem, mem, layout_of, slot_count}
use Rattle.formed.specs.Parts.{tab}
use Rattle.formed.specs.WellFormed.{WellFormed}
use Rattle.formed.proofs.Same.{tab_upto}
use Rattle.view.specs.View.{view_of}
use Rattle.view.specs.Steps.{run}
use Rattle.view.specs.Calls.{WriteWord, nothing, CallDoes}
use Rattle.outcome.specs.Outcome.{done}
use Rattle.word_steps.specs.Asks.{WordFound}
use Rattle.word_steps.proofs.Found.{slots_found}
use Rattle.word_steps.proofs.Plain.{plain_does}
use Rattle.bodies.specs.Words.{place_in, Spread}
use Rattle.bodies.proofs.Copies.{spread_same}
use Rattle.read_steps.proofs.Bytes.{word_held}
use Rattle.hints.specs.Hints.{last_slot, InOnePiece, WithoutJournal}
use Rattle.hints.proofs.Pieces.{piece_place, piece_inside}

module _ (m : Mem) (f : WellFormed m) (p a : ℕ) where
  -- it lies in the bytes
  pub slot_inside : (s : ℕ) → InOnePiece m.keys m.words p a s → 256 * s + a % 256 + 32 ≤ length m.bytes
  slot_inside s h = let b = f.lengths.in_bytes in let l = piece_inside s a (slot_count m.words) h.last_in in omega arith

  -- and is the page's
  pub word_found : (s : ℕ) → a ≤ 4294967295 → s < slot_count m.words → InOnePiece m.keys m.words p a s → tab 32 (λ i. get_or m.bytes (256 * s + a % 256 + i) 0) ≡ run (view_of m) p a 32
  word_found s small l h =
      tab_upto 32 (λ i. get_or m.bytes (256 * s + a % 256 + i) 0) (λ i. get_or m.bytes (place_in s (last_slot s a) (a % 256) i) 0)
      (λ i li. ap (λ (x : ℕ). get_or m.bytes x 0) (sym (piece_place s a i li)))
      ∙ word_held m f p a s (last_slot s a) small h.first h.last l h.last_in

  -- a write to it
  module _ (s : ℕ) (page : p ≤ 4294967295) (small : a ≤ 4294967295) (l : s < slot_count m.words) (h : InOnePiece m.keys m.words p a s) where
    pub piece_found : WordFound m p a s (last_slot s a)
    piece_found = slots_found m f p a small s (last_slot s a) l h.last_in h.first h.last

    -- on a page without a journal
    pub piece_does : WithoutJournal (layout_of m.words) p → (n : ℕ) (bytes' : List ℕ) → length bytes' ≡ length m.bytes → Spread (λ i. 256 * s + a % 256 + i) (λ i. get_or (word_bytes n) (0 + i) 0) 32 m.bytes bytes'
        → CallDoes m (WriteWord p a n) (done nothing) (mem bytes' m.keys m.order m.words)
    piece_does none n bytes' long d =
        plain_does m p a s (last_slot s a) piece_found page small none n bytes' long
        (spread_same (λ i. 256 * s + a % 256 + i) (λ i. get_or (word_bytes n) (0 + i) 0) (place_in s (last_slot s a) (a % 256)) (λ i. get_or (word_bytes n) i 0) 32 m.bytes bytes'
        (λ i k. (piece_place s a i k, ap (λ (x : ℕ). get_or (word_bytes n) x 0) (let e : i ≡ 0 + i = omega arith in e)))
        d)

-- a word has 32 bytes
pub word_wide : (n : ℕ) (ws : List ℕ) → ws ≡ word_bytes n → length ws ≡ 32
word_wide n ws e = ap length e ∙ digits_long 32 n
