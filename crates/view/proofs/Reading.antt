-- A read inside a window is the same before and after the page is shrunk to it.
-- Assumes nothing.
use mathlib.Core.Path.{◌≡◌, refl}
use mathlib.Core.Bool.{Bool, true, false, cond, not, ◌&&◌}
use Prim.Native.Nat.{ℕ, zero, suc, ◌+◌, ◌-◌, ◌/◌, ◌≤◌, ◌<◌}
use native.Mathlib.Omega.{arith}
use lib.Dec.{eqb}
use borrow.Author.Tests.{lt-ltb, le-leb}
use Rattle.formed.specs.Pages.{dynamic}
use Rattle.formed.proofs.Same.{tab_upto}
use Rattle.view.specs.View.{View, Setting}
use Rattle.view.specs.Steps.{run, touches, windowed}

-- a chunk with a byte of the window is one that it overlaps
pub window_touches : (start n a : ℕ) → start ≤ a → a < start + n → touches start n (a / 256) ≡ true
window_touches start zero a l h = absurd (omega arith)
window_touches start (suc n) a l h =
    rw (le-leb (start / 256) (a / 256) (omega arith), lt-ltb (a / 256) (start / 256 + ((start + n) / 256 - start / 256 + 1)) (omega arith))

module _ (s : Setting) (p start n : ℕ) (v : View) where
  kept : (b : Bool) (x : ℕ) → cond (b && not true) 0 x ≡ x
  kept true x = refl
  kept false x = refl

  pub window_byte : (q a : ℕ) → start ≤ a → a < start + n → (windowed s p start n v).bytes q a ≡ v.bytes q a
  window_byte q a l h = rw (window_touches start n a l h) (kept (eqb q p && dynamic s.layout p) (v.bytes q a))

  -- so are the bytes of a pointer, a word or a range that lies in it
  pub window_run : (q a m : ℕ) → start ≤ a → a + m ≤ start + n → run (windowed s p start n v) q a m ≡ run v q a m
  window_run q a m l h = tab_upto m (λ i. (windowed s p start n v).bytes q (a + i)) (λ i. v.bytes q (a + i)) (λ i k. window_byte q (a + i) (omega arith) (omega arith))
