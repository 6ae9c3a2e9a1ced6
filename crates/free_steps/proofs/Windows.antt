-- A page shrunk to a window: its chunks below the window and those past it are dropped.
-- Assumes nothing.
use mathlib.Core.Path.{◌≡◌, refl, sym, ap, ◌∙◌, subst}
use mathlib.Core.Logic.{inl, inr, ⊎_elim}
use mathlib.Core.Bool.{Bool, true, false, not, ◌&&◌, ◌||◌, true≢false}
use Prim.Native.Nat.{ℕ, zero, suc, ◌+◌, ◌/◌, ◌≤◌, ◌<◌}
use native.Mathlib.Omega.{arith}
use lib.Dec.{eqb}
use borrow.Author.Tests.{lt-ltb, le-ltb, le-leb, lt-leb, eqb-true}
use Rattle.index.proofs.Logic.{lt_or_ge, and_left, and_right}
use Rattle.store.specs.Mem.{Mem, layout_of}
use Rattle.pool.specs.Give.{within}
use Rattle.pool.proofs.Gives.{within_yes, within_no}
use Rattle.formed.specs.Pages.{dynamic}
use Rattle.formed.specs.Parts.{allocated, holds}
use Rattle.formed.specs.WellFormed.{WellFormed}
use Rattle.formed.proofs.Bools.{refute}
use Rattle.formed.proofs.Sense.{unlisted_holds}
use Rattle.view.specs.View.{View, Setting, view_of, setting_of}
use Rattle.view.specs.Steps.{touched_count, touches, windowed}
use Rattle.view.specs.Does.{Shows}
use Rattle.view.proofs.Dropping.{without_then, without_same, without_none}
use Rattle.drops.specs.Drops.{dropping, PageAsks}
use Rattle.drops.proofs.Drops.{held_top}
use Rattle.free_steps.specs.Freeing.{window_end}

-- a window of 32 bits touches no more chunks than that
pub touched_few : (start n : ℕ) → touched_count start n ≤ start + n + 1
touched_few start zero = omega arith
touched_few start (suc n) = omega arith

-- ---- the end of a window
module _ (start n : ℕ) where
  pub end_past : 16777217 ≤ start / 256 + touched_count start n → 16777217 ≡ window_end start n
  end_past l = rw (le-leb 16777217 (start / 256 + touched_count start n) l)

  pub end_within : start / 256 + touched_count start n < 16777217 → start / 256 + touched_count start n ≡ window_end start n
  end_within l = rw (lt-leb 16777217 (start / 256 + touched_count start n) l)

  pub end_top : window_end start n ≤ 16777217
  end_top =
      ⊎_elim (λ (l : start / 256 + touched_count start n < 16777217). let e = end_within l in omega arith)
      (λ (l : 16777217 ≤ start / 256 + touched_count start n). let e = end_past l in omega arith)
      (lt_or_ge (start / 256 + touched_count start n) 16777217)

  end_least : (k : ℕ) → start / 256 + touched_count start n ≤ k → window_end start n ≤ k
  end_least k h =
      ⊎_elim (λ (l : start / 256 + touched_count start n < 16777217). let e = end_within l in omega arith)
      (λ (l : 16777217 ≤ start / 256 + touched_count start n). let e = end_past l in omega arith)
      (lt_or_ge (start / 256 + touched_count start n) 16777217)

  end_most : (k : ℕ) → k < 16777217 → k < start / 256 + touched_count start n → k < window_end start n
  end_most k h g =
      ⊎_elim (λ (l : start / 256 + touched_count start n < 16777217). let e = end_within l in omega arith)
      (λ (l : 16777217 ≤ start / 256 + touched_count start n). let e = end_past l in omega arith)
      (lt_or_ge (start / 256 + touched_count start n) 16777217)

  -- the two ranges are what the window does not overlap
  ranges : (b : Bool) (k : ℕ) → k < 16777217 → ((b && within 0 (start / 256) k) || (b && within (window_end start n) 16777217 k)) ≡ (b && not (touches start n k))
  ranges b k h =
      ⊎_elim
      (λ (l : k < start / 256). rw (within_yes 0 (start / 256) k (omega arith) l, lt-leb (start / 256) k l) (first b (within (window_end start n) 16777217 k)))
      (λ (l : start / 256 ≤ k).
      ⊎_elim
      (λ (g : k < start / 256 + touched_count start n).
      rw (within_no 0 (start / 256) k (inr l), within_no (window_end start n) 16777217 k (inl (end_most k h g)), le-leb (start / 256) k l, lt-ltb k (start / 256 + touched_count start n) g) (neither b))
      (λ (g : start / 256 + touched_count start n ≤ k).
      rw (within_no 0 (start / 256) k (inr l), within_yes (window_end start n) 16777217 k (end_least k g) h, le-leb (start / 256) k l, le-ltb k (start / 256 + touched_count start n) g) (last b))
      (lt_or_ge k (start / 256 + touched_count start n)))
      (lt_or_ge k (start / 256))
    where
      first : (b c : Bool) → ((b && true) || (b && c)) ≡ (b && true)
      first true c = refl
      first false c = refl

      neither : (b : Bool) → ((b && false) || (b && false)) ≡ (b && false)
      neither true = refl
      neither false = refl

      last : (b : Bool) → ((b && false) || (b && true)) ≡ (b && true)
      last true = refl
      last false = refl

  -- ---- a dynamic page that is allocated
  module _ (m : Mem) (p : ℕ) (a : PageAsks m p) where
    module _ (m₁ : Mem) (shows : Shows (setting_of m) (dropping (setting_of m) p 0 (start / 256) (view_of m)) m₁) where
      pub window_done : (e : ℕ) → e ≡ window_end start n → (m₂ : Mem) → Shows (setting_of m₁) (dropping (setting_of m₁) p e 16777217 (view_of m₁)) m₂
          → Shows (setting_of m) (windowed (setting_of m) p start n (view_of m)) m₂
      window_done e q m₂ shows₂ =
          let both = without_then (setting_of m) (λ q k. eqb q p && within 0 (start / 256) k) (λ q k. eqb q p && within (window_end start n) 16777217 k) (λ q. false) (λ q. false) (view_of m) m₁ m₂ shows
          (subst (λ (s : Setting). Shows s (dropping s p (window_end start n) 16777217 (view_of m₁)) m₂) shows.setting (subst (λ (x : ℕ). Shows (setting_of m₁) (dropping (setting_of m₁) p x 16777217 (view_of m₁)) m₂) q shows₂)) in
          let same = without_same (setting_of m) (λ q k. (eqb q p && within 0 (start / 256) k) || (eqb q p && within (window_end start n) 16777217 k)) (λ q k. (eqb q p && dynamic (layout_of m.words) p) && not (touches start n k)) (λ q. false) (λ q. false) (view_of m) m
          (record { formed = a.formed; setting = refl; view = refl }) (λ q k h. rw a.kind (ranges (eqb q p) k (held_top m p a q k h) ∙ ap (λ (b : Bool). b && not (touches start n k)) (whole (eqb q p)))) (λ q h. refl) in
          subst (λ (v : View). Shows (setting_of m) v m₂) same both
        where
          whole : (b : Bool) → b ≡ (b && true)
          whole true = refl
          whole false = refl

  -- ---- any other page stays as it is
  pub window_none : (m : Mem) (p : ℕ) → WellFormed m → (dynamic (layout_of m.words) p && allocated m p) ≡ false → Shows (setting_of m) (windowed (setting_of m) p start n (view_of m)) m
  window_none m p f e =
      without_none m f (λ q k. (eqb q p && dynamic (layout_of m.words) p) && not (touches start n k)) (λ q. false)
      (λ q k h. sym (refute ((eqb q p && dynamic (layout_of m.words) p) && not (touches start n k)) (λ t. held q k h (and_left (eqb q p && dynamic (layout_of m.words) p) _ t))))
      (λ q h. refl)
    where
      alone : (b c : Bool) → c ≡ true → (c && b) ≡ false → b ≡ false
      alone b true x y = y
      alone b false x y = absurd (true≢false (sym x))

      held : (q k : ℕ) → holds m q k ≡ true → (eqb q p && dynamic (layout_of m.words) p) ≡ true → ⊥
      held q k h t =
          let i = eqb-true q p (and_left (eqb q p) (dynamic (layout_of m.words) p) t) in
          true≢false (sym h ∙ ap (λ (x : ℕ). holds m x k) i ∙ unlisted_holds m f p k (alone (allocated m p) (dynamic (layout_of m.words) p) (and_right (eqb q p) (dynamic (layout_of m.words) p) t) e))
