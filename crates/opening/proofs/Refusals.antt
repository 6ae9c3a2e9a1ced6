-- Which refusal an opening gets, and its contract.
-- Assumes nothing.
use mathlib.Core.Path.{◌≡◌, refl, sym, ap, ◌∙◌, subst}
use mathlib.Core.Bool.{Bool, true, false, not, false≢true}
use mathlib.Core.List.{List, [], ◌∷◌}
use Prim.Native.Nat.{ℕ, zero, suc, ◌+◌, ◌*◌, ◌/◌, ◌≤◌, ◌<◌}
use native.Mathlib.Omega.{arith}
use lib.Dec.{ltb}
use lib.ListN.{length}
use borrow.Author.Tests.{lt-ltb, le-ltb, ltb-false, not-false}
use Rattle.outcome.specs.Outcome.{Outcome, refused, done, first_of, carried_out, answered}
use Rattle.page_ids.specs.Decode.{bad_layout}
use Rattle.store.specs.Mem.{Mem}
use Rattle.formed.proofs.Sizes.{fit_are, fit_test}
use Rattle.view.specs.View.{Setting, setting_of}
use Rattle.view.specs.Steps.{touched_count, empty_view, opened}
use Rattle.view.specs.Checks.{lengths_right, opening_checks}
use Rattle.view.specs.Does.{Shows, Does}
use Rattle.opening.specs.Opening.{sizes_right, Sizes, OpenAsks, CalldataAsks}

-- ---- refusal 2
module _ (s : Setting) (m : Mem) where
  pub sizes_are : sizes_right s m ≡ true → Sizes s m
  sizes_are = fit_are (length m.bytes) (length m.keys) (length m.order) (length m.words) s.chunks s.pages s.journal_words

  pub sizes_test : Sizes s m → sizes_right s m ≡ true
  sizes_test = fit_test (length m.bytes) (length m.keys) (length m.order) (length m.words) s.chunks s.pages s.journal_words

-- ---- refusal 10: the chunks that n bytes from address 0 on touch
pub touched_is : (n : ℕ) → (n + 255) / 256 ≡ touched_count 0 n
touched_is zero = refl
touched_is (suc n) = omega arith

touched_over : (c n : ℕ) → 256 * c < n → c < touched_count 0 n
touched_over c n l = let e = touched_is n in omega arith

touched_within : (c n : ℕ) → touched_count 0 n ≤ c → n ≤ 256 * c
touched_within c n l = let e = touched_is n in omega arith

touched_under : (c n : ℕ) → n ≤ 256 * c → touched_count 0 n ≤ c
touched_under c n l = let e = touched_is n in omega arith

-- ---- the three in their order
module _ {A : Type 0} (a : A) where
  abbrev first : Bool → Bool → Bool → Outcome A
  first x y z = first_of ((x, refused 1) ∷ (y, refused 2) ∷ (z, refused 10) ∷ []) (done a)

  passes : (x y z : Bool) (n : ℕ) → n ≡ 0 → answered n a ≡ first x y z → (x ≡ false) × (y ≡ false) × (z ≡ false)
  passes false false false n q e = (refl, refl, refl)
  passes true y z n q e = absurd (false≢true (sym (ap carried_out (ap (λ (i : ℕ). answered i a) (sym q) ∙ e))))
  passes false true z n q e = absurd (false≢true (sym (ap carried_out (ap (λ (i : ℕ). answered i a) (sym q) ∙ e))))
  passes false false true n q e = absurd (false≢true (sym (ap carried_out (ap (λ (i : ℕ). answered i a) (sym q) ∙ e))))

  number_refused : (n : ℕ) → (n ≡ 0 → ⊥) → refused n ≡ answered n a
  number_refused zero h = absurd (h refl)
  number_refused (suc n) h = refl

  module _ (s : Setting) (m : Mem) (n : ℕ) where
    abbrev outcome : Outcome A
    outcome = first_of (opening_checks s (lengths_right s m) n) (done a)

    pub refused_1 : bad_layout s.layout ≡ true → answered 1 a ≡ outcome
    refused_1 e = go (bad_layout s.layout) e
      where
        go : (x : Bool) → x ≡ true → refused 1 ≡ first x (not (sizes_right s m)) (ltb s.chunks (touched_count 0 n))
        go x e = rw e refl

    module _ (good : bad_layout s.layout ≡ false) where
      pub refused_2 : sizes_right s m ≡ false → answered 2 a ≡ outcome
      refused_2 e = go (bad_layout s.layout) (sizes_right s m) good e
        where
          go : (x y : Bool) → x ≡ false → y ≡ false → refused 2 ≡ first x (not y) (ltb s.chunks (touched_count 0 n))
          go x y d e = rw (d, e) refl

      pub refused_10 : sizes_right s m ≡ true → 256 * s.chunks < n → answered 10 a ≡ outcome
      refused_10 e l = go (bad_layout s.layout) (sizes_right s m) (ltb s.chunks (touched_count 0 n)) good e (lt-ltb s.chunks (touched_count 0 n) (touched_over s.chunks n l))
        where
          go : (x y z : Bool) → x ≡ false → y ≡ true → z ≡ true → refused 10 ≡ first x (not y) z
          go x y z d e f = rw (d, e, f) refl

      pub refused_not : sizes_right s m ≡ true → n ≤ 256 * s.chunks → answered 0 a ≡ outcome
      refused_not e l = go (bad_layout s.layout) (sizes_right s m) (ltb s.chunks (touched_count 0 n)) good e (le-ltb s.chunks (touched_count 0 n) (touched_under s.chunks n l))
        where
          go : (x y z : Bool) → x ≡ false → y ≡ true → z ≡ false → done a ≡ first x (not y) z
          go x y z d e f = rw (d, e, f) refl

    -- an opening that is not refused
    module _ (i : ℕ) (e : answered i a ≡ outcome) (z : i ≡ 0) where
      passed : (bad_layout s.layout ≡ false) × (not (sizes_right s m) ≡ false) × (ltb s.chunks (touched_count 0 n) ≡ false)
      passed = passes (bad_layout s.layout) (not (sizes_right s m)) (ltb s.chunks (touched_count 0 n)) i z e

      pub open_asks : OpenAsks s m
      open_asks = record { layout = passed.0; sizes = sizes_are s m (not-false (sizes_right s m) passed.1) }

      pub calldata_asks : (m₁ : Mem) → Shows s (empty_view s) m₁ → CalldataAsks m₁ s.layout.calldata.0 n
      calldata_asks m₁ h =
          let w = touched_within s.chunks n (ltb-false s.chunks (touched_count 0 n) passed.2) in
          record {
            started = subst (λ (t : Setting). Shows t (empty_view t) m₁) (sym h.setting) h;
            page = ap (λ (t : Setting). t.layout.calldata.0) (sym h.setting);
            room = subst (λ (t : Setting). n ≤ 256 * t.chunks) (sym h.setting) w;
          }

  -- ---- the contract
  module _ (s : Setting) (m : Mem) (calldata : List ℕ) (i : ℕ) (e : answered i a ≡ outcome s m (length calldata)) where
    pub open_refused : (i ≡ 0 → ⊥) → Does m (outcome s m (length calldata)) s (opened s calldata) (refused i) m
    open_refused h =
        let q : refused i ≡ outcome s m (length calldata) = number_refused i h ∙ e in
        record { answer = q; kept = λ _. refl; changed = λ y. absurd (false≢true (ap carried_out q ∙ y)) }

    pub open_done : i ≡ 0 → (m₁ m₂ : Mem) → Shows s (empty_view s) m₁ → Shows (setting_of m₁) (opened (setting_of m₁) calldata) m₂
        → Does m (outcome s m (length calldata)) s (opened s calldata) (done a) m₂
    open_done z m₁ m₂ h g =
        let q : done a ≡ outcome s m (length calldata) = ap (λ (n : ℕ). answered n a) (sym z) ∙ e in
        record { answer = q; kept = λ y. absurd (false≢true (sym y ∙ sym (ap carried_out q))); changed = λ _. subst (λ (t : Setting). Shows t (opened t calldata) m₂) h.setting g }
