-- Which refusal a free, a window and a truncation get, and what they have passed otherwise.
-- Assumes nothing.
use mathlib.Core.Path.{◌≡◌, refl, sym, ap, ◌∙◌}
use mathlib.Core.Bool.{Bool, true, false, not, ◌&&◌, ◌||◌, false≢true}
use mathlib.Core.List.{[], ◌∷◌}
use Prim.Native.Nat.{ℕ, ◌≤◌, ◌<◌}
use native.Mathlib.Omega.{arith}
use lib.Dec.{ltb}
use borrow.Author.Tests.{lt-ltb, le-ltb, ltb-false, not-false}
use Rattle.view.proofs.Refused.{first_holds, first_fails, none_first, Refusals, end, next}
use Rattle.view.specs.Calls.{first_refusal}
use Rattle.outcome.specs.Outcome.{refused}
use Rattle.index.proofs.Logic.{and_left, and_right}
use Rattle.page_ids.specs.Decode.{Page, none, page, decoded, is_none, is_dynamic, is_fixed}
use Rattle.store.specs.Mem.{Mem, layout_of, dynamic_length}
use Rattle.formed.specs.Pages.{fixed, dynamic}
use Rattle.formed.specs.Parts.{allocated}
use Rattle.formed.specs.WellFormed.{WellFormed}
use Rattle.view.specs.View.{View, Setting, view_of, setting_of}
use Rattle.view.specs.Steps.{from_group, shortened, truncated}
use Rattle.view.specs.Checks.{undecodable, free_checks, truncate_checks}
use Rattle.view.specs.Does.{Shows}
use Rattle.view.proofs.Counts.{fixed_only}
use Rattle.checks.proofs.Chosen.{chosen_4, past_4, none_is, fixed_is}
use Rattle.checks.proofs.Passed.{decodable}
use Rattle.drops.specs.Drops.{PageAsks}
use Rattle.free_steps.specs.Freeing.{emptied, ShortenAsks}

-- ---- a free; d is the page as decoded
module _ (s : Setting) (v : View) (p : ℕ) (d : Page) (is : d ≡ decoded s.layout p) where
  pub free_4 : is_none d ≡ true → 4 ≡ first_refusal (free_checks s v p)
  free_4 e = chosen_4 s v p d is ((fixed s.layout p, refused 5) ∷ (not (v.allocated p), refused 7) ∷ []) e

  module _ (e : is_none d ≡ false) where
    past : (r : ℕ) → r ≡ first_refusal ((fixed s.layout p, refused 5) ∷ (not (v.allocated p), refused 7) ∷ []) → r ≡ first_refusal (free_checks s v p)
    past r q = past_4 s v p d is ((fixed s.layout p, refused 5) ∷ (not (v.allocated p), refused 7) ∷ []) e r q

    pub free_5 : is_fixed d ≡ true → 5 ≡ first_refusal (free_checks s v p)
    free_5 f = past 5 (first_holds (fixed s.layout p) 5 ((not (v.allocated p), refused 7) ∷ []) (fixed_is s v p d is f))

    module _ (f : is_fixed d ≡ false) where
      past_5 : (r : ℕ) → r ≡ first_refusal ((not (v.allocated p), refused 7) ∷ []) → r ≡ first_refusal (free_checks s v p)
      past_5 r q = past r (q ∙ first_fails (fixed s.layout p) (refused 5) ((not (v.allocated p), refused 7) ∷ []) (fixed_is s v p d is f))

      pub free_7 : v.allocated p ≡ false → 7 ≡ first_refusal (free_checks s v p)
      free_7 a = past_5 7 (first_holds (not (v.allocated p)) 7 [] (ap not a))

      pub free_0 : v.allocated p ≡ true → 0 ≡ first_refusal (free_checks s v p)
      free_0 a = past_5 0 (first_fails (not (v.allocated p)) (refused 7) [] (ap not a))

-- a decodable page that is not fixed is dynamic
only_dynamic : (a b : Bool) → (a || b) ≡ true → a ≡ false → b ≡ true
only_dynamic true b e f = absurd (false≢true (sym f))
only_dynamic false b e f = e

pub dynamic_by : (s : Setting) (p : ℕ) → undecodable s p ≡ false → fixed s.layout p ≡ false → dynamic s.layout p ≡ true
dynamic_by s p e f = only_dynamic (fixed s.layout p) (dynamic s.layout p) (decodable s p e) f

pub free_refusals : (s : Setting) (v : View) (p : ℕ) → Refusals (free_checks s v p)
free_refusals s v p = next (next (next end))

pub free_passed : (m : Mem) (p : ℕ) → WellFormed m → first_refusal (free_checks (setting_of m) (view_of m) p) ≡ 0 → PageAsks m p
free_passed m p f e =
    let h = none_first (undecodable (setting_of m) p) 3 ((fixed (layout_of m.words) p, refused 5) ∷ (not (allocated m p), refused 7) ∷ []) e in
    let k = none_first (fixed (layout_of m.words) p) 4 ((not (allocated m p), refused 7) ∷ []) h.1 in
    let l = none_first (not (allocated m p)) 6 [] k.1 in
    record { formed = f; listed = not-false (allocated m p) l.0; kind = dynamic_by (setting_of m) p h.0 k.0 }

-- ---- a window: is the page dynamic, and allocated?
module _ (m : Mem) (p : ℕ) (d : Page) (is : d ≡ decoded (layout_of m.words) p) where
  pub is_none_lem : is_none d ≡ true → false ≡ (dynamic (layout_of m.words) p && allocated m p)
  unfolding dynamic
  is_none_lem e = sym (off d e) ∙ ap (λ (x : Page). is_dynamic x && allocated m p) is
    where
      off : (x : Page) → is_none x ≡ true → (is_dynamic x && allocated m p) ≡ false
      off none e = refl
      off (page k g) e = absurd (false≢true e)

  pub is_fixed_lem : is_fixed d ≡ true → false ≡ (dynamic (layout_of m.words) p && allocated m p)
  is_fixed_lem e = rw (fixed_only (layout_of m.words) p (fixed_is (setting_of m) (view_of m) p d is e))

  pub is_dynamic_lem : is_none d ≡ false → is_fixed d ≡ false → (r : Bool) → r ≡ allocated m p → r ≡ (dynamic (layout_of m.words) p && allocated m p)
  is_dynamic_lem e f r q = rw (dynamic_by (setting_of m) p (none_is (setting_of m) (view_of m) p d is e) (fixed_is (setting_of m) (view_of m) p d is f)) q

pub both_asked : (m : Mem) (p : ℕ) → WellFormed m → (dynamic (layout_of m.words) p && allocated m p) ≡ true → PageAsks m p
both_asked m p f e =
    record { formed = f; listed = and_right (dynamic (layout_of m.words) p) (allocated m p) e; kind = and_left (dynamic (layout_of m.words) p) (allocated m p) e }

-- ---- a truncation
module _ (v : View) (n : ℕ) where
  pub truncate_13 : v.dynamic_length < n → 13 ≡ first_refusal (truncate_checks v n)
  truncate_13 l = first_holds (ltb v.dynamic_length n) 13 [] (lt-ltb v.dynamic_length n l)

  pub truncate_0 : n ≤ v.dynamic_length → 0 ≡ first_refusal (truncate_checks v n)
  truncate_0 l = first_fails (ltb v.dynamic_length n) (refused 13) [] (le-ltb v.dynamic_length n l)

  pub truncate_refusals : Refusals (truncate_checks v n)
  truncate_refusals = next end

  pub truncate_passed : first_refusal (truncate_checks v n) ≡ 0 → n ≤ v.dynamic_length
  truncate_passed e = ltb-false v.dynamic_length n (none_first (ltb v.dynamic_length n) 12 [] e).0

module _ (m : Mem) (n : ℕ) (l : n ≤ dynamic_length m.words) (m₁ : Mem) (shows : Shows (setting_of m) (emptied (setting_of m) n (view_of m)) m₁) where
  -- no page of these groups is left
  pub shorten_asked : ShortenAsks m₁ n
  shorten_asked = record {
    formed = shows.formed;
    most = let e = ap (λ (v : View). v.dynamic_length) shows.view in omega arith;
    none = λ q e.
        ap (λ (v : View). v.allocated q) shows.view
        ∙ gone (allocated m q) (from_group (layout_of m.words) n q) (ap (λ (s : Setting). from_group s.layout n q) (sym shows.setting) ∙ e);
  }
    where
      gone : (a b : Bool) → b ≡ true → (a && not b) ≡ false
      gone true b e = ap not e
      gone false b e = refl

  pub truncated_shows : (m₂ : Mem) → Shows (setting_of m₁) (shortened n (view_of m₁)) m₂ → Shows (setting_of m) (truncated (setting_of m) n (view_of m)) m₂
  truncated_shows m₂ s = record { formed = s.formed; setting = s.setting ∙ shows.setting; view = s.view ∙ ap (shortened n) shows.view }
