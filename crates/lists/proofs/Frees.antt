-- There are steps of frees, windows and truncations. They ask no width of their arguments.
-- Assumes nothing.
use mathlib.Core.Path.{◌≡◌, refl, sym, subst}
use mathlib.Core.Bool.{true, false, not, ◌&&◌, false≢true}
use mathlib.Core.List.{[]}
use Prim.Native.Nat.{ℕ}
use lib.Dec.{leb, eqb}
use borrow.Author.Tests.{eqb-true}
use Rattle.view.proofs.Refused.{end}
use Rattle.index.proofs.Logic.{and_left, and_right}
use Rattle.outcome.specs.declared.Refusal.TheVariants.{Undecodable, Fixed, NotAllocated, BadLength}
use Rattle.store.specs.Mem.{Mem, layout_of}
use Rattle.formed.specs.Pages.{dynamic, group}
use Rattle.formed.specs.WellFormed.{WellFormed}
use Rattle.view.specs.View.{setting_of, view_of}
use Rattle.view.specs.Steps.{touches, from_group, freed, windowed, truncated}
use Rattle.view.specs.Checks.{free_checks, truncate_checks}
use Rattle.view.specs.Calls.{Free, Window, Truncate, answer_of, first_refusal}
use Rattle.free_steps.proofs.Groups.{shortened_shows}
use Rattle.freeing.proofs.Calls.{free_refusals, free_passed, truncate_refusals, truncate_passed, shorten_asked, truncated_shows}
use Rattle.lists.proofs.Reach.{Reached}
use Rattle.lists.proofs.Thins.{without_there}
use Rattle.lists.specs.Goes.{Goes}
use Rattle.lists.proofs.Inhabited.{ref_mut, goes}
use Rattle.lists.specs.Steps.{did_free, did_window, did_truncate}

-- ---- the memories that they leave
module _ (m : Mem) where
  freed_there : (p : ℕ) → (WellFormed m) × (first_refusal (free_checks (setting_of m) (view_of m) p) ≡ 0) → Reached (setting_of m) (freed (setting_of m) p (view_of m))
  freed_there p asks =
      let a = free_passed m p asks.0 asks.1 in
      without_there m asks.0 (λ q k. eqb q p) (λ q. eqb q p) (λ q k e. subst (λ (x : ℕ). dynamic (layout_of m.words) x ≡ true) (sym (eqb-true q p e)) a.kind) (λ q k e. e)

  -- a page that is not dynamic loses nothing, and one that is not allocated holds nothing, so neither is a case of its own
  windowed_there : (p start n : ℕ) → WellFormed m → Reached (setting_of m) (windowed (setting_of m) p start n (view_of m))
  windowed_there p start n f =
      without_there m f (λ q k. (eqb q p && dynamic (layout_of m.words) p) && not (touches start n k)) (λ q. false)
      (λ q k t.
      let b = and_left (eqb q p && dynamic (layout_of m.words) p) (not (touches start n k)) t in
      let e = eqb-true q p (and_left (eqb q p) (dynamic (layout_of m.words) p) b) in
      subst (λ (x : ℕ). dynamic (layout_of m.words) x ≡ true) (sym e) (and_right (eqb q p) (dynamic (layout_of m.words) p) b))
      (λ q k e. absurd (false≢true e))

  -- the pages are freed, and then the dynamic length is lowered
  truncated_there : (n : ℕ) → (WellFormed m) × (first_refusal (truncate_checks (view_of m) n) ≡ 0) → Reached (setting_of m) (truncated (setting_of m) n (view_of m))
  truncated_there n asks =
      let l = truncate_passed (view_of m) n asks.1 in
      let t =
      without_there m asks.0 (λ q k. from_group (layout_of m.words) n q) (from_group (layout_of m.words) n)
      (λ q k e. and_left (dynamic (layout_of m.words) q) (leb n (group (layout_of m.words) q)) e) (λ q k e. e) in
      let u = t.memory in
      let h = shortened_shows u.bytes u.keys u.order u.words n (shorten_asked m n l u t.shows) in
      record { memory = _; shows = truncated_shows m n l u t.shows _ h }

-- ---- the steps
pub can_free : (p : ℕ) (m : Mem) → Goes m (Free p) (answer_of m (Free p))
can_free p m =
    goes m (Free p) (free_checks (setting_of m) (view_of m) p) (free_refusals (setting_of m) (view_of m) p) ((Undecodable, refl), ((Fixed, refl), ((NotAllocated, refl), tt))) refl
    (λ r m' l d.
    did_free
    (record {
      lifetimes = ([], ([], ([], ([], tt))));
      args = (ref_mut m.bytes, (ref_mut m.keys, (ref_mut m.order, (ref_mut m.words, (record { 0 = p }, tt)))));
      result = r;
      last = (m'.bytes, (m'.keys, (m'.order, (m'.words, (tt, tt)))));
      asked = tt;
      kept = (l.bytes, (l.keys, (l.order, (l.words, (tt, tt)))));
      ensures = d;
    }))
    (freed_there m p)

pub can_window : (p start n : ℕ) (m : Mem) → Goes m (Window p start n) (answer_of m (Window p start n))
can_window p start n m =
    goes m (Window p start n) [] end tt refl
    (λ r m' l d.
    did_window
    (record {
      lifetimes = ([], ([], ([], ([], tt))));
      args = (ref_mut m.bytes, (ref_mut m.keys, (ref_mut m.order, (ref_mut m.words, (record { 0 = p }, (record { 0 = start }, (n, tt)))))));
      result = r;
      last = (m'.bytes, (m'.keys, (m'.order, (m'.words, (tt, (tt, (tt, tt)))))));
      asked = tt;
      kept = (l.bytes, (l.keys, (l.order, (l.words, (tt, (tt, (tt, tt)))))));
      ensures = d;
    }))
    (λ asks. windowed_there m p start n asks.0)

pub can_truncate : (n : ℕ) (m : Mem) → Goes m (Truncate n) (answer_of m (Truncate n))
can_truncate n m =
    goes m (Truncate n) (truncate_checks (view_of m) n) (truncate_refusals (view_of m) n) ((BadLength, refl), tt) refl
    (λ r m' l d.
    did_truncate
    (record {
      lifetimes = ([], ([], ([], ([], tt))));
      args = (ref_mut m.bytes, (ref_mut m.keys, (ref_mut m.order, (ref_mut m.words, (n, tt)))));
      result = r;
      last = (m'.bytes, (m'.keys, (m'.order, (m'.words, (tt, tt)))));
      asked = tt;
      kept = (l.bytes, (l.keys, (l.order, (l.words, (tt, tt)))));
      ensures = d;
    }))
    (truncated_there m n)
