-- The invariant between the memory and the plain map, and that every call of a list keeps it.
-- Assumes nothing.
use mathlib.Core.Path.{◌≡◌, refl, sym, ap, ◌∙◌, subst}
use mathlib.Core.List.{List}
use mathlib.Core.Bool.{Bool, true, false, cond, ◌&&◌, true≢false}
use Prim.Native.Nat.{ℕ, ◌+◌, ◌-◌}
use native.Mathlib.Omega.{arith}
use lib.ListN.{length}
use borrow.Author.Tests.{ltb-false}
use Rattle.outcome.specs.Outcome.{Outcome, done, carried_out, first_of}
use Rattle.store.specs.Mem.{Mem}
use Rattle.formed.specs.Pages.{LayoutRule, dynamic}
use Rattle.formed.specs.Parts.{pool}
use Rattle.view.specs.View.{View, Setting, view_of}
use Rattle.view.specs.Steps.{touched_count, count, pairs}
use Rattle.view.specs.Checks.{opening_checks, lengths_right}
use Rattle.view.specs.Does.{Shows, Does}
use Rattle.view.specs.Calls.{Call, Value, Open, Allocate, ReadWord, ReadPartial, ReadRange, ReadByte, DynamicLength, WriteWord, WriteBytes, Lookup, LookupCheck, Free, Window, Truncate, CompareLeft, CompareRight, CompareBoth, Snapshot, Rollback, DeleteHistory, Load, Store, LoadPointer, LoadStatic, StoreStatic, nothing, same_lengths, outcome_of, next_of}
use Rattle.view.proofs.Counts.{pool_pairs, entries_pages}
use Rattle.plain.specs.Plain.{Plain, follow, feed, seen}
use Rattle.plain.specs.Claim.{Steps, Contracts, Started, by_opening, Allowed, Run, none, more, Kept}
use Rattle.plain.proofs.Tests.{clear}
use Rattle.plain.proofs.Seen.{Fits, Counted, seen_follow, fits_follow, seen_fresh, fits_fresh}

-- the memory shows what the plain map has, and no more chunks are held and no more pages listed than there is room for
pub record Good (s : Setting) (m : Mem) (p : Plain) : Type 0 where
  pub shows : Shows s (seen s p) m
  pub fits : Fits s p

-- ---- what it says
-- the laws of the pool and of the entries
abbrev PoolCounts : Setting → View → Type 0
PoolCounts s v = v.pool + pairs v.held ≡ s.chunks

abbrev EntriesCount : Setting → View → Type 0
EntriesCount s v = v.entries_left + count (λ q. v.allocated q && dynamic s.layout q) 4294967296 ≡ s.pages

module _ {s : Setting} {m : Mem} {p : Plain} (g : Good s m p) where
  pub rule : LayoutRule s.layout
  rule = subst (λ (t : Setting). LayoutRule t.layout) g.shows.setting g.shows.formed.layout

  pub kept : Kept s m p
  kept =
      let e : pool m ≡ s.chunks - length p.held = ap (λ (v : View). v.pool) g.shows.view in
      record { zeroes = g.shows.formed.pooled_zero; count = let f = g.fits.chunks in omega arith; shows = g.shows }

  -- the map's pairs and its pages are counted by the pool and the entries
  pub counted : Counted s p
  counted =
      let pool =
      subst (λ (v : View). PoolCounts s v) g.shows.view (subst (λ (t : Setting). PoolCounts t (view_of m)) g.shows.setting (pool_pairs m g.shows.formed)) in
      let entries =
      subst (λ (v : View). EntriesCount s v) g.shows.view (subst (λ (t : Setting). EntriesCount t (view_of m)) g.shows.setting (entries_pages m g.shows.formed)) in
      record { chunks = let c = g.fits.chunks in omega arith; pages = let c = g.fits.pages in omega arith }

  -- the lent buffers have the lengths that the memory's setting asks for
  pub same_lengths_lem : (t : Setting) → lengths_right t m ≡ same_lengths t s
  same_lengths_lem t =
      let n = g.shows.formed.lengths in
      rw (n.in_bytes, n.in_keys, n.in_order, n.in_words) (ap (same_lengths t) g.shows.setting)

pub never : ◌≡◌ {A = ℕ} 0 1 → ⊥
never e = omega arith

module _ (S : Steps) (C : Contracts S) where
  -- ---- what a call of a list does, a refused opening too
  refused_opening : {s t : Setting} {calldata : List ℕ} {m m' : Mem} {p : Plain} {o : Outcome Value} → S m (Open t calldata) o m' → carried_out o ≡ false
      → Good s m p → Does m (outcome_of s (Open t calldata) (seen s p)) s (seen s p) o m'
  refused_opening {s} {t} {calldata} {o = o} x l g =
      let d = rw (same_lengths_lem g t) at (C.opens x) in
      record { answer = d.answer; kept = d.kept; changed = λ e. absurd (true≢false (sym e ∙ ap carried_out (sym d.answer) ∙ l)) }

  pub does : {s : Setting} {m m' : Mem} {p : Plain} {o : Outcome Value} (c : Call) → S m c o m' → Allowed c o → Good s m p
      → Does m (outcome_of s c (seen s p)) s (next_of s c (seen s p)) o m'
  does (Open t calldata) x l g = refused_opening x (l t calldata refl) g
  does (Allocate p bs) x l g = C.calls (λ t d e. never (cc)) x g.shows
  does (ReadWord p a) x l g = C.calls (λ t d e. never (cc)) x g.shows
  does (ReadPartial p a b) x l g = C.calls (λ t d e. never (cc)) x g.shows
  does (ReadRange p a b n) x l g = C.calls (λ t d e. never (cc)) x g.shows
  does (ReadByte p a) x l g = C.calls (λ t d e. never (cc)) x g.shows
  does DynamicLength x l g = C.calls (λ t d e. never (cc)) x g.shows
  does (WriteWord p a n) x l g = C.calls (λ t d e. never (cc)) x g.shows
  does (WriteBytes p a bs) x l g = C.calls (λ t d e. never (cc)) x g.shows
  does (Lookup p k z) x l g = C.calls (λ t d e. never (cc)) x g.shows
  does (LookupCheck p k z) x l g = C.calls (λ t d e. never (cc)) x g.shows
  does (Free p) x l g = C.calls (λ t d e. never (cc)) x g.shows
  does (Window p a n) x l g = C.calls (λ t d e. never (cc)) x g.shows
  does (Truncate n) x l g = C.calls (λ t d e. never (cc)) x g.shows
  does (CompareLeft other) x l g = C.calls (λ t d e. never (cc)) x g.shows
  does (CompareRight other) x l g = C.calls (λ t d e. never (cc)) x g.shows
  does CompareBoth x l g = C.calls (λ t d e. never (cc)) x g.shows
  does Snapshot x l g = C.calls (λ t d e. never (cc)) x g.shows
  does (Rollback heap aux) x l g = C.calls (λ t d e. never (cc)) x g.shows
  does DeleteHistory x l g = C.calls (λ t d e. never (cc)) x g.shows
  does (Load area f registers places) x l g = C.calls (λ t d e. never (cc)) x g.shows
  does (Store area f registers places kernel h) x l g = C.calls (λ t d e. never (cc)) x g.shows
  does (LoadPointer f registers places) x l g = C.calls (λ t d e. never (cc)) x g.shows
  does (LoadStatic f registers places) x l g = C.calls (λ t d e. never (cc)) x g.shows
  does (StoreStatic f registers places kernel) x l g = C.calls (λ t d e. never (cc)) x g.shows

  -- ---- every call keeps the invariant
  pub keep : {s : Setting} {m m' : Mem} {p : Plain} {c : Call} {o : Outcome Value} → S m c o m' → Allowed c o → Good s m p
      → Good s m' (feed s.layout c o p)
  keep {s} {m} {m'} {p} {c} {o} x l g = go (carried_out o) refl
    where
      d : Does m (outcome_of s c (seen s p)) s (next_of s c (seen s p)) o m'
      d = does c x l g

      go : (b : Bool) → carried_out o ≡ b → Good s m' (cond b (follow s.layout c p) p)
      go true e =
          let h : carried_out (outcome_of s c (seen s p)) ≡ true = ap carried_out (sym d.answer) ∙ e in
          record { shows = subst (λ (v : View). Shows s v m') (sym (seen_follow s p c h (counted g))) (d.changed h); fits = fits_follow s p c h g.fits }
      go false e = rw (d.kept (ap carried_out (sym d.answer) ∙ e)) g

  -- it holds at the start, and so after every list
  pub start : {s : Setting} {m : Mem} {p : Plain} → Started S s m p → Good s m p
  start (by_opening {before = before} {start = m} {s = s} {calldata = calldata} x) =
      let d = C.opens x in
      let h : carried_out (first_of (opening_checks s (lengths_right s before) (length calldata)) (done nothing)) ≡ true = ap carried_out (sym d.answer) in
      let c = clear (opening_checks s (lengths_right s before) (length calldata)) nothing h in
      record {
        shows = subst (λ (v : View). Shows s v m) (sym (seen_fresh s calldata)) (d.changed h);
        fits = fits_fresh s calldata (ltb-false s.chunks (touched_count 0 (length calldata)) c.1.1.0);
      }

  pub run_good : {Ok : Call → Outcome Value → Type 0} {s : Setting} {m m' : Mem} {p p' : Plain} → Run S Ok s m p m' p' → Good s m p → Good s m' p'
  run_good none g = g
  run_good (more r x l o) g = keep x l (run_good r g)
