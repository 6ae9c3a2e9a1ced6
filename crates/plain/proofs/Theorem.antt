-- THE CLAIM about every list of calls, proved of each relation whose steps do what the contracts say.
-- Assumes nothing.
use mathlib.Core.Path.{◌≡◌, refl, sym, ap, ◌∙◌}
use mathlib.Core.Bool.{Bool, true, false, cond}
use Prim.Native.Nat.{ℕ, zero, suc, ◌<◌}
use native.Mathlib.Omega.{arith}
use lib.Dec.{ltb}
use lib.ListN.{length}
use borrow.Author.Tests.{le-ltb}
use Rattle.outcome.specs.Outcome.{Outcome, done, carried_out, first_of}
use Rattle.store.specs.Mem.{Mem}
use Rattle.formed.specs.Pages.{journal_count, journal_page}
use Rattle.formed.proofs.Meaning.{well_formed_passes}
use Rattle.view.specs.View.{View, Setting, view_of}
use Rattle.view.specs.Steps.{alike, marks, rolled_back}
use Rattle.view.specs.Checks.{compare_checks}
use Rattle.view.specs.Does.{Shows, Does}
use Rattle.view.specs.Calls.{Call, Value, CompareLeft, CompareRight, Snapshot, Rollback, nothing, lengths, verdict, outcome_of}
use Rattle.plain.specs.Plain.{Plain, follow, feed, seen}
use Rattle.plain.specs.Claim.{Steps, Contracts, Allowed, Run, none, more, Keeps, Restored, compared, Claim}
use Rattle.plain.proofs.Tests.{or_neither}
use Rattle.plain.proofs.Undone.{rolled_others}
use Rattle.plain.proofs.Good.{Good, rule, kept, never, does, start, run_good}
use Rattle.plain.proofs.Since.{Since, since_start, since_follow}

byte : {v w : View} → v ≡ w → (p a : ℕ) → v.bytes p a ≡ w.bytes p a
byte e p a = ap (λ (v : View). v.bytes p a) e

module _ (S : Steps) (C : Contracts S) where
  -- every call in between keeps the snapshot's invariant, beside the other
  since : {s : Setting} {m m' : Mem} {p : Plain} {c : Call} {o : Outcome Value} (heap aux : ℕ) (f : ℕ → ℕ → ℕ) → S m c o m' → Allowed c o → Keeps heap aux c o
      → Good s m p → Since s.layout (marks heap aux) f p → Since s.layout (marks heap aux) f (feed s.layout c o p)
  since {s} {p = p} {c = c} {o = o} heap aux f x l k g h = go (carried_out o) refl
    where
      go : (b : Bool) → carried_out o ≡ b → Since s.layout (marks heap aux) f (cond b (follow s.layout c p) p)
      go true e = since_follow s (rule g) heap aux f p o e c (ap carried_out (sym (does S C c x l g).answer) ∙ e) k h
      go false e = h

  run_since : (heap aux : ℕ) (f : ℕ → ℕ → ℕ) {s : Setting} {m m' : Mem} {p p' : Plain} → Run S (Keeps heap aux) s m p m' p' → Good s m p
      → Since s.layout (marks heap aux) f p → Since s.layout (marks heap aux) f p'
  run_since heap aux f none g h = h
  run_since heap aux f (more r x l k) g h = since heap aux f x l k (run_good S C r g) (run_since heap aux f r g h)

  -- ---- a comparison with another memory n that comes from a list, and so is well formed
  module _ {s t : Setting} {m n : Mem} {p q : Plain} (g : Good s m p) (h : Good t n q) where
    other_passes : (left right : View) → first_of (compare_checks s.layout n) (done (verdict (alike left right))) ≡ compared s t left right
    other_passes left right = rw (well_formed_passes n h.shows.formed) (ap (λ (u : Setting). compared s u left right) h.shows.setting)

    left : {m' : Mem} {o : Outcome Value} → S m (CompareLeft n) o m' → o ≡ compared s t (seen s p) (seen t q)
    left x =
        (does S C (CompareLeft n) x (λ t d e. absurd (never (cc))) g).answer
        ∙ other_passes (seen s p) (view_of n)
        ∙ ap (compared s t (seen s p)) h.shows.view

    right : {m' : Mem} {o : Outcome Value} → S m (CompareRight n) o m' → o ≡ compared s t (seen t q) (seen s p)
    right x =
        (does S C (CompareRight n) x (λ t d e. absurd (never (cc))) g).answer
        ∙ other_passes (view_of n) (seen s p)
        ∙ ap (λ (v : View). compared s t v (seen s p)) h.shows.view

  -- ---- a snapshot, the list after it, and the rollback to it
  module _ {s : Setting} {snap snap' m m' : Mem} {p q : Plain} {heap aux : ℕ} {o : Outcome Value}
      (g : Good s snap p) (x : S snap Snapshot (done (lengths heap aux)) snap') (r : Run S (Keeps heap aux) s snap' p m q) (y : S m (Rollback heap aux) o m') where
    -- no snapshot or rollback is an opening
    taken : Does snap (outcome_of s Snapshot (seen s p)) s (seen s p) (done (lengths heap aux)) snap'
    taken = does S C Snapshot x (λ t d e. absurd (never (cc))) g

    after : Good s snap' p
    after = record { shows = taken.changed refl; fits = g.fits }

    now : Good s m q
    now = run_good S C r after

    numbers : (j : ℕ) → j < journal_count → marks heap aux j ≡ length (p.journal j)
    numbers zero k = let e = taken.answer in cc
    numbers (suc zero) k = let e = taken.answer in cc
    numbers (suc (suc j)) k = absurd (omega arith)

    held : Since s.layout (marks heap aux) p.bytes q
    held = run_since heap aux p.bytes r after (since_start s.layout (rule g) (marks heap aux) p numbers)

    rolled : Does m (outcome_of s (Rollback heap aux) (seen s q)) s (rolled_back s.layout (marks heap aux) (seen s q)) o m'
    rolled = does S C (Rollback heap aux) y (λ t d e. absurd (never (cc))) now

    accepted : outcome_of s (Rollback heap aux) (seen s q) ≡ done nothing
    accepted =
        rw (or_neither (ltb (length (q.journal 0)) heap) (ltb (length (q.journal 1)) aux)
        (le-ltb (length (q.journal 0)) heap (held.long 0 (omega arith)))
        (le-ltb (length (q.journal 1)) aux (held.long 1 (omega arith))))

    shown : Shows s (rolled_back s.layout (marks heap aux) (seen s q)) m'
    shown = rolled.changed (ap carried_out accepted)

    restored : Restored s snap m m'
    restored = record {
      pages = λ j a k.
          byte shown.view (journal_page s.layout j) a ∙ held.page j a k ∙ sym (byte g.shows.view (journal_page s.layout j) a);
      others = λ n ne. (
        λ a.
            byte shown.view n a ∙ rolled_others s.layout (marks heap aux) q.journal journal_count q.bytes n a ne ∙ sym (byte now.shows.view n a),
        λ k. ap (λ (v : View). v.held n k) shown.view ∙ sym (ap (λ (v : View). v.held n k) now.shows.view),
        ap (λ (v : View). v.allocated n) shown.view ∙ sym (ap (λ (v : View). v.allocated n) now.shows.view),
      );
    }

  pub claim : Claim S
  claim = record {
    lists = λ b r. kept (run_good S C r (start S C b));
    answers = λ {c = c} b r x l. (does S C c x l (run_good S C r (start S C b))).answer;
    compares_left = λ b r c u x. left (run_good S C r (start S C b)) (run_good S C u (start S C c)) x;
    compares_right = λ b r c u x. right (run_good S C r (start S C b)) (run_good S C u (start S C c)) x;
    rollbacks = λ b r x t y. let g = run_good S C r (start S C b) in ((rolled g x t y).answer ∙ accepted g x t y, restored g x t y);
  }
