-- There are steps of comparisons, with any other memory.
-- Assumes nothing.
use mathlib.Core.Path.{◌≡◌, refl, subst}
use mathlib.Core.Bool.{Bool, true, false, cond, not}
use mathlib.Core.List.{[]}
use Rattle.std.specs.Prelude.{Result, Ok, Err}
use Rattle.outcome.specs.Outcome.{Outcome, refused, done}
use Rattle.outcome.specs.declared.Refusal.{Refusal}
use Rattle.outcome.specs.declared.Refusal.TheVariants.{Layout, NotFormed}
use Rattle.store.specs.Mem.{Mem, layout_of}
use Rattle.formed.specs.Formed.{well_formed}
use Rattle.view.specs.View.{view_of}
use Rattle.view.specs.Steps.{alike}
use Rattle.view.specs.Checks.{same_layout}
use Rattle.view.specs.Calls.{Value, CompareLeft, CompareRight, CompareBoth, verdict, comparison_of}
use Rattle.compare.specs.Verdict as compares
use Rattle.compare.proofs.compare.Kinds as compare_kinds
use Rattle.compare.proofs.compare.Reads as compare_reads
use Rattle.lists.proofs.Compares.{left_call, right_call, both_call}
use Rattle.lists.proofs.Inhabited.{Answers, ref}
use Rattle.lists.specs.Went.{Went}
use Rattle.lists.specs.Steps.{PublicStep, did_compare_left, did_compare_right, did_compare_both}

-- an answer that tells the outcome
record Tells (o : Outcome Value) : Type 0 where
  answer : Result Bool Refusal
  is : compares.comparison_outcome answer ≡ o

tells : (left right : Mem) → Tells (comparison_of left right)
tells left right = go (well_formed left) (well_formed right) (same_layout (layout_of left.words) (layout_of right.words)) (alike (view_of left) (view_of right))
  where
    go : (a b c d : Bool) → Tells (cond (not a) (refused 3) (cond (not b) (refused 3) (cond (not c) (refused 1) (done (verdict d)))))
    go false b c d = record { answer = Err NotFormed; is = refl }
    go true false c d = record { answer = Err NotFormed; is = refl }
    go true true false d = record { answer = Err Layout; is = refl }
    go true true true true = record { answer = Ok true; is = refl }
    go true true true false = record { answer = Ok false; is = refl }

-- the call of the function, with any two memories
abbrev compared : (left right : Mem) → Went compare_kinds.ps compare_kinds.r compare_reads.Asked compare_reads.Learnt
compared left right = record {
  lifetimes = ([], ([], ([], ([], ([], ([], ([], ([], tt))))))));
  args = (ref left.bytes, (ref left.keys, (ref left.order, (ref left.words, (ref right.bytes, (ref right.keys, (ref right.order, (ref right.words, tt))))))));
  result = (tells left right).answer;
  last = (tt, (tt, (tt, (tt, (tt, (tt, (tt, (tt, tt))))))));
  asked = tt;
  kept = (tt, (tt, (tt, (tt, (tt, (tt, (tt, (tt, tt))))))));
  ensures = (tells left right).is;
}

pub can_compare_left : (other : Mem) → Answers (CompareLeft other)
can_compare_left other m =
    let t = tells m other in
    subst (λ (o : Outcome Value). PublicStep m (CompareLeft other) o m) (left_call m other (compares.comparison_outcome t.answer) t.is).answer (did_compare_left (compared m other))

pub can_compare_right : (other : Mem) → Answers (CompareRight other)
can_compare_right other m =
    let t = tells other m in
    subst (λ (o : Outcome Value). PublicStep m (CompareRight other) o m) (right_call m other (compares.comparison_outcome t.answer) t.is).answer (did_compare_right (compared other m))

pub can_compare_both : Answers CompareBoth
can_compare_both m =
    let t = tells m m in
    subst (λ (o : Outcome Value). PublicStep m CompareBoth o m) (both_call m m (compares.comparison_outcome t.answer) refl t.is).answer (did_compare_both (compared m m) refl)
