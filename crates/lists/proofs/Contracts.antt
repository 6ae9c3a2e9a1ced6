-- What a step does is what the contract of its function says.
-- Assumes nothing.
use mathlib.Core.Path.{◌≡◌, refl, ap, subst}
use mathlib.Core.Bool.{Bool, cond, not}
use Rattle.outcome.specs.Outcome.{Outcome, refused}
use Rattle.store.specs.Mem.{Mem}
use Rattle.formed.proofs.Meaning.{well_formed_passes}
use Rattle.view.specs.View.{View, Setting, setting_of, view_of}
use Rattle.view.specs.Does.{Shows, Does}
use Rattle.view.specs.Calls.{Call, Value, outcome_of, next_of, answer_of, CallDoes}
use Rattle.reads.proofs.Calls.{word_call, partial_call, range_call, byte_call, length_call, lookup_call, check_call, marks_call}
use Rattle.lists.proofs.Compares.{left_call, right_call, both_call}
use Rattle.plain.specs.Claim.{Contracts}
use Rattle.plain.proofs.Good.{never}
use Rattle.lists.specs.Went.{lent, rest}
use Rattle.lists.proofs.Linked.{linked_does}
use Rattle.lists.proofs.Owned.{owned_does}
use Rattle.lists.proofs.Meets.{Meets, by_open, by_call}
use Rattle.lists.specs.Steps.{PublicStep, Step, public, linked, owned, did_open, did_read_word, did_read_partial, did_read_range, did_read_byte, did_dynamic_length, did_lookup, did_lookup_check, did_snapshot, did_write_word, did_write_bytes, did_allocate, did_allocate_with, did_free, did_window, did_truncate, did_compare_left, did_compare_right, did_compare_both, did_rollback, did_delete_history, did_load, did_store, did_load_pointer, did_load_static, did_store_static}

-- each line is the contract itself, that of a read by its law
public_does : {m m' : Mem} {c : Call} {o : Outcome Value} → PublicStep m c o m' → Meets m c o m'
public_does (did_open w) = by_open _ _ w.ensures
public_does (did_read_word w) = by_call _ (λ s d e. never (cc)) (λ _. word_call (lent w.args) (rest w.args).0.0 (rest w.args).1.0.0 _ w.ensures)
public_does (did_read_partial w) = by_call _ (λ s d e. never (cc)) (λ _. partial_call (lent w.args) (rest w.args).0.0 (rest w.args).1.0.0 (rest w.args).1.1.0.0 _ w.ensures)
public_does (did_read_range w) = by_call _ (λ s d e. never (cc)) (λ _. range_call (lent w.args) (rest w.args).0.0 (rest w.args).1.0.0 (rest w.args).1.1.0.0 _ _ _ w.ensures)
public_does (did_read_byte w) = by_call _ (λ s d e. never (cc)) (λ _. byte_call (lent w.args) (rest w.args).0.0 (rest w.args).1.0.0 _ w.ensures)
public_does (did_dynamic_length w) = by_call _ (λ s d e. never (cc)) (λ _. length_call (lent w.args) _ w.ensures)
public_does (did_lookup w) = by_call _ (λ s d e. never (cc)) (λ f. lookup_call (lent w.args) (rest w.args).0.0 (rest w.args).1.0 (rest w.args).1.1.0.now _ (f _ _ _ refl) w.ensures)
public_does (did_lookup_check w) = by_call _ (λ s d e. never (cc)) (λ _. check_call (lent w.args) (rest w.args).0.0 (rest w.args).1.0 (rest w.args).1.1.0.now _ w.ensures)
public_does (did_snapshot w) = by_call _ (λ s d e. never (cc)) (λ _. marks_call (lent w.args) _ w.ensures)
public_does (did_write_word w) = by_call _ (λ s d e. never (cc)) (λ _. w.ensures)
public_does (did_write_bytes w) = by_call _ (λ s d e. never (cc)) (λ _. w.ensures)
public_does (did_allocate w) = by_call _ (λ s d e. never (cc)) (λ _. w.ensures)
public_does (did_allocate_with w) = by_call _ (λ s d e. never (cc)) (λ _. w.ensures)
public_does (did_free w) = by_call _ (λ s d e. never (cc)) (λ _. w.ensures)
public_does (did_window w) = by_call _ (λ s d e. never (cc)) (λ _. w.ensures)
public_does (did_truncate w) = by_call _ (λ s d e. never (cc)) (λ _. w.ensures)
public_does (did_compare_left w) = by_call _ (λ s d e. never (cc)) (λ _. left_call (lent w.args) (lent (rest w.args)) _ w.ensures)
public_does (did_compare_right w) = by_call _ (λ s d e. never (cc)) (λ _. right_call (lent (rest w.args)) (lent w.args) _ w.ensures)
public_does (did_compare_both w e) = by_call _ (λ s d e. never (cc)) (λ _. both_call (lent w.args) (lent (rest w.args)) _ e w.ensures)
public_does (did_rollback w) = by_call _ (λ s d e. never (cc)) (λ _. w.ensures)
public_does (did_delete_history w) = by_call _ (λ s d e. never (cc)) (λ _. w.ensures)
public_does (did_load w) = by_call _ (λ s d e. never (cc)) (λ _. w.ensures.does)
public_does (did_store w) = by_call _ (λ s d e. never (cc)) (λ _. w.ensures.does)
public_does (did_load_pointer w) = by_call _ (λ s d e. never (cc)) (λ _. w.ensures.runs.does)
public_does (did_load_static w) = by_call _ (λ s d e. never (cc)) (λ _. w.ensures.does)
public_does (did_store_static w) = by_call _ (λ s d e. never (cc)) (λ _. w.ensures.does)

-- and so does a step of any sort
pub does : {m m' : Mem} {c : Call} {o : Outcome Value} → Step m c o m' → Meets m c o m'
does (public x) = public_does x
does (linked x) = linked_does x
does (owned x) = owned_does x

-- on a memory of setting s and view v, what is shared is said of s and v
pub of_shown : {m m' : Mem} (c : Call) {o : Outcome Value} {s : Setting} {v : View} → Shows s v m → CallDoes m c o m' → Does m (outcome_of s c v) s (next_of s c v) o m'
of_shown {m} {m'} c {o} {s} {v} h d =
    subst (λ (x : View). Does m (outcome_of s c x) s (next_of s c x) o m') h.view
    (subst (λ (x : Setting). Does m (outcome_of x c (view_of m)) x (next_of x c (view_of m)) o m') h.setting
    (subst (λ (x : Outcome Value). Does m x (setting_of m) (next_of (setting_of m) c (view_of m)) o m') passed d))
  where
    passed : answer_of m c ≡ outcome_of (setting_of m) c (view_of m)
    passed = ap (λ (b : Bool). cond (not b) (refused 3) (outcome_of (setting_of m) c (view_of m))) (well_formed_passes m h.formed)

pub contracts : Contracts Step
contracts = record {
  opens = λ {s = s} {calldata = calldata} x. (does x).opens s calldata refl;
  calls = λ {m = m} {c = c} n x h. of_shown c h ((does x).calls n (λ p k z e. well_formed_passes m h.formed));
}
