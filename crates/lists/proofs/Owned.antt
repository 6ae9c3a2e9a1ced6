-- What the owned calls do is what their contracts say, and a well-formed memory is all that they require.
-- Assumes nothing.
use mathlib.Core.Path.{refl, sym, subst}
use lib.ListN.{length}
use Rattle.outcome.specs.Outcome.{Outcome}
use Rattle.store.specs.Mem.{Mem}
use Rattle.view.specs.Calls.{Call, Value, ReadRange}
use Rattle.reads.proofs.Calls.{only_reads, partial_call}
use Rattle.plain.proofs.Good.{never}
use Rattle.lists.specs.Went.{lent, rest, exits}
use Rattle.lists.proofs.Compares.{left_call, right_call, both_call}
use Rattle.lists.proofs.Copies.{copied_call, copied_check}
use Rattle.formed.specs.WellFormed.{WellFormed}
use Rattle.lists.proofs.Meets.{Meets, by_open, by_call}
use Rattle.lists.specs.Owned.{OwnedStep, Ready, did_own_open, did_own_read_word, did_own_read_partial, did_own_read_range, did_own_read_byte, did_own_dynamic_length, did_own_snapshot, did_own_lookup, did_own_lookup_check, did_own_write_word, did_own_write_bytes, did_own_allocate, did_own_allocate_with, did_own_free, did_own_window, did_own_truncate, did_own_compare_left, did_own_compare_right, did_own_compare_both, did_own_rollback, did_own_delete_history, did_own_load, did_own_store, did_own_load_pointer, did_own_load_static, did_own_store_static}

pub owned_does : {m m' : Mem} {c : Call} {o : Outcome Value} → OwnedStep m c o m' → Meets m c o m'
owned_does (did_own_open w) = by_open _ _ w.ensures
owned_does (did_own_read_word w) = by_call _ (λ s d e. never (cc)) (λ _. w.ensures)
owned_does (did_own_read_partial w) = by_call _ (λ s d e. never (cc)) (λ _. partial_call (lent w.args) (rest w.args).0 (rest w.args).1.0 (rest w.args).1.1.0 _ w.ensures.answer)
owned_does (did_own_read_range w) = by_call _ (λ s d e. never (cc)) (λ _. only_reads (lent w.args) (ReadRange (rest w.args).0 (rest w.args).1.0 (rest w.args).1.1.0 (length (rest w.args).1.1.1.0.now)) _ refl (w.ensures.answer refl))
owned_does (did_own_read_byte w) = by_call _ (λ s d e. never (cc)) (λ _. w.ensures)
owned_does (did_own_dynamic_length w) = by_call _ (λ s d e. never (cc)) (λ _. w.ensures)
owned_does (did_own_snapshot w) = by_call _ (λ s d e. never (cc)) (λ _. w.ensures)
owned_does (did_own_lookup w l) = by_call _ (λ s d e. never (cc)) (λ f. copied_call (lent w.args) (rest w.args).0 (rest w.args).1.0 (rest w.args).1.1.0.now w.result (rest (exits w)).1.1.1.0.now (f _ _ _ refl) (w.ensures.answer l))
owned_does (did_own_lookup_check w l) = by_call _ (λ s d e. never (cc)) (λ _. copied_check (lent w.args) (rest w.args).0 (rest w.args).1.0 (rest w.args).1.1.0.now w.result (rest (exits w)).1.1.1.0.now (w.ensures.answer l))
owned_does (did_own_write_word w) = by_call _ (λ s d e. never (cc)) (λ _. w.ensures)
owned_does (did_own_write_bytes w) = by_call _ (λ s d e. never (cc)) (λ _. w.ensures)
owned_does (did_own_allocate w) = by_call _ (λ s d e. never (cc)) (λ _. w.ensures)
owned_does (did_own_allocate_with w) = by_call _ (λ s d e. never (cc)) (λ _. w.ensures)
owned_does (did_own_free w) = by_call _ (λ s d e. never (cc)) (λ _. w.ensures)
owned_does (did_own_window w) = by_call _ (λ s d e. never (cc)) (λ _. w.ensures)
owned_does (did_own_truncate w) = by_call _ (λ s d e. never (cc)) (λ _. w.ensures)
owned_does (did_own_compare_left w) = by_call _ (λ s d e. never (cc)) (λ _. left_call (lent w.args) (lent (rest w.args)) _ w.ensures.0)
owned_does (did_own_compare_right w) = by_call _ (λ s d e. never (cc)) (λ _. right_call (lent (rest w.args)) (lent w.args) _ w.ensures.0)
owned_does (did_own_compare_both w e) = by_call _ (λ s d q. never (cc)) (λ _. both_call (lent w.args) (lent (rest w.args)) _ e w.ensures.0)
owned_does (did_own_rollback w) = by_call _ (λ s d e. never (cc)) (λ _. w.ensures)
owned_does (did_own_delete_history w) = by_call _ (λ s d e. never (cc)) (λ _. w.ensures)
owned_does (did_own_load w) = by_call _ (λ s d e. never (cc)) (λ _. w.ensures.does)
owned_does (did_own_store w) = by_call _ (λ s d e. never (cc)) (λ _. w.ensures.does)
owned_does (did_own_load_pointer w) = by_call _ (λ s d e. never (cc)) (λ _. w.ensures.runs.does)
owned_does (did_own_load_static w) = by_call _ (λ s d e. never (cc)) (λ _. w.ensures.does)
owned_does (did_own_store_static w) = by_call _ (λ s d e. never (cc)) (λ _. w.ensures.does)

pub ready_of : (m : Mem) → WellFormed m → Ready m
ready_of m formed = record {
  own_read_u256 = λ κs args e. subst WellFormed (sym e) formed;
  own_read_u256_partially = λ κs args e. subst WellFormed (sym e) formed;
  own_read_range_big_endian = λ κs args e. subst WellFormed (sym e) formed;
  own_read_byte = λ κs args e. subst WellFormed (sym e) formed;
  own_dynamic_len = λ κs args e. subst WellFormed (sym e) formed;
  own_snapshot = λ κs args e. subst WellFormed (sym e) formed;
  own_chunk = λ κs args e. subst WellFormed (sym e) formed;
  own_write_u256 = λ κs args e. subst WellFormed (sym e) formed;
  own_write_bytes = λ κs args e. subst WellFormed (sym e) formed;
  own_allocate_at = λ κs args e. subst WellFormed (sym e) formed;
  own_allocate_with_content_at = λ κs args e. subst WellFormed (sym e) formed;
  own_deallocate = λ κs args e. subst WellFormed (sym e) formed;
  own_compact_to_window = λ κs args e. subst WellFormed (sym e) formed;
  own_truncate_dynamic_to = λ κs args e. subst WellFormed (sym e) formed;
  own_compare = λ κs args e f. (subst WellFormed (sym e) formed, f);
  own_rollback = λ κs args e. subst WellFormed (sym e) formed;
  own_delete_history = λ κs args e. subst WellFormed (sym e) formed;
  own_load = λ κs args e. subst WellFormed (sym e) formed;
  own_store = λ κs args e. subst WellFormed (sym e) formed;
  own_load_pointer = λ κs args e. subst WellFormed (sym e) formed;
  own_load_static = λ κs args e. subst WellFormed (sym e) formed;
  own_store_static = λ κs args e. subst WellFormed (sym e) formed;
}
