-- What the calls of the functions that a host links do is what their contracts say.
-- Assumes nothing.
use mathlib.Core.Path.{refl}
use lib.ListN.{length}
use Rattle.outcome.specs.Outcome.{Outcome}
use Rattle.store.specs.Mem.{Mem}
use Rattle.view.specs.Calls.{Call, Value, DynamicLength, ReadByte, ReadPartial, ReadRange, ReadWord, Snapshot}
use Rattle.reads.proofs.Calls.{only_reads}
use Rattle.plain.proofs.Good.{never}
use Rattle.lists.specs.Went.{lent, rest, exits}
use Rattle.lists.proofs.Compares.{left_call, right_call, both_call}
use Rattle.lists.proofs.Copies.{copied_call, copied_check}
use Rattle.lists.proofs.Meets.{Meets, by_open, by_call}
use Rattle.lists.specs.Linked.{LinkedStep, did_zp_open, did_zp_read_word, did_zp_read_partial, did_zp_read_range, did_zp_read_byte, did_zp_dynamic_length, did_zp_snapshot, did_zp_lookup, did_zp_lookup_check, did_zp_write_word, did_zp_write_bytes, did_zp_allocate, did_zp_allocate_with, did_zp_free, did_zp_window, did_zp_truncate, did_zp_compare_left, did_zp_compare_right, did_zp_compare_both, did_zp_rollback, did_zp_delete_history, did_zp_load, did_zp_store, did_zp_load_pointer, did_zp_load_static, did_zp_store_static}

pub linked_does : {m m' : Mem} {c : Call} {o : Outcome Value} → LinkedStep m c o m' → Meets m c o m'
linked_does (did_zp_open w) = by_open _ _ w.ensures
linked_does (did_zp_read_word w l) = by_call _ (λ s d e. never (cc)) (λ _. only_reads (lent w.args) (ReadWord (rest w.args).0 (rest w.args).1.0) _ refl (w.ensures.answer l))
linked_does (did_zp_read_partial w l) = by_call _ (λ s d e. never (cc)) (λ _. only_reads (lent w.args) (ReadPartial (rest w.args).0 (rest w.args).1.0 (rest w.args).1.1.0) _ refl (w.ensures.answer l))
linked_does (did_zp_read_range w) = by_call _ (λ s d e. never (cc)) (λ _. only_reads (lent w.args) (ReadRange (rest w.args).0 (rest w.args).1.0 (rest w.args).1.1.0 (length (rest w.args).1.1.1.0.now)) _ refl (w.ensures.answer refl))
linked_does (did_zp_read_byte w l) = by_call _ (λ s d e. never (cc)) (λ _. only_reads (lent w.args) (ReadByte (rest w.args).0 (rest w.args).1.0) _ refl (w.ensures.answer l))
linked_does (did_zp_dynamic_length w l) = by_call _ (λ s d e. never (cc)) (λ _. only_reads (lent w.args) DynamicLength _ refl (w.ensures.answer l))
linked_does (did_zp_snapshot w l) = by_call _ (λ s d e. never (cc)) (λ _. only_reads (lent w.args) Snapshot _ refl (w.ensures.answer l))
linked_does (did_zp_lookup w l) = by_call _ (λ s d e. never (cc)) (λ f. copied_call (lent w.args) (rest w.args).0 (rest w.args).1.0 (rest w.args).1.1.0.now w.result (rest (exits w)).1.1.1.0.now (f _ _ _ refl) (w.ensures.answer l))
linked_does (did_zp_lookup_check w l) = by_call _ (λ s d e. never (cc)) (λ _. copied_check (lent w.args) (rest w.args).0 (rest w.args).1.0 (rest w.args).1.1.0.now w.result (rest (exits w)).1.1.1.0.now (w.ensures.answer l))
linked_does (did_zp_write_word w) = by_call _ (λ s d e. never (cc)) (λ _. w.ensures)
linked_does (did_zp_write_bytes w) = by_call _ (λ s d e. never (cc)) (λ _. w.ensures)
linked_does (did_zp_allocate w) = by_call _ (λ s d e. never (cc)) (λ _. w.ensures)
linked_does (did_zp_allocate_with w) = by_call _ (λ s d e. never (cc)) (λ _. w.ensures)
linked_does (did_zp_free w) = by_call _ (λ s d e. never (cc)) (λ _. w.ensures)
linked_does (did_zp_window w) = by_call _ (λ s d e. never (cc)) (λ _. w.ensures)
linked_does (did_zp_truncate w) = by_call _ (λ s d e. never (cc)) (λ _. w.ensures)
linked_does (did_zp_compare_left w l) = by_call _ (λ s d e. never (cc)) (λ _. left_call (lent w.args) (lent (rest w.args)) _ (w.ensures.answer l))
linked_does (did_zp_compare_right w l) = by_call _ (λ s d e. never (cc)) (λ _. right_call (lent (rest w.args)) (lent w.args) _ (w.ensures.answer l))
linked_does (did_zp_compare_both w l e) = by_call _ (λ s d q. never (cc)) (λ _. both_call (lent w.args) (lent (rest w.args)) _ e (w.ensures.answer l))
linked_does (did_zp_rollback w) = by_call _ (λ s d e. never (cc)) (λ _. w.ensures)
linked_does (did_zp_delete_history w) = by_call _ (λ s d e. never (cc)) (λ _. w.ensures)
linked_does (did_zp_load w l) = by_call _ (λ s d e. never (cc)) (λ _. w.ensures.does l)
linked_does (did_zp_store w l) = by_call _ (λ s d e. never (cc)) (λ _. w.ensures.0.does l)
linked_does (did_zp_load_pointer w l) = by_call _ (λ s d e. never (cc)) (λ _. w.ensures.0.does l)
linked_does (did_zp_load_static w l) = by_call _ (λ s d e. never (cc)) (λ _. w.ensures.does l)
linked_does (did_zp_store_static w l) = by_call _ (λ s d e. never (cc)) (λ _. w.ensures.does l)
