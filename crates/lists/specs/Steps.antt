-- One call of each public function, of each function that a host links, and of each owned one.
-- Assumes nothing.
use Rattle.std.specs.Prelude.{◌≡◌, [], length}
use Rattle.outcome.specs.Outcome.{Outcome, done, mapped, answer_outcome, unit_outcome}
use Rattle.store.specs.Mem.{Mem}
use Rattle.word.specs.Value.{value}
use Rattle.view.specs.Calls.{Call, Value, Open, Allocate, WriteWord, WriteBytes, ReadWord, ReadPartial, ReadRange, ReadByte, DynamicLength, Lookup, LookupCheck, Free, Window, Truncate, CompareLeft, CompareRight, CompareBoth, Snapshot, Rollback, DeleteHistory, nothing, number, bytes, Load, Store, LoadPointer, LoadStatic, StoreStatic}
use Rattle.opening.specs.Opening.{setting_from}
use Rattle.reads.specs.Calls.{partial_outcome, partial_value, byte_outcome, length_outcome, snapshot_outcome, lengths_value}
use Rattle.reads.specs.Calls as reads
use Rattle.compare.specs.Verdict as compares
use Rattle.opening.proofs.open.Kinds as open_kinds
use Rattle.opening.proofs.open.Reads as open_reads
use Rattle.reads.proofs.read_u256.Kinds as word_kinds
use Rattle.reads.proofs.read_u256.Reads as word_reads
use Rattle.reads.proofs.read_u256_partially.Kinds as partial_kinds
use Rattle.reads.proofs.read_u256_partially.Reads as partial_reads
use Rattle.reads.proofs.read_range_big_endian.Kinds as range_kinds
use Rattle.reads.proofs.read_range_big_endian.Reads as range_reads
use Rattle.reads.proofs.read_byte.Kinds as byte_kinds
use Rattle.reads.proofs.read_byte.Reads as byte_reads
use Rattle.reads.proofs.dynamic_len.Kinds as length_kinds
use Rattle.reads.proofs.dynamic_len.Reads as length_reads
use Rattle.reads.proofs.snapshot.Kinds as snapshot_kinds
use Rattle.reads.proofs.snapshot.Reads as snapshot_reads
use Rattle.reads.proofs.chunk.Kinds as chunk_kinds
use Rattle.reads.proofs.chunk.Reads as chunk_reads
use Rattle.reads.proofs.chunk_check.Kinds as check_kinds
use Rattle.reads.proofs.chunk_check.Reads as check_reads
use Rattle.writes.proofs.write_u256.Kinds as write_kinds
use Rattle.writes.proofs.write_u256.Reads as write_reads
use Rattle.writes.proofs.write_bytes.Kinds as put_kinds
use Rattle.writes.proofs.write_bytes.Reads as put_reads
use Rattle.writes.proofs.allocate_at.Kinds as allocate_kinds
use Rattle.writes.proofs.allocate_at.Reads as allocate_reads
use Rattle.writes.proofs.allocate_with_content_at.Kinds as fill_kinds
use Rattle.writes.proofs.allocate_with_content_at.Reads as fill_reads
use Rattle.freeing.proofs.deallocate.Kinds as free_kinds
use Rattle.freeing.proofs.deallocate.Reads as free_reads
use Rattle.freeing.proofs.compact_to_window.Kinds as window_kinds
use Rattle.freeing.proofs.compact_to_window.Reads as window_reads
use Rattle.freeing.proofs.truncate_dynamic_to.Kinds as truncate_kinds
use Rattle.freeing.proofs.truncate_dynamic_to.Reads as truncate_reads
use Rattle.compare.proofs.compare.Kinds as compare_kinds
use Rattle.compare.proofs.compare.Reads as compare_reads
use Rattle.history.proofs.rollback.Kinds as rollback_kinds
use Rattle.history.proofs.rollback.Reads as rollback_reads
use Rattle.history.proofs.delete_history.Kinds as delete_kinds
use Rattle.history.proofs.delete_history.Reads as delete_reads
use Rattle.registers.specs.Registers.{registers_from}
use Rattle.execution.specs.Executions.{hook_of}
use Rattle.write_back.specs.Runs.{executed_outcome, pointer_outcome}
use Rattle.instructions.proofs.load.Kinds as load_kinds
use Rattle.instructions.proofs.load.Reads as load_reads
use Rattle.instructions.proofs.store.Kinds as store_kinds
use Rattle.instructions.proofs.store.Reads as store_reads
use Rattle.instructions.proofs.load_pointer.Kinds as pointer_kinds
use Rattle.instructions.proofs.load_pointer.Reads as pointer_reads
use Rattle.instructions.proofs.load_static.Kinds as load_static_kinds
use Rattle.instructions.proofs.load_static.Reads as load_static_reads
use Rattle.instructions.proofs.store_static.Kinds as store_static_kinds
use Rattle.instructions.proofs.store_static.Reads as store_static_reads
use Rattle.lists.specs.Went.{Went, lent, lent_words, lent_bytes_words, lent_mut, rest, exits}
use Rattle.lists.specs.Linked.{LinkedStep}
use Rattle.lists.specs.Owned.{OwnedStep}

-- a call of a public function: a constructor for each
pub data PublicStep : Mem → Call → Outcome Value → Mem → Type 0 where
  did_open :
      (w : Went open_kinds.ps open_kinds.r open_reads.Asked open_reads.Learnt) →
      PublicStep
      (lent_mut w.args)
      (Open (setting_from (rest w.args).0 (rest w.args).1.0.chunks (rest w.args).1.0.pages (rest w.args).1.0.journal_words) (rest w.args).1.1.0.now)
      (answer_outcome nothing w.result)
      (lent_mut (exits w))
  did_read_word :
      (w : Went word_kinds.ps word_kinds.r word_reads.Asked word_reads.Learnt) →
      PublicStep
      (lent w.args)
      (ReadWord (rest w.args).0.0 (rest w.args).1.0.0)
      (mapped number (reads.word_outcome w.result))
      (lent (exits w))
  did_read_partial :
      (w : Went partial_kinds.ps partial_kinds.r partial_reads.Asked partial_reads.Learnt) →
      PublicStep
      (lent w.args)
      (ReadPartial (rest w.args).0.0 (rest w.args).1.0.0 (rest w.args).1.1.0.0)
      (mapped partial_value (partial_outcome w.result))
      (lent (exits w))
  -- the value is what the output holds after the call
  did_read_range :
      (w : Went range_kinds.ps range_kinds.r range_reads.Asked range_reads.Learnt) →
      PublicStep
      (lent w.args)
      (ReadRange (rest w.args).0.0 (rest w.args).1.0.0 (rest w.args).1.1.0.0 (length (rest w.args).1.1.1.0.now))
      (mapped (λ _. bytes (rest (exits w)).1.1.1.0.now) (unit_outcome w.result))
      (lent (exits w))
  did_read_byte :
      (w : Went byte_kinds.ps byte_kinds.r byte_reads.Asked byte_reads.Learnt) →
      PublicStep
      (lent w.args)
      (ReadByte (rest w.args).0.0 (rest w.args).1.0.0)
      (mapped number (byte_outcome w.result))
      (lent (exits w))
  did_dynamic_length :
      (w : Went length_kinds.ps length_kinds.r length_reads.Asked length_reads.Learnt) →
      PublicStep
      (lent w.args)
      DynamicLength
      (mapped number (length_outcome w.result))
      (lent (exits w))
  -- a lookup shows a part, and its check says whether it is refused
  did_lookup :
      (w : Went chunk_kinds.ps chunk_kinds.r chunk_reads.Asked chunk_reads.Learnt) →
      PublicStep
      (lent w.args)
      (Lookup (rest w.args).0.0 (rest w.args).1.0 (rest w.args).1.1.0.now)
      (done (bytes w.result.now))
      (lent (exits w))
  did_lookup_check :
      (w : Went check_kinds.ps check_kinds.r check_reads.Asked check_reads.Learnt) →
      PublicStep
      (lent w.args)
      (LookupCheck (rest w.args).0.0 (rest w.args).1.0 (rest w.args).1.1.0.now)
      (mapped (λ _. nothing) (unit_outcome w.result))
      (lent (exits w))
  did_snapshot :
      (w : Went snapshot_kinds.ps snapshot_kinds.r snapshot_reads.Asked snapshot_reads.Learnt) →
      PublicStep
      (lent w.args)
      Snapshot
      (mapped lengths_value (snapshot_outcome w.result))
      (lent (exits w))
  did_write_word :
      (w : Went write_kinds.ps write_kinds.r write_reads.Asked write_reads.Learnt) →
      PublicStep
      (lent_mut w.args)
      (WriteWord (rest w.args).0.0 (rest w.args).1.0.0 (value (rest w.args).1.1.0.limbs))
      (answer_outcome nothing w.result)
      (lent_mut (exits w))
  did_write_bytes :
      (w : Went put_kinds.ps put_kinds.r put_reads.Asked put_reads.Learnt) →
      PublicStep
      (lent_mut w.args)
      (WriteBytes (rest w.args).0.0 (rest w.args).1.0.0 (rest w.args).1.1.0.now)
      (answer_outcome nothing w.result)
      (lent_mut (exits w))
  did_allocate :
      (w : Went allocate_kinds.ps allocate_kinds.r allocate_reads.Asked allocate_reads.Learnt) →
      PublicStep
      (lent_mut w.args)
      (Allocate (rest w.args).0.0 [])
      (answer_outcome nothing w.result)
      (lent_mut (exits w))
  did_allocate_with :
      (w : Went fill_kinds.ps fill_kinds.r fill_reads.Asked fill_reads.Learnt) →
      PublicStep
      (lent_mut w.args)
      (Allocate (rest w.args).0.0 (rest w.args).1.0.now)
      (answer_outcome nothing w.result)
      (lent_mut (exits w))
  did_free :
      (w : Went free_kinds.ps free_kinds.r free_reads.Asked free_reads.Learnt) →
      PublicStep
      (lent_mut w.args)
      (Free (rest w.args).0.0)
      (answer_outcome nothing w.result)
      (lent_mut (exits w))
  did_window :
      (w : Went window_kinds.ps window_kinds.r window_reads.Asked window_reads.Learnt) →
      PublicStep
      (lent_mut w.args)
      (Window (rest w.args).0.0 (rest w.args).1.0.0 (rest w.args).1.1.0)
      (answer_outcome nothing w.result)
      (lent_mut (exits w))
  did_truncate :
      (w : Went truncate_kinds.ps truncate_kinds.r truncate_reads.Asked truncate_reads.Learnt) →
      PublicStep
      (lent_mut w.args)
      (Truncate (rest w.args).0)
      (answer_outcome nothing w.result)
      (lent_mut (exits w))
  -- a comparison is lent two memories; this one is the left, the right, or both
  did_compare_left :
      (w : Went compare_kinds.ps compare_kinds.r compare_reads.Asked compare_reads.Learnt) →
      PublicStep
      (lent w.args)
      (CompareLeft (lent (rest w.args)))
      (compares.comparison_outcome w.result)
      (lent (exits w))
  did_compare_right :
      (w : Went compare_kinds.ps compare_kinds.r compare_reads.Asked compare_reads.Learnt) →
      PublicStep
      (lent (rest w.args))
      (CompareRight (lent w.args))
      (compares.comparison_outcome w.result)
      (lent (rest (exits w)))
  did_compare_both :
      (w : Went compare_kinds.ps compare_kinds.r compare_reads.Asked compare_reads.Learnt) →
      lent (rest w.args) ≡ lent w.args →
      PublicStep
      (lent w.args)
      CompareBoth
      (compares.comparison_outcome w.result)
      (lent (exits w))
  did_rollback :
      (w : Went rollback_kinds.ps rollback_kinds.r rollback_reads.Asked rollback_reads.Learnt) →
      PublicStep
      (lent_bytes_words w.args)
      (Rollback (rest w.args).0 (rest w.args).1.0)
      (answer_outcome nothing w.result)
      (lent_bytes_words (exits w))
  did_delete_history :
      (w : Went delete_kinds.ps delete_kinds.r delete_reads.Asked delete_reads.Learnt) →
      PublicStep
      (lent_words w.args)
      DeleteHistory
      (answer_outcome nothing w.result)
      (lent_words (exits w))
  -- the registers are lent and the frame is an argument; both are parts of the answer
  did_load :
      (w : Went load_kinds.ps load_kinds.r load_reads.Asked load_reads.Learnt) →
      PublicStep
      (lent w.args)
      (Load (rest w.args).1.1.0 (rest w.args).1.0 (registers_from (rest w.args).0.now) (rest w.args).1.1.1.0)
      (executed_outcome w.result (rest (exits w)).0.now)
      (lent (exits w))
  did_store :
      (w : Went store_kinds.ps store_kinds.r store_reads.Asked store_reads.Learnt) →
      PublicStep
      (lent_mut w.args)
      (Store (rest w.args).1.1.0 (rest w.args).1.0 (registers_from (rest w.args).0.now) (rest w.args).1.1.1.0 (rest w.args).1.1.1.1.0 (hook_of (rest w.args).1.1.1.1.1.0))
      (executed_outcome w.result (rest (exits w)).0.now)
      (lent_mut (exits w))
  did_load_pointer :
      (w : Went pointer_kinds.ps pointer_kinds.r pointer_reads.Asked pointer_reads.Learnt) →
      PublicStep
      (lent w.args)
      (LoadPointer (rest w.args).1.0 (registers_from (rest w.args).0.now) (rest w.args).1.1.0)
      (pointer_outcome w.result (rest (exits w)).0.now)
      (lent (exits w))
  did_load_static :
      (w : Went load_static_kinds.ps load_static_kinds.r load_static_reads.Asked load_static_reads.Learnt) →
      PublicStep
      (lent w.args)
      (LoadStatic (rest w.args).1.0 (registers_from (rest w.args).0.now) (rest w.args).1.1.0)
      (executed_outcome w.result (rest (exits w)).0.now)
      (lent (exits w))
  did_store_static :
      (w : Went store_static_kinds.ps store_static_kinds.r store_static_reads.Asked store_static_reads.Learnt) →
      PublicStep
      (lent_mut w.args)
      (StoreStatic (rest w.args).1.0 (registers_from (rest w.args).0.now) (rest w.args).1.1.0 (rest w.args).1.1.1.0)
      (executed_outcome w.result (rest (exits w)).0.now)
      (lent_mut (exits w))

-- THE STEPS: calls of the public functions and of those that hosts link
pub data Step : Mem → Call → Outcome Value → Mem → Type 0 where
  public : {m m' : Mem} {c : Call} {o : Outcome Value} → PublicStep m c o m' → Step m c o m'
  linked : {m m' : Mem} {c : Call} {o : Outcome Value} → LinkedStep m c o m' → Step m c o m'
  owned : {m m' : Mem} {c : Call} {o : Outcome Value} → OwnedStep m c o m' → Step m c o m'
