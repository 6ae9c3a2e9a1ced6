-- One call of each function that the Rust crate's `Heaps` links, the test except, its outputs of the right length. All but the opening require a well-formed memory: `asked` of the record. `Ready` says that every list leaves one.
-- Assumes nothing.
use Rattle.std.specs.Prelude.{◌≡◌, [], length}
use borrow.Fn.Kinds.{Dens}
use contract.Lifetimes.{Lfts}
use Rattle.outcome.specs.Outcome.{Outcome, done, answered, mapped}
use Rattle.word.specs.Value.{value, limbs_value}
use Rattle.store.specs.Mem.{Mem}
use Rattle.formed.specs.WellFormed.{WellFormed}
use Rattle.view.specs.Calls.{Call, Value, Open, Allocate, WriteWord, WriteBytes, ReadWord, ReadPartial, ReadRange, ReadByte, DynamicLength, Lookup, LookupCheck, Free, Window, Truncate, CompareLeft, CompareRight, CompareBoth, Snapshot, Rollback, DeleteHistory, nothing, number, lengths, bytes, Load, Store, LoadPointer, LoadStatic, StoreStatic}
use Rattle.page_ids.specs.Decode.{layout_from}
use Rattle.opening.specs.Opening.{setting_from}
use Rattle.registers.specs.Registers.{registers_from, load_places_from, store_places_from}
use Rattle.reads.specs.Calls.{partial_value}
use Rattle.write_back.specs.Runs.{executed_outcome, pointer_outcome}
use Rattle.frames.specs.Frames.{area_of}
use Rattle.abi.specs.Executing.{hook_from}
use Rattle.owned.specs.Answers.{partial_outcome, compared_outcome, frame_of, executed_of, pointer_executed_of}
use Rattle.lists.specs.Linked.{copied_part}
use Rattle.owned.proofs.memory.own_open.Kinds as own_open_kinds
use Rattle.owned.proofs.memory.own_open.Reads as own_open_reads
use Rattle.owned.proofs.memory.own_read_u256.Kinds as own_read_u256_kinds
use Rattle.owned.proofs.memory.own_read_u256.Reads as own_read_u256_reads
use Rattle.owned.proofs.memory.own_read_u256_partially.Kinds as own_read_u256_partially_kinds
use Rattle.owned.proofs.memory.own_read_u256_partially.Reads as own_read_u256_partially_reads
use Rattle.owned.proofs.memory.own_read_range_big_endian.Kinds as own_read_range_big_endian_kinds
use Rattle.owned.proofs.memory.own_read_range_big_endian.Reads as own_read_range_big_endian_reads
use Rattle.owned.proofs.memory.own_read_byte.Kinds as own_read_byte_kinds
use Rattle.owned.proofs.memory.own_read_byte.Reads as own_read_byte_reads
use Rattle.owned.proofs.memory.own_dynamic_len.Kinds as own_dynamic_len_kinds
use Rattle.owned.proofs.memory.own_dynamic_len.Reads as own_dynamic_len_reads
use Rattle.owned.proofs.memory.own_snapshot.Kinds as own_snapshot_kinds
use Rattle.owned.proofs.memory.own_snapshot.Reads as own_snapshot_reads
use Rattle.owned.proofs.memory.own_chunk.Kinds as own_chunk_kinds
use Rattle.owned.proofs.memory.own_chunk.Reads as own_chunk_reads
use Rattle.owned.proofs.memory.own_write_u256.Kinds as own_write_u256_kinds
use Rattle.owned.proofs.memory.own_write_u256.Reads as own_write_u256_reads
use Rattle.owned.proofs.memory.own_write_bytes.Kinds as own_write_bytes_kinds
use Rattle.owned.proofs.memory.own_write_bytes.Reads as own_write_bytes_reads
use Rattle.owned.proofs.memory.own_allocate_at.Kinds as own_allocate_at_kinds
use Rattle.owned.proofs.memory.own_allocate_at.Reads as own_allocate_at_reads
use Rattle.owned.proofs.memory.own_allocate_with_content_at.Kinds as own_allocate_with_content_at_kinds
use Rattle.owned.proofs.memory.own_allocate_with_content_at.Reads as own_allocate_with_content_at_reads
use Rattle.owned.proofs.memory.own_deallocate.Kinds as own_deallocate_kinds
use Rattle.owned.proofs.memory.own_deallocate.Reads as own_deallocate_reads
use Rattle.owned.proofs.memory.own_compact_to_window.Kinds as own_compact_to_window_kinds
use Rattle.owned.proofs.memory.own_compact_to_window.Reads as own_compact_to_window_reads
use Rattle.owned.proofs.memory.own_truncate_dynamic_to.Kinds as own_truncate_dynamic_to_kinds
use Rattle.owned.proofs.memory.own_truncate_dynamic_to.Reads as own_truncate_dynamic_to_reads
use Rattle.owned.proofs.memory.own_compare.Kinds as own_compare_kinds
use Rattle.owned.proofs.memory.own_compare.Reads as own_compare_reads
use Rattle.owned.proofs.memory.own_rollback.Kinds as own_rollback_kinds
use Rattle.owned.proofs.memory.own_rollback.Reads as own_rollback_reads
use Rattle.owned.proofs.memory.own_delete_history.Kinds as own_delete_history_kinds
use Rattle.owned.proofs.memory.own_delete_history.Reads as own_delete_history_reads
use Rattle.owned.proofs.execute.own_load.Kinds as own_load_kinds
use Rattle.owned.proofs.execute.own_load.Reads as own_load_reads
use Rattle.owned.proofs.execute.own_store.Kinds as own_store_kinds
use Rattle.owned.proofs.execute.own_store.Reads as own_store_reads
use Rattle.owned.proofs.execute.own_load_pointer.Kinds as own_load_pointer_kinds
use Rattle.owned.proofs.execute.own_load_pointer.Reads as own_load_pointer_reads
use Rattle.owned.proofs.execute.own_load_static.Kinds as own_load_static_kinds
use Rattle.owned.proofs.execute.own_load_static.Reads as own_load_static_reads
use Rattle.owned.proofs.execute.own_store_static.Kinds as own_store_static_kinds
use Rattle.owned.proofs.execute.own_store_static.Reads as own_store_static_reads
use Rattle.lists.specs.Went.{Went, lent, lent_words, lent_bytes_words, lent_mut, rest, exits}

-- THE STEPS of a host that owns its memory
pub data OwnedStep : Mem → Call → Outcome Value → Mem → Type 0 where
  did_own_open :
      (w : Went own_open_kinds.ps own_open_kinds.r own_open_reads.Asked own_open_reads.Learnt) →
      OwnedStep
      (lent_mut w.args)
      (Open (setting_from (layout_from (rest w.args).0 (rest w.args).1.0 (rest w.args).1.1.0 (rest w.args).1.1.1.0 (rest w.args).1.1.1.1.0 (rest w.args).1.1.1.1.1.0) (rest w.args).1.1.1.1.1.1.0 (rest w.args).1.1.1.1.1.1.1.0 (rest w.args).1.1.1.1.1.1.1.1.0) (rest w.args).1.1.1.1.1.1.1.1.1.0.now)
      (answered w.result nothing)
      (lent_mut (exits w))
  did_own_read_word :
      (w : Went own_read_u256_kinds.ps own_read_u256_kinds.r own_read_u256_reads.Asked own_read_u256_reads.Learnt) →
      OwnedStep
      (lent w.args)
      (ReadWord (rest w.args).0 (rest w.args).1.0)
      (done (number (value w.result.limbs)))
      (lent (exits w))
  did_own_read_partial :
      (w : Went own_read_u256_partially_kinds.ps own_read_u256_partially_kinds.r own_read_u256_partially_reads.Asked own_read_u256_partially_reads.Learnt) →
      OwnedStep
      (lent w.args)
      (ReadPartial (rest w.args).0 (rest w.args).1.0 (rest w.args).1.1.0)
      (mapped partial_value (partial_outcome w.result))
      (lent (exits w))
  did_own_read_range :
      (w : Went own_read_range_big_endian_kinds.ps own_read_range_big_endian_kinds.r own_read_range_big_endian_reads.Asked own_read_range_big_endian_reads.Learnt) →
      OwnedStep
      (lent w.args)
      (ReadRange (rest w.args).0 (rest w.args).1.0 (rest w.args).1.1.0 (length (rest w.args).1.1.1.0.now))
      (answered w.result (bytes (rest (exits w)).1.1.1.0.now))
      (lent (exits w))
  did_own_read_byte :
      (w : Went own_read_byte_kinds.ps own_read_byte_kinds.r own_read_byte_reads.Asked own_read_byte_reads.Learnt) →
      OwnedStep
      (lent w.args)
      (ReadByte (rest w.args).0 (rest w.args).1.0)
      (done (number w.result))
      (lent (exits w))
  did_own_dynamic_length :
      (w : Went own_dynamic_len_kinds.ps own_dynamic_len_kinds.r own_dynamic_len_reads.Asked own_dynamic_len_reads.Learnt) →
      OwnedStep
      (lent w.args)
      DynamicLength
      (done (number w.result))
      (lent (exits w))
  did_own_snapshot :
      (w : Went own_snapshot_kinds.ps own_snapshot_kinds.r own_snapshot_reads.Asked own_snapshot_reads.Learnt) →
      OwnedStep
      (lent w.args)
      Snapshot
      (answered w.result.refusal (lengths w.result.heap w.result.aux))
      (lent (exits w))
  -- a refused lookup shows an empty part
  did_own_lookup :
      (w : Went own_chunk_kinds.ps own_chunk_kinds.r own_chunk_reads.Asked own_chunk_reads.Learnt) →
      length (rest w.args).1.1.1.0.now ≡ 256 →
      OwnedStep
      (lent w.args)
      (Lookup (rest w.args).0 (rest w.args).1.0 (rest w.args).1.1.0.now)
      (done (bytes (copied_part w.result (rest (exits w)).1.1.1.0.now)))
      (lent (exits w))
  did_own_lookup_check :
      (w : Went own_chunk_kinds.ps own_chunk_kinds.r own_chunk_reads.Asked own_chunk_reads.Learnt) →
      length (rest w.args).1.1.1.0.now ≡ 256 →
      OwnedStep
      (lent w.args)
      (LookupCheck (rest w.args).0 (rest w.args).1.0 (rest w.args).1.1.0.now)
      (answered w.result nothing)
      (lent (exits w))
  did_own_write_word :
      (w : Went own_write_u256_kinds.ps own_write_u256_kinds.r own_write_u256_reads.Asked own_write_u256_reads.Learnt) →
      OwnedStep
      (lent_mut w.args)
      (WriteWord (rest w.args).0 (rest w.args).1.0 (limbs_value (rest w.args).1.1.0 (rest w.args).1.1.1.0 (rest w.args).1.1.1.1.0 (rest w.args).1.1.1.1.1.0))
      (answered w.result nothing)
      (lent_mut (exits w))
  did_own_write_bytes :
      (w : Went own_write_bytes_kinds.ps own_write_bytes_kinds.r own_write_bytes_reads.Asked own_write_bytes_reads.Learnt) →
      OwnedStep
      (lent_mut w.args)
      (WriteBytes (rest w.args).0 (rest w.args).1.0 (rest w.args).1.1.0.now)
      (answered w.result nothing)
      (lent_mut (exits w))
  did_own_allocate :
      (w : Went own_allocate_at_kinds.ps own_allocate_at_kinds.r own_allocate_at_reads.Asked own_allocate_at_reads.Learnt) →
      OwnedStep
      (lent_mut w.args)
      (Allocate (rest w.args).0 [])
      (answered w.result nothing)
      (lent_mut (exits w))
  did_own_allocate_with :
      (w : Went own_allocate_with_content_at_kinds.ps own_allocate_with_content_at_kinds.r own_allocate_with_content_at_reads.Asked own_allocate_with_content_at_reads.Learnt) →
      OwnedStep
      (lent_mut w.args)
      (Allocate (rest w.args).0 (rest w.args).1.0.now)
      (answered w.result nothing)
      (lent_mut (exits w))
  did_own_free :
      (w : Went own_deallocate_kinds.ps own_deallocate_kinds.r own_deallocate_reads.Asked own_deallocate_reads.Learnt) →
      OwnedStep
      (lent_mut w.args)
      (Free (rest w.args).0)
      (answered w.result nothing)
      (lent_mut (exits w))
  did_own_window :
      (w : Went own_compact_to_window_kinds.ps own_compact_to_window_kinds.r own_compact_to_window_reads.Asked own_compact_to_window_reads.Learnt) →
      OwnedStep
      (lent_mut w.args)
      (Window (rest w.args).0 (rest w.args).1.0 (rest w.args).1.1.0)
      (answered w.result nothing)
      (lent_mut (exits w))
  did_own_truncate :
      (w : Went own_truncate_dynamic_to_kinds.ps own_truncate_dynamic_to_kinds.r own_truncate_dynamic_to_reads.Asked own_truncate_dynamic_to_reads.Learnt) →
      OwnedStep
      (lent_mut w.args)
      (Truncate (rest w.args).0)
      (answered w.result nothing)
      (lent_mut (exits w))
  -- a comparison is lent two memories; this one is the left, the right, or both
  did_own_compare_left :
      (w : Went own_compare_kinds.ps own_compare_kinds.r own_compare_reads.Asked own_compare_reads.Learnt) →
      OwnedStep
      (lent w.args)
      (CompareLeft (lent (rest w.args)))
      (compared_outcome w.result)
      (lent (exits w))
  did_own_compare_right :
      (w : Went own_compare_kinds.ps own_compare_kinds.r own_compare_reads.Asked own_compare_reads.Learnt) →
      OwnedStep
      (lent (rest w.args))
      (CompareRight (lent w.args))
      (compared_outcome w.result)
      (lent (rest (exits w)))
  did_own_compare_both :
      (w : Went own_compare_kinds.ps own_compare_kinds.r own_compare_reads.Asked own_compare_reads.Learnt) →
      lent (rest w.args) ≡ lent w.args →
      OwnedStep
      (lent w.args)
      CompareBoth
      (compared_outcome w.result)
      (lent (exits w))
  did_own_rollback :
      (w : Went own_rollback_kinds.ps own_rollback_kinds.r own_rollback_reads.Asked own_rollback_reads.Learnt) →
      OwnedStep
      (lent_bytes_words w.args)
      (Rollback (rest w.args).0 (rest w.args).1.0)
      (answered w.result nothing)
      (lent_bytes_words (exits w))
  did_own_delete_history :
      (w : Went own_delete_history_kinds.ps own_delete_history_kinds.r own_delete_history_reads.Asked own_delete_history_reads.Learnt) →
      OwnedStep
      (lent_words w.args)
      DeleteHistory
      (answered w.result nothing)
      (lent_words (exits w))
  did_own_load :
      (w : Went own_load_kinds.ps own_load_kinds.r own_load_reads.Asked own_load_reads.Learnt) →
      OwnedStep
      (lent w.args)
      (Load (area_of (rest w.args).1.1.1.1.1.1.1.0) (frame_of (rest w.args).1.0 (rest w.args).1.1.0 (rest w.args).1.1.1.0 (rest w.args).1.1.1.1.0 (rest w.args).1.1.1.1.1.0 (rest w.args).1.1.1.1.1.1.0) (registers_from (rest w.args).0.now) (load_places_from (rest w.args).1.1.1.1.1.1.1.1.0 (rest w.args).1.1.1.1.1.1.1.1.1.0 (rest w.args).1.1.1.1.1.1.1.1.1.1.0 (rest w.args).1.1.1.1.1.1.1.1.1.1.1.0))
      (executed_outcome (executed_of w.result) (rest (exits w)).0.now)
      (lent (exits w))
  did_own_store :
      (w : Went own_store_kinds.ps own_store_kinds.r own_store_reads.Asked own_store_reads.Learnt) →
      OwnedStep
      (lent_mut w.args)
      (Store (area_of (rest w.args).1.1.1.1.1.1.1.0) (frame_of (rest w.args).1.0 (rest w.args).1.1.0 (rest w.args).1.1.1.0 (rest w.args).1.1.1.1.0 (rest w.args).1.1.1.1.1.0 (rest w.args).1.1.1.1.1.1.0) (registers_from (rest w.args).0.now) (store_places_from (rest w.args).1.1.1.1.1.1.1.1.0 (rest w.args).1.1.1.1.1.1.1.1.1.0 (rest w.args).1.1.1.1.1.1.1.1.1.1.0 (rest w.args).1.1.1.1.1.1.1.1.1.1.1.0 (rest w.args).1.1.1.1.1.1.1.1.1.1.1.1.0) (rest w.args).1.1.1.1.1.1.1.1.1.1.1.1.1.0 (hook_from (rest w.args).1.1.1.1.1.1.1.1.1.1.1.1.1.1.0 (rest w.args).1.1.1.1.1.1.1.1.1.1.1.1.1.1.1.0))
      (executed_outcome (executed_of w.result) (rest (exits w)).0.now)
      (lent_mut (exits w))
  did_own_load_pointer :
      (w : Went own_load_pointer_kinds.ps own_load_pointer_kinds.r own_load_pointer_reads.Asked own_load_pointer_reads.Learnt) →
      OwnedStep
      (lent w.args)
      (LoadPointer (frame_of (rest w.args).1.0 (rest w.args).1.1.0 (rest w.args).1.1.1.0 (rest w.args).1.1.1.1.0 (rest w.args).1.1.1.1.1.0 (rest w.args).1.1.1.1.1.1.0) (registers_from (rest w.args).0.now) (load_places_from (rest w.args).1.1.1.1.1.1.1.0 (rest w.args).1.1.1.1.1.1.1.1.0 (rest w.args).1.1.1.1.1.1.1.1.1.0 (rest w.args).1.1.1.1.1.1.1.1.1.1.0))
      (pointer_outcome (pointer_executed_of w.result) (rest (exits w)).0.now)
      (lent (exits w))
  did_own_load_static :
      (w : Went own_load_static_kinds.ps own_load_static_kinds.r own_load_static_reads.Asked own_load_static_reads.Learnt) →
      OwnedStep
      (lent w.args)
      (LoadStatic (frame_of (rest w.args).1.0 (rest w.args).1.1.0 (rest w.args).1.1.1.0 (rest w.args).1.1.1.1.0 (rest w.args).1.1.1.1.1.0 (rest w.args).1.1.1.1.1.1.0) (registers_from (rest w.args).0.now) (load_places_from (rest w.args).1.1.1.1.1.1.1.0 (rest w.args).1.1.1.1.1.1.1.1.0 (rest w.args).1.1.1.1.1.1.1.1.1.0 (rest w.args).1.1.1.1.1.1.1.1.1.1.0))
      (executed_outcome (executed_of w.result) (rest (exits w)).0.now)
      (lent (exits w))
  did_own_store_static :
      (w : Went own_store_static_kinds.ps own_store_static_kinds.r own_store_static_reads.Asked own_store_static_reads.Learnt) →
      OwnedStep
      (lent_mut w.args)
      (StoreStatic (frame_of (rest w.args).1.0 (rest w.args).1.1.0 (rest w.args).1.1.1.0 (rest w.args).1.1.1.1.0 (rest w.args).1.1.1.1.1.0 (rest w.args).1.1.1.1.1.1.0) (registers_from (rest w.args).0.now) (store_places_from (rest w.args).1.1.1.1.1.1.1.0 (rest w.args).1.1.1.1.1.1.1.1.0 (rest w.args).1.1.1.1.1.1.1.1.1.0 (rest w.args).1.1.1.1.1.1.1.1.1.1.0 (rest w.args).1.1.1.1.1.1.1.1.1.1.1.0) (rest w.args).1.1.1.1.1.1.1.1.1.1.1.1.0)
      (executed_outcome (executed_of w.result) (rest (exits w)).0.now)
      (lent_mut (exits w))

-- the memory m is all that an owned call requires: with any other arguments it may be called
pub record Ready (m : Mem) : Type 0 where
  pub own_read_u256 : (κs : Lfts 4) (args : Dens κs own_read_u256_kinds.ps) → lent args ≡ m → own_read_u256_reads.Asked κs args
  pub own_read_u256_partially : (κs : Lfts 4) (args : Dens κs own_read_u256_partially_kinds.ps) → lent args ≡ m → own_read_u256_partially_reads.Asked κs args
  pub own_read_range_big_endian : (κs : Lfts 5) (args : Dens κs own_read_range_big_endian_kinds.ps) → lent args ≡ m → own_read_range_big_endian_reads.Asked κs args
  pub own_read_byte : (κs : Lfts 4) (args : Dens κs own_read_byte_kinds.ps) → lent args ≡ m → own_read_byte_reads.Asked κs args
  pub own_dynamic_len : (κs : Lfts 4) (args : Dens κs own_dynamic_len_kinds.ps) → lent args ≡ m → own_dynamic_len_reads.Asked κs args
  pub own_snapshot : (κs : Lfts 4) (args : Dens κs own_snapshot_kinds.ps) → lent args ≡ m → own_snapshot_reads.Asked κs args
  pub own_chunk : (κs : Lfts 5) (args : Dens κs own_chunk_kinds.ps) → lent args ≡ m → own_chunk_reads.Asked κs args
  pub own_write_u256 : (κs : Lfts 4) (args : Dens κs own_write_u256_kinds.ps) → lent_mut args ≡ m → own_write_u256_reads.Asked κs args
  pub own_write_bytes : (κs : Lfts 5) (args : Dens κs own_write_bytes_kinds.ps) → lent_mut args ≡ m → own_write_bytes_reads.Asked κs args
  pub own_allocate_at : (κs : Lfts 4) (args : Dens κs own_allocate_at_kinds.ps) → lent_mut args ≡ m → own_allocate_at_reads.Asked κs args
  pub own_allocate_with_content_at : (κs : Lfts 5) (args : Dens κs own_allocate_with_content_at_kinds.ps) → lent_mut args ≡ m → own_allocate_with_content_at_reads.Asked κs args
  pub own_deallocate : (κs : Lfts 4) (args : Dens κs own_deallocate_kinds.ps) → lent_mut args ≡ m → own_deallocate_reads.Asked κs args
  pub own_compact_to_window : (κs : Lfts 4) (args : Dens κs own_compact_to_window_kinds.ps) → lent_mut args ≡ m → own_compact_to_window_reads.Asked κs args
  pub own_truncate_dynamic_to : (κs : Lfts 4) (args : Dens κs own_truncate_dynamic_to_kinds.ps) → lent_mut args ≡ m → own_truncate_dynamic_to_reads.Asked κs args
  -- beside a memory that is well formed too
  pub own_compare : (κs : Lfts 8) (args : Dens κs own_compare_kinds.ps) → lent args ≡ m → WellFormed (lent (rest args)) → own_compare_reads.Asked κs args
  pub own_rollback : (κs : Lfts 4) (args : Dens κs own_rollback_kinds.ps) → lent_bytes_words args ≡ m → own_rollback_reads.Asked κs args
  pub own_delete_history : (κs : Lfts 4) (args : Dens κs own_delete_history_kinds.ps) → lent_words args ≡ m → own_delete_history_reads.Asked κs args
  pub own_load : (κs : Lfts 5) (args : Dens κs own_load_kinds.ps) → lent args ≡ m → own_load_reads.Asked κs args
  pub own_store : (κs : Lfts 5) (args : Dens κs own_store_kinds.ps) → lent_mut args ≡ m → own_store_reads.Asked κs args
  pub own_load_pointer : (κs : Lfts 5) (args : Dens κs own_load_pointer_kinds.ps) → lent args ≡ m → own_load_pointer_reads.Asked κs args
  pub own_load_static : (κs : Lfts 5) (args : Dens κs own_load_static_kinds.ps) → lent args ≡ m → own_load_static_reads.Asked κs args
  pub own_store_static : (κs : Lfts 5) (args : Dens κs own_store_static_kinds.ps) → lent_mut args ≡ m → own_store_static_reads.Asked κs args
