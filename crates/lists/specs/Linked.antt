-- One call of each function that include/zincpapaya.h declares and that is lent a memory, its outputs, frames and registers of the right length.
-- Assumes nothing.
use Rattle.std.specs.Prelude.{◌≡◌, true, cond, ◌&&◌, List, [], ℕ, eqb, length, get_or}
use Rattle.outcome.specs.Outcome.{Outcome, done, answered}
use Rattle.word.specs.Value.{limbs_value}
use Rattle.page_ids.specs.Decode.{layout_from}
use Rattle.store.specs.Mem.{Mem}
use Rattle.view.specs.Calls.{Call, Value, Open, Allocate, WriteWord, WriteBytes, ReadWord, ReadPartial, ReadRange, ReadByte, DynamicLength, Lookup, LookupCheck, Free, Window, Truncate, CompareLeft, CompareRight, CompareBoth, Snapshot, Rollback, DeleteHistory, nothing, executed, bytes, Load, Store, LoadPointer, LoadStatic, StoreStatic}
use Rattle.opening.specs.Opening.{setting_from}
use Rattle.abi.specs.Interface.{word_in, partial_in, number_in, marks_in, verdict_in}
use Rattle.frames.specs.Frames.{area_of, frame_from}
use Rattle.registers.specs.Registers.{registers_from, load_places_from, store_places_from}
use Rattle.abi.specs.Executing.{fit, hook_from, outcome_from, pointer_value}
use Rattle.zincpapaya.proofs.memory.zp_open.Kinds as zp_open_kinds
use Rattle.zincpapaya.proofs.memory.zp_open.Reads as zp_open_reads
use Rattle.zincpapaya.proofs.memory.zp_read_u256.Kinds as zp_read_u256_kinds
use Rattle.zincpapaya.proofs.memory.zp_read_u256.Reads as zp_read_u256_reads
use Rattle.zincpapaya.proofs.memory.zp_read_u256_partially.Kinds as zp_read_u256_partially_kinds
use Rattle.zincpapaya.proofs.memory.zp_read_u256_partially.Reads as zp_read_u256_partially_reads
use Rattle.zincpapaya.proofs.memory.zp_read_range_big_endian.Kinds as zp_read_range_big_endian_kinds
use Rattle.zincpapaya.proofs.memory.zp_read_range_big_endian.Reads as zp_read_range_big_endian_reads
use Rattle.zincpapaya.proofs.memory.zp_read_byte.Kinds as zp_read_byte_kinds
use Rattle.zincpapaya.proofs.memory.zp_read_byte.Reads as zp_read_byte_reads
use Rattle.zincpapaya.proofs.memory.zp_dynamic_len.Kinds as zp_dynamic_len_kinds
use Rattle.zincpapaya.proofs.memory.zp_dynamic_len.Reads as zp_dynamic_len_reads
use Rattle.zincpapaya.proofs.memory.zp_snapshot.Kinds as zp_snapshot_kinds
use Rattle.zincpapaya.proofs.memory.zp_snapshot.Reads as zp_snapshot_reads
use Rattle.zincpapaya.proofs.memory.zp_chunk.Kinds as zp_chunk_kinds
use Rattle.zincpapaya.proofs.memory.zp_chunk.Reads as zp_chunk_reads
use Rattle.zincpapaya.proofs.memory.zp_write_u256.Kinds as zp_write_u256_kinds
use Rattle.zincpapaya.proofs.memory.zp_write_u256.Reads as zp_write_u256_reads
use Rattle.zincpapaya.proofs.memory.zp_write_bytes.Kinds as zp_write_bytes_kinds
use Rattle.zincpapaya.proofs.memory.zp_write_bytes.Reads as zp_write_bytes_reads
use Rattle.zincpapaya.proofs.memory.zp_allocate_at.Kinds as zp_allocate_at_kinds
use Rattle.zincpapaya.proofs.memory.zp_allocate_at.Reads as zp_allocate_at_reads
use Rattle.zincpapaya.proofs.memory.zp_allocate_with_content_at.Kinds as zp_allocate_with_content_at_kinds
use Rattle.zincpapaya.proofs.memory.zp_allocate_with_content_at.Reads as zp_allocate_with_content_at_reads
use Rattle.zincpapaya.proofs.memory.zp_deallocate.Kinds as zp_deallocate_kinds
use Rattle.zincpapaya.proofs.memory.zp_deallocate.Reads as zp_deallocate_reads
use Rattle.zincpapaya.proofs.memory.zp_compact_to_window.Kinds as zp_compact_to_window_kinds
use Rattle.zincpapaya.proofs.memory.zp_compact_to_window.Reads as zp_compact_to_window_reads
use Rattle.zincpapaya.proofs.memory.zp_truncate_dynamic_to.Kinds as zp_truncate_dynamic_to_kinds
use Rattle.zincpapaya.proofs.memory.zp_truncate_dynamic_to.Reads as zp_truncate_dynamic_to_reads
use Rattle.zincpapaya.proofs.memory.zp_compare.Kinds as zp_compare_kinds
use Rattle.zincpapaya.proofs.memory.zp_compare.Reads as zp_compare_reads
use Rattle.zincpapaya.proofs.memory.zp_rollback.Kinds as zp_rollback_kinds
use Rattle.zincpapaya.proofs.memory.zp_rollback.Reads as zp_rollback_reads
use Rattle.zincpapaya.proofs.memory.zp_delete_history.Kinds as zp_delete_history_kinds
use Rattle.zincpapaya.proofs.memory.zp_delete_history.Reads as zp_delete_history_reads
use Rattle.zincpapaya.proofs.execute.zp_load.Kinds as zp_load_kinds
use Rattle.zincpapaya.proofs.execute.zp_load.Reads as zp_load_reads
use Rattle.zincpapaya.proofs.execute.zp_store.Kinds as zp_store_kinds
use Rattle.zincpapaya.proofs.execute.zp_store.Reads as zp_store_reads
use Rattle.zincpapaya.proofs.execute.zp_load_pointer.Kinds as zp_load_pointer_kinds
use Rattle.zincpapaya.proofs.execute.zp_load_pointer.Reads as zp_load_pointer_reads
use Rattle.zincpapaya.proofs.execute.zp_load_static.Kinds as zp_load_static_kinds
use Rattle.zincpapaya.proofs.execute.zp_load_static.Reads as zp_load_static_reads
use Rattle.zincpapaya.proofs.execute.zp_store_static.Kinds as zp_store_static_kinds
use Rattle.zincpapaya.proofs.execute.zp_store_static.Reads as zp_store_static_reads
use Rattle.lists.specs.Went.{Went, lent, lent_words, lent_bytes_words, lent_mut, rest, exits}

-- the part that a copying lookup with the status r shows: its output, or none where it is refused
abbrev pub copied_part : ℕ → List ℕ → List ℕ
copied_part r output = cond (eqb r 0) output []

-- THE STEPS of a host that links the library
pub data LinkedStep : Mem → Call → Outcome Value → Mem → Type 0 where
  did_zp_open :
      (w : Went zp_open_kinds.ps zp_open_kinds.r zp_open_reads.Asked zp_open_reads.Learnt) →
      LinkedStep
      (lent_mut w.args)
      (Open (setting_from (layout_from (rest w.args).0 (rest w.args).1.0 (rest w.args).1.1.0 (rest w.args).1.1.1.0 (rest w.args).1.1.1.1.0 (rest w.args).1.1.1.1.1.0) (rest w.args).1.1.1.1.1.1.0 (rest w.args).1.1.1.1.1.1.1.0 (rest w.args).1.1.1.1.1.1.1.1.0) (rest w.args).1.1.1.1.1.1.1.1.1.0.now)
      (answered w.result nothing)
      (lent_mut (exits w))
  did_zp_read_word :
      (w : Went zp_read_u256_kinds.ps zp_read_u256_kinds.r zp_read_u256_reads.Asked zp_read_u256_reads.Learnt) →
      length (rest w.args).1.1.0.now ≡ 4 →
      LinkedStep
      (lent w.args)
      (ReadWord (rest w.args).0 (rest w.args).1.0)
      (answered w.result (word_in (rest (exits w)).1.1.0.now))
      (lent (exits w))
  did_zp_read_partial :
      (w : Went zp_read_u256_partially_kinds.ps zp_read_u256_partially_kinds.r zp_read_u256_partially_reads.Asked zp_read_u256_partially_reads.Learnt) →
      length (rest w.args).1.1.1.0.now ≡ 5 →
      LinkedStep
      (lent w.args)
      (ReadPartial (rest w.args).0 (rest w.args).1.0 (rest w.args).1.1.0)
      (answered w.result (partial_in (rest (exits w)).1.1.1.0.now))
      (lent (exits w))
  did_zp_read_range :
      (w : Went zp_read_range_big_endian_kinds.ps zp_read_range_big_endian_kinds.r zp_read_range_big_endian_reads.Asked zp_read_range_big_endian_reads.Learnt) →
      LinkedStep
      (lent w.args)
      (ReadRange (rest w.args).0 (rest w.args).1.0 (rest w.args).1.1.0 (length (rest w.args).1.1.1.0.now))
      (answered w.result (bytes (rest (exits w)).1.1.1.0.now))
      (lent (exits w))
  did_zp_read_byte :
      (w : Went zp_read_byte_kinds.ps zp_read_byte_kinds.r zp_read_byte_reads.Asked zp_read_byte_reads.Learnt) →
      length (rest w.args).1.1.0.now ≡ 1 →
      LinkedStep
      (lent w.args)
      (ReadByte (rest w.args).0 (rest w.args).1.0)
      (answered w.result (number_in (rest (exits w)).1.1.0.now))
      (lent (exits w))
  did_zp_dynamic_length :
      (w : Went zp_dynamic_len_kinds.ps zp_dynamic_len_kinds.r zp_dynamic_len_reads.Asked zp_dynamic_len_reads.Learnt) →
      length (rest w.args).0.now ≡ 1 →
      LinkedStep
      (lent w.args)
      DynamicLength
      (answered w.result (number_in (rest (exits w)).0.now))
      (lent (exits w))
  did_zp_snapshot :
      (w : Went zp_snapshot_kinds.ps zp_snapshot_kinds.r zp_snapshot_reads.Asked zp_snapshot_reads.Learnt) →
      length (rest w.args).0.now ≡ 2 →
      LinkedStep
      (lent w.args)
      Snapshot
      (answered w.result (marks_in (rest (exits w)).0.now))
      (lent (exits w))
  -- a refused lookup shows an empty part
  did_zp_lookup :
      (w : Went zp_chunk_kinds.ps zp_chunk_kinds.r zp_chunk_reads.Asked zp_chunk_reads.Learnt) →
      length (rest w.args).1.1.1.0.now ≡ 256 →
      LinkedStep
      (lent w.args)
      (Lookup (rest w.args).0 (rest w.args).1.0 (rest w.args).1.1.0.now)
      (done (bytes (copied_part w.result (rest (exits w)).1.1.1.0.now)))
      (lent (exits w))
  did_zp_lookup_check :
      (w : Went zp_chunk_kinds.ps zp_chunk_kinds.r zp_chunk_reads.Asked zp_chunk_reads.Learnt) →
      length (rest w.args).1.1.1.0.now ≡ 256 →
      LinkedStep
      (lent w.args)
      (LookupCheck (rest w.args).0 (rest w.args).1.0 (rest w.args).1.1.0.now)
      (answered w.result nothing)
      (lent (exits w))
  did_zp_write_word :
      (w : Went zp_write_u256_kinds.ps zp_write_u256_kinds.r zp_write_u256_reads.Asked zp_write_u256_reads.Learnt) →
      LinkedStep
      (lent_mut w.args)
      (WriteWord (rest w.args).0 (rest w.args).1.0 (limbs_value (rest w.args).1.1.0 (rest w.args).1.1.1.0 (rest w.args).1.1.1.1.0 (rest w.args).1.1.1.1.1.0))
      (answered w.result nothing)
      (lent_mut (exits w))
  did_zp_write_bytes :
      (w : Went zp_write_bytes_kinds.ps zp_write_bytes_kinds.r zp_write_bytes_reads.Asked zp_write_bytes_reads.Learnt) →
      LinkedStep
      (lent_mut w.args)
      (WriteBytes (rest w.args).0 (rest w.args).1.0 (rest w.args).1.1.0.now)
      (answered w.result nothing)
      (lent_mut (exits w))
  did_zp_allocate :
      (w : Went zp_allocate_at_kinds.ps zp_allocate_at_kinds.r zp_allocate_at_reads.Asked zp_allocate_at_reads.Learnt) →
      LinkedStep
      (lent_mut w.args)
      (Allocate (rest w.args).0 [])
      (answered w.result nothing)
      (lent_mut (exits w))
  did_zp_allocate_with :
      (w : Went zp_allocate_with_content_at_kinds.ps zp_allocate_with_content_at_kinds.r zp_allocate_with_content_at_reads.Asked zp_allocate_with_content_at_reads.Learnt) →
      LinkedStep
      (lent_mut w.args)
      (Allocate (rest w.args).0 (rest w.args).1.0.now)
      (answered w.result nothing)
      (lent_mut (exits w))
  did_zp_free :
      (w : Went zp_deallocate_kinds.ps zp_deallocate_kinds.r zp_deallocate_reads.Asked zp_deallocate_reads.Learnt) →
      LinkedStep
      (lent_mut w.args)
      (Free (rest w.args).0)
      (answered w.result nothing)
      (lent_mut (exits w))
  did_zp_window :
      (w : Went zp_compact_to_window_kinds.ps zp_compact_to_window_kinds.r zp_compact_to_window_reads.Asked zp_compact_to_window_reads.Learnt) →
      LinkedStep
      (lent_mut w.args)
      (Window (rest w.args).0 (rest w.args).1.0 (rest w.args).1.1.0)
      (answered w.result nothing)
      (lent_mut (exits w))
  did_zp_truncate :
      (w : Went zp_truncate_dynamic_to_kinds.ps zp_truncate_dynamic_to_kinds.r zp_truncate_dynamic_to_reads.Asked zp_truncate_dynamic_to_reads.Learnt) →
      LinkedStep
      (lent_mut w.args)
      (Truncate (rest w.args).0)
      (answered w.result nothing)
      (lent_mut (exits w))
  -- a comparison is lent two memories; this one is the left, the right, or both
  did_zp_compare_left :
      (w : Went zp_compare_kinds.ps zp_compare_kinds.r zp_compare_reads.Asked zp_compare_reads.Learnt) →
      length (rest (rest w.args)).0.now ≡ 1 →
      LinkedStep
      (lent w.args)
      (CompareLeft (lent (rest w.args)))
      (answered w.result (verdict_in (rest (rest (exits w))).0.now))
      (lent (exits w))
  did_zp_compare_right :
      (w : Went zp_compare_kinds.ps zp_compare_kinds.r zp_compare_reads.Asked zp_compare_reads.Learnt) →
      length (rest (rest w.args)).0.now ≡ 1 →
      LinkedStep
      (lent (rest w.args))
      (CompareRight (lent w.args))
      (answered w.result (verdict_in (rest (rest (exits w))).0.now))
      (lent (rest (exits w)))
  did_zp_compare_both :
      (w : Went zp_compare_kinds.ps zp_compare_kinds.r zp_compare_reads.Asked zp_compare_reads.Learnt) →
      length (rest (rest w.args)).0.now ≡ 1 →
      lent (rest w.args) ≡ lent w.args →
      LinkedStep
      (lent w.args)
      CompareBoth
      (answered w.result (verdict_in (rest (rest (exits w))).0.now))
      (lent (exits w))
  did_zp_rollback :
      (w : Went zp_rollback_kinds.ps zp_rollback_kinds.r zp_rollback_reads.Asked zp_rollback_reads.Learnt) →
      LinkedStep
      (lent_bytes_words w.args)
      (Rollback (rest w.args).0 (rest w.args).1.0)
      (answered w.result nothing)
      (lent_bytes_words (exits w))
  did_zp_delete_history :
      (w : Went zp_delete_history_kinds.ps zp_delete_history_kinds.r zp_delete_history_reads.Asked zp_delete_history_reads.Learnt) →
      LinkedStep
      (lent_words w.args)
      DeleteHistory
      (answered w.result nothing)
      (lent_words (exits w))
  -- the frame has six numbers, and registers 65
  did_zp_load :
      (w : Went zp_load_kinds.ps zp_load_kinds.r zp_load_reads.Asked zp_load_reads.Learnt) →
      fit (rest w.args).0.now (rest w.args).1.0.now 65 ≡ true →
      LinkedStep
      (lent w.args)
      (Load (area_of (rest w.args).1.1.0) (frame_from (rest w.args).0.now) (registers_from (rest w.args).1.0.now) (load_places_from (rest w.args).1.1.1.0 (rest w.args).1.1.1.1.0 (rest w.args).1.1.1.1.1.0 (rest w.args).1.1.1.1.1.1.0))
      (outcome_from executed w.result 0 (rest (exits w)).0.now (rest (exits w)).1.0.now)
      (lent (exits w))
  -- and the output of a store, or of a pointer load, has one number
  did_zp_store :
      (w : Went zp_store_kinds.ps zp_store_kinds.r zp_store_reads.Asked zp_store_reads.Learnt) →
      (fit (rest w.args).0.now (rest w.args).1.0.now 65 && eqb (length (rest w.args).1.1.1.1.1.1.1.1.1.1.1.0.now) 1) ≡ true →
      LinkedStep
      (lent_mut w.args)
      (Store (area_of (rest w.args).1.1.0) (frame_from (rest w.args).0.now) (registers_from (rest w.args).1.0.now) (store_places_from (rest w.args).1.1.1.0 (rest w.args).1.1.1.1.0 (rest w.args).1.1.1.1.1.0 (rest w.args).1.1.1.1.1.1.0 (rest w.args).1.1.1.1.1.1.1.0) (rest w.args).1.1.1.1.1.1.1.1.0 (hook_from (rest w.args).1.1.1.1.1.1.1.1.1.0 (rest w.args).1.1.1.1.1.1.1.1.1.1.0))
      (outcome_from executed w.result (get_or (rest (exits w)).1.1.1.1.1.1.1.1.1.1.1.0.now 0 0) (rest (exits w)).0.now (rest (exits w)).1.0.now)
      (lent_mut (exits w))
  did_zp_load_pointer :
      (w : Went zp_load_pointer_kinds.ps zp_load_pointer_kinds.r zp_load_pointer_reads.Asked zp_load_pointer_reads.Learnt) →
      (fit (rest w.args).0.now (rest w.args).1.0.now 65 && eqb (length (rest w.args).1.1.1.1.1.1.0.now) 1) ≡ true →
      LinkedStep
      (lent w.args)
      (LoadPointer (frame_from (rest w.args).0.now) (registers_from (rest w.args).1.0.now) (load_places_from (rest w.args).1.1.0 (rest w.args).1.1.1.0 (rest w.args).1.1.1.1.0 (rest w.args).1.1.1.1.1.0))
      (outcome_from (pointer_value (rest (exits w)).1.1.1.1.1.1.0.now) w.result 0 (rest (exits w)).0.now (rest (exits w)).1.0.now)
      (lent (exits w))
  did_zp_load_static :
      (w : Went zp_load_static_kinds.ps zp_load_static_kinds.r zp_load_static_reads.Asked zp_load_static_reads.Learnt) →
      fit (rest w.args).0.now (rest w.args).1.0.now 65 ≡ true →
      LinkedStep
      (lent w.args)
      (LoadStatic (frame_from (rest w.args).0.now) (registers_from (rest w.args).1.0.now) (load_places_from (rest w.args).1.1.0 (rest w.args).1.1.1.0 (rest w.args).1.1.1.1.0 (rest w.args).1.1.1.1.1.0))
      (outcome_from executed w.result 0 (rest (exits w)).0.now (rest (exits w)).1.0.now)
      (lent (exits w))
  did_zp_store_static :
      (w : Went zp_store_static_kinds.ps zp_store_static_kinds.r zp_store_static_reads.Asked zp_store_static_reads.Learnt) →
      fit (rest w.args).0.now (rest w.args).1.0.now 65 ≡ true →
      LinkedStep
      (lent_mut w.args)
      (StoreStatic (frame_from (rest w.args).0.now) (registers_from (rest w.args).1.0.now) (store_places_from (rest w.args).1.1.0 (rest w.args).1.1.1.0 (rest w.args).1.1.1.1.0 (rest w.args).1.1.1.1.1.0 (rest w.args).1.1.1.1.1.1.0) (rest w.args).1.1.1.1.1.1.1.0)
      (outcome_from executed w.result 0 (rest (exits w)).0.now (rest (exits w)).1.0.now)
      (lent_mut (exits w))
