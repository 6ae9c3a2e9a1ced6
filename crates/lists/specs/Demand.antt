-- THE DEMAND in one type: each public function, and each function that a host links and that takes a memory, meets its contract, for every model of the logic, the claim holds of every
-- list of calls that those contracts allow, there are such lists, and the definitions that the contracts cite have the rules of 01.
-- Assumes nothing.
use Rattle.opening.proofs.open.Statement as open_says
use Rattle.reads.proofs.read_u256.Statement as word_says
use Rattle.reads.proofs.read_u256_partially.Statement as partial_says
use Rattle.reads.proofs.read_range_big_endian.Statement as range_says
use Rattle.reads.proofs.read_byte.Statement as byte_says
use Rattle.reads.proofs.dynamic_len.Statement as length_says
use Rattle.reads.proofs.snapshot.Statement as snapshot_says
use Rattle.reads.proofs.chunk.Statement as chunk_says
use Rattle.reads.proofs.chunk_check.Statement as check_says
use Rattle.writes.proofs.write_u256.Statement as write_says
use Rattle.writes.proofs.write_bytes.Statement as put_says
use Rattle.writes.proofs.allocate_at.Statement as allocate_says
use Rattle.writes.proofs.allocate_with_content_at.Statement as fill_says
use Rattle.freeing.proofs.deallocate.Statement as free_says
use Rattle.freeing.proofs.compact_to_window.Statement as window_says
use Rattle.freeing.proofs.truncate_dynamic_to.Statement as truncate_says
use Rattle.compare.proofs.compare.Statement as compare_says
use Rattle.history.proofs.rollback.Statement as rollback_says
use Rattle.history.proofs.delete_history.Statement as delete_says
use Rattle.instructions.proofs.load.Statement as load_says
use Rattle.instructions.proofs.store.Statement as store_says
use Rattle.instructions.proofs.load_pointer.Statement as pointer_says
use Rattle.instructions.proofs.load_static.Statement as load_static_says
use Rattle.instructions.proofs.store_static.Statement as store_static_says
use Rattle.zincpapaya.proofs.memory.zp_open.Statement as zp_open_says
use Rattle.zincpapaya.proofs.memory.zp_read_u256.Statement as zp_read_u256_says
use Rattle.zincpapaya.proofs.memory.zp_read_u256_partially.Statement as zp_read_u256_partially_says
use Rattle.zincpapaya.proofs.memory.zp_read_range_big_endian.Statement as zp_read_range_big_endian_says
use Rattle.zincpapaya.proofs.memory.zp_read_byte.Statement as zp_read_byte_says
use Rattle.zincpapaya.proofs.memory.zp_dynamic_len.Statement as zp_dynamic_len_says
use Rattle.zincpapaya.proofs.memory.zp_snapshot.Statement as zp_snapshot_says
use Rattle.zincpapaya.proofs.memory.zp_chunk.Statement as zp_chunk_says
use Rattle.zincpapaya.proofs.memory.zp_write_u256.Statement as zp_write_u256_says
use Rattle.zincpapaya.proofs.memory.zp_write_bytes.Statement as zp_write_bytes_says
use Rattle.zincpapaya.proofs.memory.zp_allocate_at.Statement as zp_allocate_at_says
use Rattle.zincpapaya.proofs.memory.zp_allocate_with_content_at.Statement as zp_allocate_with_content_at_says
use Rattle.zincpapaya.proofs.memory.zp_deallocate.Statement as zp_deallocate_says
use Rattle.zincpapaya.proofs.memory.zp_compact_to_window.Statement as zp_compact_to_window_says
use Rattle.zincpapaya.proofs.memory.zp_truncate_dynamic_to.Statement as zp_truncate_dynamic_to_says
use Rattle.zincpapaya.proofs.memory.zp_compare.Statement as zp_compare_says
use Rattle.zincpapaya.proofs.memory.zp_rollback.Statement as zp_rollback_says
use Rattle.zincpapaya.proofs.memory.zp_delete_history.Statement as zp_delete_history_says
use Rattle.zincpapaya.proofs.execute.zp_load.Statement as zp_load_says
use Rattle.zincpapaya.proofs.execute.zp_store.Statement as zp_store_says
use Rattle.zincpapaya.proofs.execute.zp_load_pointer.Statement as zp_load_pointer_says
use Rattle.zincpapaya.proofs.execute.zp_load_static.Statement as zp_load_static_says
use Rattle.zincpapaya.proofs.execute.zp_store_static.Statement as zp_store_static_says
use Rattle.owned.proofs.memory.own_well_formed.Statement as own_well_formed_says
use Rattle.owned.proofs.memory.own_open.Statement as own_open_says
use Rattle.owned.proofs.memory.own_read_u256.Statement as own_read_u256_says
use Rattle.owned.proofs.memory.own_read_u256_partially.Statement as own_read_u256_partially_says
use Rattle.owned.proofs.memory.own_read_range_big_endian.Statement as own_read_range_big_endian_says
use Rattle.owned.proofs.memory.own_read_byte.Statement as own_read_byte_says
use Rattle.owned.proofs.memory.own_dynamic_len.Statement as own_dynamic_len_says
use Rattle.owned.proofs.memory.own_snapshot.Statement as own_snapshot_says
use Rattle.owned.proofs.memory.own_chunk.Statement as own_chunk_says
use Rattle.owned.proofs.memory.own_write_u256.Statement as own_write_u256_says
use Rattle.owned.proofs.memory.own_write_bytes.Statement as own_write_bytes_says
use Rattle.owned.proofs.memory.own_allocate_at.Statement as own_allocate_at_says
use Rattle.owned.proofs.memory.own_allocate_with_content_at.Statement as own_allocate_with_content_at_says
use Rattle.owned.proofs.memory.own_deallocate.Statement as own_deallocate_says
use Rattle.owned.proofs.memory.own_compact_to_window.Statement as own_compact_to_window_says
use Rattle.owned.proofs.memory.own_truncate_dynamic_to.Statement as own_truncate_dynamic_to_says
use Rattle.owned.proofs.memory.own_compare.Statement as own_compare_says
use Rattle.owned.proofs.memory.own_rollback.Statement as own_rollback_says
use Rattle.owned.proofs.memory.own_delete_history.Statement as own_delete_history_says
use Rattle.owned.proofs.execute.own_load.Statement as own_load_says
use Rattle.owned.proofs.execute.own_store.Statement as own_store_says
use Rattle.owned.proofs.execute.own_load_pointer.Statement as own_load_pointer_says
use Rattle.owned.proofs.execute.own_load_static.Statement as own_load_static_says
use Rattle.owned.proofs.execute.own_store_static.Statement as own_store_static_says
use Rattle.store.specs.Mem.{Mem}
use Rattle.view.specs.View.{Setting}
use Rattle.plain.specs.Plain.{Plain}
use Rattle.plain.specs.Claim.{Claim, Started, Run, Any}
use Rattle.lists.specs.Owned.{Ready}
use Rattle.lists.specs.Steps.{Step}
use Rattle.lists.specs.Goes.{NotEmpty}
use Rattle.lists.specs.Rules.{Rules}

pub record Demand : Type 3 where
  pub «open» : {M : Type 1} → open_says.statement M
  pub read_u256 : {M : Type 1} → word_says.statement M
  pub read_u256_partially : {M : Type 1} → partial_says.statement M
  pub read_range_big_endian : {M : Type 1} → range_says.statement M
  pub read_byte : {M : Type 1} → byte_says.statement M
  pub dynamic_len : {M : Type 1} → length_says.statement M
  pub chunk : {M : Type 1} → chunk_says.statement M
  pub chunk_check : {M : Type 1} → check_says.statement M
  pub snapshot : {M : Type 1} → snapshot_says.statement M
  pub write_u256 : {M : Type 1} → write_says.statement M
  pub write_bytes : {M : Type 1} → put_says.statement M
  pub allocate_at : {M : Type 1} → allocate_says.statement M
  pub allocate_with_content_at : {M : Type 1} → fill_says.statement M
  pub deallocate : {M : Type 1} → free_says.statement M
  pub compact_to_window : {M : Type 1} → window_says.statement M
  pub truncate_dynamic_to : {M : Type 1} → truncate_says.statement M
  pub compare : {M : Type 1} → compare_says.statement M
  pub rollback : {M : Type 1} → rollback_says.statement M
  pub delete_history : {M : Type 1} → delete_says.statement M
  pub load : {M : Type 1} → load_says.statement M
  pub store : {M : Type 1} → store_says.statement M
  pub load_pointer : {M : Type 1} → pointer_says.statement M
  pub load_static : {M : Type 1} → load_static_says.statement M
  pub store_static : {M : Type 1} → store_static_says.statement M
  -- ---- the functions of include/zincpapaya.h that are lent a memory
  pub zp_open : {M : Type 1} → zp_open_says.statement M
  pub zp_read_u256 : {M : Type 1} → zp_read_u256_says.statement M
  pub zp_read_u256_partially : {M : Type 1} → zp_read_u256_partially_says.statement M
  pub zp_read_range_big_endian : {M : Type 1} → zp_read_range_big_endian_says.statement M
  pub zp_read_byte : {M : Type 1} → zp_read_byte_says.statement M
  pub zp_dynamic_len : {M : Type 1} → zp_dynamic_len_says.statement M
  pub zp_snapshot : {M : Type 1} → zp_snapshot_says.statement M
  pub zp_chunk : {M : Type 1} → zp_chunk_says.statement M
  pub zp_write_u256 : {M : Type 1} → zp_write_u256_says.statement M
  pub zp_write_bytes : {M : Type 1} → zp_write_bytes_says.statement M
  pub zp_allocate_at : {M : Type 1} → zp_allocate_at_says.statement M
  pub zp_allocate_with_content_at : {M : Type 1} → zp_allocate_with_content_at_says.statement M
  pub zp_deallocate : {M : Type 1} → zp_deallocate_says.statement M
  pub zp_compact_to_window : {M : Type 1} → zp_compact_to_window_says.statement M
  pub zp_truncate_dynamic_to : {M : Type 1} → zp_truncate_dynamic_to_says.statement M
  pub zp_compare : {M : Type 1} → zp_compare_says.statement M
  pub zp_rollback : {M : Type 1} → zp_rollback_says.statement M
  pub zp_delete_history : {M : Type 1} → zp_delete_history_says.statement M
  pub zp_load : {M : Type 1} → zp_load_says.statement M
  pub zp_store : {M : Type 1} → zp_store_says.statement M
  pub zp_load_pointer : {M : Type 1} → zp_load_pointer_says.statement M
  pub zp_load_static : {M : Type 1} → zp_load_static_says.statement M
  pub zp_store_static : {M : Type 1} → zp_store_static_says.statement M
  -- ---- the functions that the Rust crate links for a memory that it owns
  -- the test, which is no call of a list
  pub own_well_formed : {M : Type 1} → own_well_formed_says.statement M
  pub own_open : {M : Type 1} → own_open_says.statement M
  pub own_read_u256 : {M : Type 1} → own_read_u256_says.statement M
  pub own_read_u256_partially : {M : Type 1} → own_read_u256_partially_says.statement M
  pub own_read_range_big_endian : {M : Type 1} → own_read_range_big_endian_says.statement M
  pub own_read_byte : {M : Type 1} → own_read_byte_says.statement M
  pub own_dynamic_len : {M : Type 1} → own_dynamic_len_says.statement M
  pub own_snapshot : {M : Type 1} → own_snapshot_says.statement M
  pub own_chunk : {M : Type 1} → own_chunk_says.statement M
  pub own_write_u256 : {M : Type 1} → own_write_u256_says.statement M
  pub own_write_bytes : {M : Type 1} → own_write_bytes_says.statement M
  pub own_allocate_at : {M : Type 1} → own_allocate_at_says.statement M
  pub own_allocate_with_content_at : {M : Type 1} → own_allocate_with_content_at_says.statement M
  pub own_deallocate : {M : Type 1} → own_deallocate_says.statement M
  pub own_compact_to_window : {M : Type 1} → own_compact_to_window_says.statement M
  pub own_truncate_dynamic_to : {M : Type 1} → own_truncate_dynamic_to_says.statement M
  pub own_compare : {M : Type 1} → own_compare_says.statement M
  pub own_rollback : {M : Type 1} → own_rollback_says.statement M
  pub own_delete_history : {M : Type 1} → own_delete_history_says.statement M
  pub own_load : {M : Type 1} → own_load_says.statement M
  pub own_store : {M : Type 1} → own_store_says.statement M
  pub own_load_pointer : {M : Type 1} → own_load_pointer_says.statement M
  pub own_load_static : {M : Type 1} → own_load_static_says.statement M
  pub own_store_static : {M : Type 1} → own_store_static_says.statement M
  -- ---- every list of their calls, mixed at will
  pub claim : Claim Step
  pub not_empty : NotEmpty
  -- after every list from an accepted opening each owned call may be made
  pub ready : {s : Setting} {start m : Mem} {p₀ p : Plain} → Started Step s start p₀ → Run Step Any s start p₀ m p → Ready m
  pub rules : Rules
