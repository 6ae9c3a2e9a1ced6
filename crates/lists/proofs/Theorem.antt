-- THE THEOREM about every list of calls of the code.
-- Assumes nothing.
use Rattle.opening.proofs.open.Met as open_met
use Rattle.reads.proofs.read_u256.Met as word_met
use Rattle.reads.proofs.read_u256_partially.Met as partial_met
use Rattle.reads.proofs.read_range_big_endian.Met as range_met
use Rattle.reads.proofs.read_byte.Met as byte_met
use Rattle.reads.proofs.dynamic_len.Met as length_met
use Rattle.reads.proofs.snapshot.Met as snapshot_met
use Rattle.reads.proofs.chunk.Met as chunk_met
use Rattle.reads.proofs.chunk_check.Met as check_met
use Rattle.writes.proofs.write_u256.Met as write_met
use Rattle.writes.proofs.write_bytes.Met as put_met
use Rattle.writes.proofs.allocate_at.Met as allocate_met
use Rattle.writes.proofs.allocate_with_content_at.Met as fill_met
use Rattle.freeing.proofs.deallocate.Met as free_met
use Rattle.freeing.proofs.compact_to_window.Met as window_met
use Rattle.freeing.proofs.truncate_dynamic_to.Met as truncate_met
use Rattle.compare.proofs.compare.Met as compare_met
use Rattle.history.proofs.rollback.Met as rollback_met
use Rattle.history.proofs.delete_history.Met as delete_met
use Rattle.instructions.proofs.load.Met as load_met
use Rattle.instructions.proofs.store.Met as store_met
use Rattle.instructions.proofs.load_pointer.Met as pointer_met
use Rattle.instructions.proofs.load_static.Met as load_static_met
use Rattle.instructions.proofs.store_static.Met as store_static_met
use Rattle.zincpapaya.proofs.memory.zp_open.Met as zp_open_met
use Rattle.zincpapaya.proofs.memory.zp_read_u256.Met as zp_read_u256_met
use Rattle.zincpapaya.proofs.memory.zp_read_u256_partially.Met as zp_read_u256_partially_met
use Rattle.zincpapaya.proofs.memory.zp_read_range_big_endian.Met as zp_read_range_big_endian_met
use Rattle.zincpapaya.proofs.memory.zp_read_byte.Met as zp_read_byte_met
use Rattle.zincpapaya.proofs.memory.zp_dynamic_len.Met as zp_dynamic_len_met
use Rattle.zincpapaya.proofs.memory.zp_snapshot.Met as zp_snapshot_met
use Rattle.zincpapaya.proofs.memory.zp_chunk.Met as zp_chunk_met
use Rattle.zincpapaya.proofs.memory.zp_write_u256.Met as zp_write_u256_met
use Rattle.zincpapaya.proofs.memory.zp_write_bytes.Met as zp_write_bytes_met
use Rattle.zincpapaya.proofs.memory.zp_allocate_at.Met as zp_allocate_at_met
use Rattle.zincpapaya.proofs.memory.zp_allocate_with_content_at.Met as zp_allocate_with_content_at_met
use Rattle.zincpapaya.proofs.memory.zp_deallocate.Met as zp_deallocate_met
use Rattle.zincpapaya.proofs.memory.zp_compact_to_window.Met as zp_compact_to_window_met
use Rattle.zincpapaya.proofs.memory.zp_truncate_dynamic_to.Met as zp_truncate_dynamic_to_met
use Rattle.zincpapaya.proofs.memory.zp_compare.Met as zp_compare_met
use Rattle.zincpapaya.proofs.memory.zp_rollback.Met as zp_rollback_met
use Rattle.zincpapaya.proofs.memory.zp_delete_history.Met as zp_delete_history_met
use Rattle.zincpapaya.proofs.execute.zp_load.Met as zp_load_met
use Rattle.zincpapaya.proofs.execute.zp_store.Met as zp_store_met
use Rattle.zincpapaya.proofs.execute.zp_load_pointer.Met as zp_load_pointer_met
use Rattle.zincpapaya.proofs.execute.zp_load_static.Met as zp_load_static_met
use Rattle.zincpapaya.proofs.execute.zp_store_static.Met as zp_store_static_met
use Rattle.owned.proofs.memory.own_well_formed.Met as own_well_formed_met
use Rattle.owned.proofs.memory.own_open.Met as own_open_met
use Rattle.owned.proofs.memory.own_read_u256.Met as own_read_u256_met
use Rattle.owned.proofs.memory.own_read_u256_partially.Met as own_read_u256_partially_met
use Rattle.owned.proofs.memory.own_read_range_big_endian.Met as own_read_range_big_endian_met
use Rattle.owned.proofs.memory.own_read_byte.Met as own_read_byte_met
use Rattle.owned.proofs.memory.own_dynamic_len.Met as own_dynamic_len_met
use Rattle.owned.proofs.memory.own_snapshot.Met as own_snapshot_met
use Rattle.owned.proofs.memory.own_chunk.Met as own_chunk_met
use Rattle.owned.proofs.memory.own_write_u256.Met as own_write_u256_met
use Rattle.owned.proofs.memory.own_write_bytes.Met as own_write_bytes_met
use Rattle.owned.proofs.memory.own_allocate_at.Met as own_allocate_at_met
use Rattle.owned.proofs.memory.own_allocate_with_content_at.Met as own_allocate_with_content_at_met
use Rattle.owned.proofs.memory.own_deallocate.Met as own_deallocate_met
use Rattle.owned.proofs.memory.own_compact_to_window.Met as own_compact_to_window_met
use Rattle.owned.proofs.memory.own_truncate_dynamic_to.Met as own_truncate_dynamic_to_met
use Rattle.owned.proofs.memory.own_compare.Met as own_compare_met
use Rattle.owned.proofs.memory.own_rollback.Met as own_rollback_met
use Rattle.owned.proofs.memory.own_delete_history.Met as own_delete_history_met
use Rattle.owned.proofs.execute.own_load.Met as own_load_met
use Rattle.owned.proofs.execute.own_store.Met as own_store_met
use Rattle.owned.proofs.execute.own_load_pointer.Met as own_load_pointer_met
use Rattle.owned.proofs.execute.own_load_static.Met as own_load_static_met
use Rattle.owned.proofs.execute.own_store_static.Met as own_store_static_met
use Rattle.plain.specs.Claim.{Claim}
use Rattle.plain.proofs.Theorem.{claim}
use Rattle.lists.specs.Steps.{Step}
use Rattle.lists.specs.Demand.{Demand}
use Rattle.lists.proofs.Owned.{ready_of}
use Rattle.lists.proofs.Contracts.{contracts}
use Rattle.lists.proofs.Next.{not_empty}
use Rattle.lists.proofs.Rules.{rules}

pub theorem : Claim Step
theorem = claim Step contracts

-- the whole demand: no hypothesis is left
pub demand : Demand
demand = record {
  «open» = λ {M}. open_met.met {M = M};
  read_u256 = λ {M}. word_met.met {M = M};
  read_u256_partially = λ {M}. partial_met.met {M = M};
  read_range_big_endian = λ {M}. range_met.met {M = M};
  read_byte = λ {M}. byte_met.met {M = M};
  dynamic_len = λ {M}. length_met.met {M = M};
  chunk = λ {M}. chunk_met.met {M = M};
  chunk_check = λ {M}. check_met.met {M = M};
  snapshot = λ {M}. snapshot_met.met {M = M};
  write_u256 = λ {M}. write_met.met {M = M};
  write_bytes = λ {M}. put_met.met {M = M};
  allocate_at = λ {M}. allocate_met.met {M = M};
  allocate_with_content_at = λ {M}. fill_met.met {M = M};
  deallocate = λ {M}. free_met.met {M = M};
  compact_to_window = λ {M}. window_met.met {M = M};
  truncate_dynamic_to = λ {M}. truncate_met.met {M = M};
  compare = λ {M}. compare_met.met {M = M};
  rollback = λ {M}. rollback_met.met {M = M};
  delete_history = λ {M}. delete_met.met {M = M};
  load = λ {M}. load_met.met {M = M};
  store = λ {M}. store_met.met {M = M};
  load_pointer = λ {M}. pointer_met.met {M = M};
  load_static = λ {M}. load_static_met.met {M = M};
  store_static = λ {M}. store_static_met.met {M = M};
  zp_open = λ {M}. zp_open_met.met {M = M};
  zp_read_u256 = λ {M}. zp_read_u256_met.met {M = M};
  zp_read_u256_partially = λ {M}. zp_read_u256_partially_met.met {M = M};
  zp_read_range_big_endian = λ {M}. zp_read_range_big_endian_met.met {M = M};
  zp_read_byte = λ {M}. zp_read_byte_met.met {M = M};
  zp_dynamic_len = λ {M}. zp_dynamic_len_met.met {M = M};
  zp_snapshot = λ {M}. zp_snapshot_met.met {M = M};
  zp_chunk = λ {M}. zp_chunk_met.met {M = M};
  zp_write_u256 = λ {M}. zp_write_u256_met.met {M = M};
  zp_write_bytes = λ {M}. zp_write_bytes_met.met {M = M};
  zp_allocate_at = λ {M}. zp_allocate_at_met.met {M = M};
  zp_allocate_with_content_at = λ {M}. zp_allocate_with_content_at_met.met {M = M};
  zp_deallocate = λ {M}. zp_deallocate_met.met {M = M};
  zp_compact_to_window = λ {M}. zp_compact_to_window_met.met {M = M};
  zp_truncate_dynamic_to = λ {M}. zp_truncate_dynamic_to_met.met {M = M};
  zp_compare = λ {M}. zp_compare_met.met {M = M};
  zp_rollback = λ {M}. zp_rollback_met.met {M = M};
  zp_delete_history = λ {M}. zp_delete_history_met.met {M = M};
  zp_load = λ {M}. zp_load_met.met {M = M};
  zp_store = λ {M}. zp_store_met.met {M = M};
  zp_load_pointer = λ {M}. zp_load_pointer_met.met {M = M};
  zp_load_static = λ {M}. zp_load_static_met.met {M = M};
  zp_store_static = λ {M}. zp_store_static_met.met {M = M};
  own_well_formed = λ {M}. own_well_formed_met.met {M = M};
  own_open = λ {M}. own_open_met.met {M = M};
  own_read_u256 = λ {M}. own_read_u256_met.met {M = M};
  own_read_u256_partially = λ {M}. own_read_u256_partially_met.met {M = M};
  own_read_range_big_endian = λ {M}. own_read_range_big_endian_met.met {M = M};
  own_read_byte = λ {M}. own_read_byte_met.met {M = M};
  own_dynamic_len = λ {M}. own_dynamic_len_met.met {M = M};
  own_snapshot = λ {M}. own_snapshot_met.met {M = M};
  own_chunk = λ {M}. own_chunk_met.met {M = M};
  own_write_u256 = λ {M}. own_write_u256_met.met {M = M};
  own_write_bytes = λ {M}. own_write_bytes_met.met {M = M};
  own_allocate_at = λ {M}. own_allocate_at_met.met {M = M};
  own_allocate_with_content_at = λ {M}. own_allocate_with_content_at_met.met {M = M};
  own_deallocate = λ {M}. own_deallocate_met.met {M = M};
  own_compact_to_window = λ {M}. own_compact_to_window_met.met {M = M};
  own_truncate_dynamic_to = λ {M}. own_truncate_dynamic_to_met.met {M = M};
  own_compare = λ {M}. own_compare_met.met {M = M};
  own_rollback = λ {M}. own_rollback_met.met {M = M};
  own_delete_history = λ {M}. own_delete_history_met.met {M = M};
  own_load = λ {M}. own_load_met.met {M = M};
  own_store = λ {M}. own_store_met.met {M = M};
  own_load_pointer = λ {M}. own_load_pointer_met.met {M = M};
  own_load_static = λ {M}. own_load_static_met.met {M = M};
  own_store_static = λ {M}. own_store_static_met.met {M = M};
  claim = theorem;
  not_empty = not_empty;
  ready = λ first run. ready_of _ (theorem.lists first run).shows.formed;
  rules = rules;
}
