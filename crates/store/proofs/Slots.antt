-- The part of the slots: what the calls on it ask, and what their answers say.
-- Assumes nothing.
use Rattle.std.proofs.Common.{◌≡◌, ℕ, ◌+◌, ◌-◌, ◌<◌, ◌≤◌, true, List, length, get_or, take, sym, ap, ◌∙◌, arith, length-take-le, get_or-take}
use Rattle.index.specs.Index.{indexed, seek, LowerBound}
use Rattle.index.proofs.Orders.{index_fits, index_count, index_rises}
use Rattle.index.proofs.Places.{place_at, seek_le, rank_next, rank_same}
use Rattle.store.specs.Mem.{slot_count, held_now}
use Rattle.store.specs.Indexed.{Indexed, Ranked}
use Rattle.store.proofs.Parts.{sub_zero}

module _ (keys order words : List ℕ) (ix : Indexed keys order words) where
  pub part_index : indexed (take (slot_count words - 0) keys) (take (slot_count words - 0) order) (held_now words) ≡ true
  part_index = rw (sub_zero (slot_count words)) ix.index

  pub part_fits : held_now words ≤ length (take (slot_count words - 0) order)
  part_fits = index_fits (take (slot_count words - 0) keys) (take (slot_count words - 0) order) (held_now words) part_index

  pub part_seek : (s k : ℕ) → s ≡ seek (take (slot_count words - 0) keys) k → s ≡ seek (take (slot_count words) keys) k
  part_seek s k e = e ∙ ap (λ (x : ℕ). seek (take x keys) k) (sub_zero (slot_count words))

  pub part_rank : (k at : ℕ) → Ranked keys order words k at → LowerBound (take (slot_count words - 0) keys) (take (slot_count words - 0) order) (held_now words) k at
  part_rank k at r = rw (sub_zero (slot_count words)) r

  pub rank_part : (k at : ℕ) → LowerBound (take (slot_count words - 0) keys) (take (slot_count words - 0) order) (held_now words) k at → Ranked keys order words k at
  rank_part k at r = rw (sub_zero (slot_count words)) at r

  -- the rank of the next key, where a slot has this one and where none has
  module _ (k at : ℕ) (pos : 0 < k) (r : Ranked keys order words k at) where
    pub ranked_next : seek (take (slot_count words) keys) k < slot_count words → Ranked keys order words (k + 1) (at + 1)
    ranked_next l = rank_next (take (slot_count words) keys) (take (slot_count words) order) (held_now words) k at ix.index pos r (let n = length-take-le (slot_count words) keys ix.in_keys in omega arith)

    pub ranked_same : slot_count words ≤ seek (take (slot_count words) keys) k → Ranked keys order words (k + 1) at
    ranked_same l = rank_same (take (slot_count words) keys) (take (slot_count words) order) (held_now words) k at ix.index pos r (let n = length-take-le (slot_count words) keys ix.in_keys in omega arith)

  -- a slot that has a key is the key's
  pub slot_of_key : (k s : ℕ) → 0 < k → (s < slot_count words) × (get_or keys s 0 ≡ k) → s ≡ seek (take (slot_count words) keys) k
  slot_of_key k s pos t =
      let l = t.0 in
      let n = length-take-le (slot_count words) keys ix.in_keys in
      sym (place_at (take (slot_count words) keys) (take (slot_count words) order) (held_now words) (index_rises _ _ _ ix.index) (index_count _ _ _ ix.index) k pos s (omega arith) (get_or-take (slot_count words) keys s 0 l ∙ t.1))

  -- no slot is past the last
  pub slot_few : (k : ℕ) → seek (take (slot_count words) keys) k ≤ 65536
  slot_few k =
      let n = length-take-le (slot_count words) keys ix.in_keys in
      let h = seek_le (take (slot_count words) keys) k in
      let f = ix.few in
      omega arith
