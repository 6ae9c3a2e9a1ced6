-- The claim is not empty: an opening that no condition refuses has a step, which begins a list, and after every list every call can come next, with the
-- outcome that the setting and the plain map give. No contract stops one.
-- Assumes nothing.
use mathlib.Core.Path.{◌≡◌, refl, sym, ap, ◌∙◌, subst}
use mathlib.Core.Bool.{Bool, true, cond, not}
use mathlib.Core.List.{List, []}
use Prim.Native.Nat.{ℕ, ◌*◌, ◌≤◌}
use native.Mathlib.Omega.{arith}
use lib.ListN.{length, replicate, length-replicate}
use Rattle.outcome.specs.Outcome.{Outcome, refused, done, first_of}
use Rattle.store.specs.Mem.{Mem, mem}
use Rattle.formed.specs.Formed.{well_formed}
use Rattle.formed.proofs.Meaning.{well_formed_passes}
use Rattle.view.specs.View.{View, Setting, setting_of, view_of}
use Rattle.view.specs.Checks.{opening_checks, lengths_right, bytes_length, keys_length, order_length, words_length}
use Rattle.view.specs.Does.{Shows}
use Rattle.view.specs.Calls.{Call, Value, Open, Allocate, ReadWord, ReadPartial, ReadRange, ReadByte, DynamicLength, WriteWord, WriteBytes, Lookup, LookupCheck, Free, Window, Truncate, CompareLeft, CompareRight, CompareBoth, Snapshot, Rollback, DeleteHistory, nothing, bytes, shown, same_lengths, outcome_of, answer_of, Load, Store, LoadPointer, LoadStatic, StoreStatic}
use Rattle.page_ids.specs.Decode.{layout_from}
use Rattle.opening.specs.Opening.{OpenAsks, setting_from}
use Rattle.opening.proofs.Refusals.{sizes_test, refused_not}
use Rattle.plain.specs.Claim.{by_opening}
use Rattle.plain.proofs.Theorem.{claim}
use Rattle.lists.specs.Steps.{PublicStep, Step, public}
use Rattle.lists.specs.Goes.{Narrow, Fits, Goes, Begins, NotEmpty}
use Rattle.lists.proofs.Contracts.{contracts}
use Rattle.lists.proofs.Inhabited.{Answers, can_open, can_allocate_with, can_read_word, can_read_partial, can_read_range, can_read_byte, can_tell_length, can_write_word, can_write_bytes, can_look_up, can_check, can_snapshot, can_roll_back, can_delete}
use Rattle.lists.proofs.Frees.{can_free, can_window, can_truncate}
use Rattle.lists.proofs.Comparing.{can_compare_left, can_compare_right, can_compare_both}
use Rattle.lists.proofs.Instructions.{can_load, can_store, can_load_pointer, can_load_static, can_store_static}

module _ {s : Setting} {v : View} {m : Mem} (h : Shows s v m) where
  formed : well_formed m ≡ true
  formed = well_formed_passes m h.formed

  outcome_is : (c : Call) → outcome_of (setting_of m) c (view_of m) ≡ outcome_of s c v
  outcome_is c = ap (λ (t : Setting). outcome_of t c (view_of m)) h.setting ∙ ap (outcome_of s c) h.view

  pub answer_is : (c : Call) → answer_of m c ≡ outcome_of s c v
  answer_is c = ap (λ (b : Bool). cond (not b) (refused 3) (outcome_of (setting_of m) c (view_of m))) formed ∙ outcome_is c

  lengths_are_lem : (t : Setting) → lengths_right t m ≡ same_lengths t s
  lengths_are_lem t = let n = h.formed.lengths in rw (n.in_bytes, n.in_keys, n.in_order, n.in_words) (ap (same_lengths t) h.setting)

  so : (c : Call) (o o' : Outcome Value) → o ≡ o' → Goes m c o → Goes m c o'
  so c o o' e g = record { after = g.after; step = subst (λ (x : Outcome Value). PublicStep m c x g.after) e g.step }

  changes : (c : Call) → Goes m c (answer_of m c) → Goes m c (outcome_of s c v)
  changes c g = so c (answer_of m c) (outcome_of s c v) (answer_is c) g

  reads : (c : Call) → Answers c → Goes m c (outcome_of s c v)
  reads c a = changes c (record { after = m; step = a m })

  pub goes_on : (c : Call) → Fits c → Goes m c (outcome_of s c v)
  goes_on (Open t calldata) f =
      so (Open t calldata) (first_of (opening_checks t (lengths_right t m) (length calldata)) (done nothing)) (outcome_of s (Open t calldata) v)
      (ap (λ (b : Bool). first_of (opening_checks t b (length calldata)) (done nothing)) (lengths_are_lem t)) (can_open t calldata f m)
  goes_on (Allocate p bs) f = changes (Allocate p bs) (can_allocate_with p f bs m)
  goes_on (ReadWord p a) f = reads (ReadWord p a) (can_read_word p a)
  goes_on (ReadPartial p x y) f = reads (ReadPartial p x y) (can_read_partial p x y)
  goes_on (ReadRange p x y n) f = reads (ReadRange p x y n) (subst (λ (k : ℕ). Answers (ReadRange p x y k)) (length-replicate n 0) (can_read_range p x y (replicate n 0)))
  goes_on (ReadByte p a) f = reads (ReadByte p a) (can_read_byte p a)
  goes_on DynamicLength f = reads DynamicLength can_tell_length
  goes_on (WriteWord p a n) f = changes (WriteWord p a n) (can_write_word p a f.0 f.1 n m)
  goes_on (WriteBytes p a bs) f = changes (WriteBytes p a bs) (can_write_bytes p a f.0 f.1 bs m)
  goes_on (Lookup p k z) f =
      so (Lookup p k z) (done (bytes (cond (well_formed m) (shown (view_of m) p k z) []))) (outcome_of s (Lookup p k z) v)
      (ap (λ (b : Bool). done (bytes (cond b (shown (view_of m) p k z) []))) formed ∙ outcome_is (Lookup p k z)) (record { after = m; step = can_look_up p k z m })
  goes_on (LookupCheck p k z) f = reads (LookupCheck p k z) (can_check p k z)
  goes_on (Free p) f = changes (Free p) (can_free p m)
  goes_on (Window p start n) f = changes (Window p start n) (can_window p start n m)
  goes_on (Truncate n) f = changes (Truncate n) (can_truncate n m)
  goes_on (CompareLeft other) f = reads (CompareLeft other) (can_compare_left other)
  goes_on (CompareRight other) f = reads (CompareRight other) (can_compare_right other)
  goes_on CompareBoth f = reads CompareBoth can_compare_both
  goes_on Snapshot f = reads Snapshot can_snapshot
  goes_on (Rollback heap aux) f = changes (Rollback heap aux) (can_roll_back heap aux m)
  goes_on DeleteHistory f = changes DeleteHistory (can_delete m)
  goes_on (Load area frame g p) f = reads (Load area frame g p) (can_load frame g f p area)
  goes_on (Store area frame g p kernel k) f = changes (Store area frame g p kernel k) (can_store frame g f.0 p kernel area k f.1 m)
  goes_on (LoadPointer frame g p) f = reads (LoadPointer frame g p) (can_load_pointer frame g f p)
  goes_on (LoadStatic frame g p) f = reads (LoadStatic frame g p) (can_load_static frame g f p)
  goes_on (StoreStatic frame g p kernel) f = changes (StoreStatic frame g p kernel) (can_store_static frame g f p kernel m)

-- an opening that no condition refuses begins a list
begins : {m : Mem} {s : Setting} {calldata : List ℕ} → Narrow s → OpenAsks s m → length calldata ≤ 256 * s.chunks → Begins m s calldata
begins {m} {s} {calldata} narrow asks room =
    let g = can_open s calldata narrow m in
    let e = sym (refused_not nothing s m (length calldata) asks.layout (sizes_test s m asks.sizes) room) in
    let step = subst (λ (o : Outcome Value). PublicStep m (Open s calldata) o g.after) e g.step in
    record { start = g.after; step = step; started = by_opening (public step) }

-- a small memory, of two chunks and two pages beside the fixed ones
abbrev pub small : Setting
small = setting_from (layout_from 0 1 2 3 4 4) 2 2 0

abbrev buffers : Mem
buffers = mem (replicate (bytes_length small) 0) (replicate (keys_length small) 0) (replicate (order_length small) 0) (replicate (words_length small) 0)

small_narrow : Narrow small
small_narrow = record { statics = omega arith; calldata = omega arith; heap = omega arith; aux = omega arith; base = omega arith; stride = omega arith }

small_asks : OpenAsks small buffers
small_asks = record {
  layout = refl;
  sizes = record {
    chunks_lo = omega arith;
    chunks_hi = omega arith;
    pages_lo = omega arith;
    pages_hi = omega arith;
    journal_hi = omega arith;
    in_bytes = length-replicate {A = ℕ} (bytes_length small) 0;
    in_keys = length-replicate {A = ℕ} (keys_length small) 0;
    in_order = length-replicate {A = ℕ} (order_length small) 0;
    in_words = length-replicate {A = ℕ} (words_length small) 0;
  };
}

pub small_begins : Begins buffers small []
small_begins = begins small_narrow small_asks (omega arith)

pub not_empty : NotEmpty
not_empty = record {
  begins = λ narrow asks room. begins narrow asks (omega arith);
  one = (buffers, small, small_begins);
  goes_on = λ b r c f. goes_on ((claim Step contracts).lists b r).shows c f;
}
