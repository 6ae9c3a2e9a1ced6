-- The calls, with their arguments and without the lent memory; what each answers, what it does to the view, and the contract that all of them share.
-- Assumes nothing.
use Rattle.std.specs.Prelude.{◌≡◌, Bool, false, cond, ◌&&◌, List, [], ◌++◌, ℕ, ◌*◌, ◌-◌, eqb, length}
use Rattle.outcome.specs.Outcome.{Outcome, done, carried_out, first_of, refusal_number}
use Rattle.word.specs.Value.{big_endian, word_bytes}
use Rattle.state.specs.declared.Frame.{Frame}
use Rattle.state.specs.declared.Area.{Area}
use Rattle.fat_pointer.specs.Pointer.{pointer_of}
use Rattle.registers.specs.declared.LoadPlaces.{LoadPlaces}
use Rattle.registers.specs.declared.StorePlaces.{StorePlaces}
use Rattle.registers.specs.Registers.{Registers, register_number, source_of, value_of, load_takes, pointer_takes, store_takes}
use Rattle.store.specs.Mem.{Mem, layout_of}
use Rattle.formed.specs.Buffers.{lengths_are}
use Rattle.formed.specs.Formed.{well_formed, zeros}
use Rattle.view.specs.View.{View, Setting, setting_of, view_of}
use Rattle.view.specs.Steps.{run, padded, word_written, bytes_written, contents_allocated, freed, windowed, truncated, alike, marks, rolled_back, forgotten, opened}
use Rattle.view.specs.Does.{Does}
use Rattle.view.specs.Checks.{Check, if_formed, on_memory, word_write_checks, byte_write_checks, allocate_checks, partial_checks, range_checks, lookup_checks, free_checks, truncate_checks, compare_checks, rollback_checks, opening_checks, lengths_right, bytes_length, keys_length, order_length, words_length}
use Rattle.view.specs.Instructions.{Hook, Executed, heap_of, static_of, access_checks, loaded, store_checks, stored, pointer_checks, read_count, pointed, static_checks, static_loaded, static_store_checks, static_stored, place_checks, loaded_into, stored_into, panicked_into}

pub data Call : Type 0 where
  Open : (setting : Setting) (calldata : List ℕ) → Call
  -- with these contents; `allocate_at` has none
  Allocate : (page : ℕ) (contents : List ℕ) → Call
  ReadWord : (page address : ℕ) → Call
  ReadPartial : (page start end : ℕ) → Call
  -- into an output of this length
  ReadRange : (page start end output_length : ℕ) → Call
  ReadByte : (page address : ℕ) → Call
  DynamicLength : Call
  WriteWord : (page address word : ℕ) → Call
  WriteBytes : (page start : ℕ) (source : List ℕ) → Call
  -- with this zero block
  Lookup : (page chunk : ℕ) (block : List ℕ) → Call
  LookupCheck : (page chunk : ℕ) (block : List ℕ) → Call
  Free : (page : ℕ) → Call
  Window : (page start length : ℕ) → Call
  Truncate : (length : ℕ) → Call
  -- with another memory, of which nothing is known: this one on the left, on the right, on both sides
  CompareLeft : (other : Mem) → Call
  CompareRight : (other : Mem) → Call
  CompareBoth : Call
  Snapshot : Call
  Rollback : (heap aux : ℕ) → Call
  DeleteHistory : Call
  -- the instructions
  Load : (area : Area) (frame : Frame) (registers : Registers) (places : LoadPlaces) → Call
  Store : (area : Area) (frame : Frame) (registers : Registers) (places : StorePlaces) (kernel : Bool) (hook : Hook) → Call
  LoadPointer : (frame : Frame) (registers : Registers) (places : LoadPlaces) → Call
  LoadStatic : (frame : Frame) (registers : Registers) (places : LoadPlaces) → Call
  StoreStatic : (frame : Frame) (registers : Registers) (places : StorePlaces) (kernel : Bool) → Call

pub data Value : Type 0 where
  nothing : Value
  -- by an instruction, except a pointer load that was carried out
  executed : (result : Executed) → Value
  -- by such a pointer load, with how many bytes of the pointer's range lead the word
  pointer_loaded : (result : Executed) (bytes_read : ℕ) → Value
  number : (n : ℕ) → Value
  -- by a partial read: the word, and how many bytes of the range lead it
  partial_word : (word bytes_read : ℕ) → Value
  -- of the journals of the bootloader heap and of the bootloader aux heap
  lengths : (heap aux : ℕ) → Value
  bytes : (bs : List ℕ) → Value
  verdict : (equal : Bool) → Value

-- two settings ask for buffers of the same lengths
abbrev pub same_lengths : Setting → Setting → Bool
same_lengths s t = lengths_are (bytes_length t) (keys_length t) (order_length t) (words_length t) s.chunks s.pages s.journal_words

-- a refused lookup shows an empty part
abbrev pub shown : View → ℕ → ℕ → List ℕ → List ℕ
shown v p k z = cond (eqb (length z) 256 && zeros z) (run v p (256 * k) 256) []

-- .. of the buffers m
abbrev pub shown_of : Mem → ℕ → ℕ → List ℕ → List ℕ
shown_of m p k z = cond (well_formed m) (shown (view_of m) p k z) []

-- THE RULE of a lookup: it shows an empty part exactly where its check is refused
pub record LookupRule (m : Mem) (p k : ℕ) (z : List ℕ) : Type 0 where
  pub refused_empty : carried_out (on_memory m (lookup_checks z) nothing) ≡ false → shown_of m p k z ≡ []
  pub empty_refused : shown_of m p k z ≡ [] → carried_out (on_memory m (lookup_checks z) nothing) ≡ false

-- the number of the first refusal of a list, 0 where there is none
abbrev pub first_refusal : List (Check Value) → ℕ
first_refusal checks = refusal_number (first_of checks (done nothing))

-- THE OUTCOME of a call on a well-formed memory of setting s and view v
abbrev pub outcome_of : Setting → Call → View → Outcome Value
outcome_of s (Open t calldata) v = first_of (opening_checks t (same_lengths t s) (length calldata)) (done nothing)
outcome_of s (Allocate p bs) v = first_of (allocate_checks s v p (length bs)) (done nothing)
outcome_of s (ReadWord p a) v = done (number (big_endian (run v p a 32)))
outcome_of s (ReadPartial p x y) v = first_of (partial_checks x y) (done (partial_word (big_endian (padded (run v p x (y - x)))) (y - x)))
outcome_of s (ReadRange p x y n) v = first_of (range_checks x y n) (done (bytes (run v p x (y - x))))
outcome_of s (ReadByte p a) v = done (number (v.bytes p a))
outcome_of s DynamicLength v = done (number v.dynamic_length)
outcome_of s (WriteWord p a n) v = first_of (word_write_checks s v p a) (done nothing)
outcome_of s (WriteBytes p a bs) v = first_of (byte_write_checks s v p a (length bs)) (done nothing)
outcome_of s (Lookup p k z) v = done (bytes (shown v p k z))
outcome_of s (LookupCheck p k z) v = first_of (lookup_checks z) (done nothing)
outcome_of s (Free p) v = first_of (free_checks s v p) (done nothing)
outcome_of s (Window p start n) v = done nothing
outcome_of s (Truncate n) v = first_of (truncate_checks v n) (done nothing)
outcome_of s (CompareLeft other) v = first_of (compare_checks s.layout other) (done (verdict (alike v (view_of other))))
outcome_of s (CompareRight other) v = first_of (compare_checks s.layout other) (done (verdict (alike (view_of other) v)))
outcome_of s CompareBoth v = done (verdict (alike v v))
outcome_of s Snapshot v = done (lengths (length (v.journal 0)) (length (v.journal 1)))
outcome_of s (Rollback heap aux) v = first_of (rollback_checks v heap aux) (done nothing)
outcome_of s DeleteHistory v = done nothing
outcome_of s (Load area f g p) v =
    let x = source_of g p.source in
    first_of (place_checks (load_takes p) ++ access_checks (λ r. executed (panicked_into g p.dst1 r)) area f x.word) (done (executed (loaded_into g p (loaded v area f x))))
outcome_of s (Store area f g p kernel h) v =
    let x = source_of g p.source in
    let n = value_of kernel g (register_number p.value) in
    first_of (place_checks (store_takes p) ++ store_checks (λ r. executed (panicked_into g p.dst1 r)) s v area f x.word n h) (done (executed (stored_into g p (stored area f x n h))))
outcome_of s (LoadPointer f g p) v =
    let x = source_of g p.source in
    first_of (place_checks (pointer_takes p) ++ pointer_checks (λ r. executed (panicked_into g p.dst1 r)) f x) (done (pointer_loaded (loaded_into g p (pointed v f x)) (read_count (pointer_of x.word))))
outcome_of s (LoadStatic f g p) v =
    let x = source_of g p.source in
    first_of (place_checks (load_takes p) ++ static_checks (λ r. executed (panicked_into g p.dst1 r)) f x.word) (done (executed (loaded_into g p (static_loaded s v f x))))
outcome_of s (StoreStatic f g p kernel) v =
    let x = source_of g p.source in
    first_of (place_checks (store_takes p) ++ static_store_checks (λ r. executed (panicked_into g p.dst1 r)) s v f x.word) (done (executed (stored_into g p (static_stored f x))))

-- WHAT IT DOES to the view where it is carried out (an accepted opening starts a list and stands in none)
abbrev pub next_of : Setting → Call → View → View
next_of s (Open t calldata) v = v
next_of s (Allocate p bs) v = contents_allocated s.layout p bs v
next_of s (ReadWord p a) v = v
next_of s (ReadPartial p x y) v = v
next_of s (ReadRange p x y n) v = v
next_of s (ReadByte p a) v = v
next_of s DynamicLength v = v
next_of s (WriteWord p a n) v = word_written s.layout p a (word_bytes n) v
next_of s (WriteBytes p a bs) v = bytes_written s.layout p a bs v
next_of s (Lookup p k z) v = v
next_of s (LookupCheck p k z) v = v
next_of s (Free p) v = freed s p v
next_of s (Window p start n) v = windowed s p start n v
next_of s (Truncate n) v = truncated s n v
next_of s (CompareLeft other) v = v
next_of s (CompareRight other) v = v
next_of s CompareBoth v = v
next_of s Snapshot v = v
next_of s (Rollback heap aux) v = rolled_back s.layout (marks heap aux) v
next_of s DeleteHistory v = forgotten v
next_of s (Load area f g p) v = v
-- a store writes the word of its value's register, without page and start where it is tagged and kernel mode is off
next_of s (Store area f g p kernel h) v = word_written s.layout (heap_of f area) (source_of g p.source).word (word_bytes (value_of kernel g (register_number p.value))) v
next_of s (LoadPointer f g p) v = v
next_of s (LoadStatic f g p) v = v
next_of s (StoreStatic f g p kernel) v = word_written s.layout (static_of s.layout) (source_of g p.source).word (word_bytes (value_of kernel g (register_number p.value))) v

-- ---- THE CONTRACT
abbrev pub answer_of : Mem → Call → Outcome Value
answer_of m c = if_formed m (outcome_of (setting_of m) c (view_of m))

-- call c on the buffers m has the outcome o and leaves the buffers m'
abbrev pub CallDoes : Mem → Call → Outcome Value → Mem → Type 0
CallDoes m c o m' = Does m (answer_of m c) (setting_of m) (next_of (setting_of m) c (view_of m)) o m'

-- a comparison of two memories, neither of which has to be well formed
abbrev pub comparison_of : Mem → Mem → Outcome Value
comparison_of m n = if_formed m (first_of (compare_checks (layout_of m.words) n) (done (verdict (alike (view_of m) (view_of n)))))

-- an opening, on any buffers
abbrev pub OpenDoes : Mem → Setting → List ℕ → Outcome Value → Mem → Type 0
OpenDoes m s calldata o m' = Does m (first_of (opening_checks s (lengths_right s m) (length calldata)) (done nothing)) s (opened s calldata) o m'
