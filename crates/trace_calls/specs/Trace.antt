-- WHAT A LINE OF A TRACE DOES, and how it is answered. Document 01, 'The trace program'.
-- Assumes nothing.
use Rattle.std.specs.Prelude.{◌≡◌, [], ℕ, min, take, drop, Option, None, Some}
use Rattle.outcome.specs.Outcome.{Outcome, first_of}
use Rattle.outcome.specs.Outcome as outcome
use Rattle.store.specs.Mem.{Mem, mem}
use Rattle.formed.specs.Buffers.{bytes_for, keys_for, order_for, words_for}
use Rattle.view.specs.View.{Setting}
use Rattle.view.specs.Checks.{opening_checks, lengths_right}
use Rattle.view.specs.Calls.{Call, WriteWord, ReadWord, Snapshot, Rollback, Value, nothing, number, lengths, bytes, verdict, executed, pointer_loaded, partial_word, answer_of, CallDoes, OpenDoes}
use Rattle.page_ids.specs.Decode.{layout_from}
use Rattle.opening.specs.Opening.{setting_from}
use Rattle.trace.specs.Language.{Line, opens, writes, reads, takes_snapshot, rolls_back}
use Rattle.trace.specs.Language as language
use Rattle.trace_text.specs.Text.{Reported, unread, done, word, marks, refused}
use Rattle.trace.specs.declared.Counts.{Counts}
use Rattle.trace.specs.declared.Opening.{Opening}
use Rattle.page_ids.specs.declared.Layout.{Layout}

-- the answer that tells an outcome; no call of a trace gives bytes, compares memories, is a partial read or an instruction
abbrev pub reported : Outcome Value → Reported
reported (outcome.refused n) = refused n
reported (outcome.done nothing) = done
reported (outcome.done (number n)) = word n
reported (outcome.done (lengths h a)) = marks h a
reported (outcome.done (bytes bs)) = unread
reported (outcome.done (verdict b)) = unread
reported (outcome.done (executed g)) = unread
reported (outcome.done (pointer_loaded g k)) = unread
reported (outcome.done (partial_word n k)) = unread
reported (outcome.panicked v) = unread

-- ---- one call, on the buffers m of just its memory: it is answered with t, and leaves the buffers m'
abbrev pub CallTells : Mem → Call → Reported → Mem → Type 0
CallTells m c t m' = (t ≡ reported (answer_of m c)) × CallDoes m c (answer_of m c) m'

-- an opening, without calldata
abbrev pub open_outcome : Mem → Setting → Outcome Value
open_outcome m s = first_of (opening_checks s (lengths_right s m) 0) (outcome.done nothing)

abbrev pub OpenTells : Mem → Setting → Reported → Mem → Type 0
OpenTells m s t m' = (t ≡ reported (open_outcome m s)) × OpenDoes m s [] (open_outcome m s) m'

-- what an opening's numbers ask
abbrev pub opening_layout : Opening → Layout
opening_layout o = layout_from o.static_memory o.calldata o.bootloader_heap o.bootloader_aux o.base o.stride

abbrev pub opening_setting : Opening → Setting
opening_setting o = setting_from (opening_layout o) o.counts.chunks o.counts.pages o.counts.journal_words

abbrev pub LineTells : Mem → Line → Reported → Mem → Type 0
LineTells m (opens a b c d e f x y z) t m' = OpenTells m (setting_from (layout_from a b c d e f) x y z) t m'
LineTells m (writes p a w) t m' = CallTells m (WriteWord p a w) t m'
LineTells m (reads p a) t m' = CallTells m (ReadWord p a) t m'
LineTells m takes_snapshot t m' = CallTells m Snapshot t m'
LineTells m (rolls_back h a) t m' = CallTells m (Rollback h a) t m'
LineTells m language.unread t m' = (t ≡ unread) × (m' ≡ m)

-- ---- the same, in the leading parts of the space for 128 chunks, 64 pages and 256 journal words. Counts beyond the space get parts that are too
-- short for them, so that an opening is refused
abbrev pub bytes_in : (chunks journal_words : ℕ) → ℕ
bytes_in c j = bytes_for (min c 128) (min j 256)

abbrev pub keys_in : (chunks pages : ℕ) → ℕ
keys_in c p = keys_for (min c 128) (min p 64)

abbrev pub order_in : (chunks pages : ℕ) → ℕ
order_in c p = order_for (min c 128) (min p 64)

abbrev pub words_in : (chunks journal_words : ℕ) → ℕ
words_in c j = words_for (min c 128) (min j 256)

abbrev pub parts : (chunks pages journal_words : ℕ) → Mem → Mem
parts c p j m = mem (take (bytes_in c j) m.bytes) (take (keys_in c p) m.keys) (take (order_in c p) m.order) (take (words_in c j) m.words)

pub record PartsTell (c p j : ℕ) (m : Mem) (line : Line) (t : Reported) (m' : Mem) : Type 0 where
  pub tells : LineTells (parts c p j m) line t (parts c p j m')
  -- the rest of the space stays as it was
  pub bytes : drop (bytes_in c j) m'.bytes ≡ drop (bytes_in c j) m.bytes
  pub keys : drop (keys_in c p) m'.keys ≡ drop (keys_in c p) m.keys
  pub order : drop (order_in c p) m'.order ≡ drop (order_in c p) m.order
  pub words : drop (words_in c j) m'.words ≡ drop (words_in c j) m.words

-- ---- the trace: r has the counts of the open memory, if one is open
-- an accepted opening gives new counts, a refused one keeps them
abbrev pub after_opening : Option Counts → (chunks pages journal_words : ℕ) → Reported → Option Counts
after_opening r c p j unread = r
after_opening r c p j done = Some (record { chunks = c; pages = p; journal_words = j })
after_opening r c p j (word n) = r
after_opening r c p j (marks h a) = r
after_opening r c p j (refused n) = r

-- a line that needs an open memory
pub record OnOpen (r : Option Counts) (m : Mem) (line : Line) (r' : Option Counts) (t : Reported) (m' : Mem) : Type 0 where
  pub run : r' ≡ r
  pub before : r ≡ None → (t ≡ unread) × (m' ≡ m)
  pub call : (k : Counts) → r ≡ Some k → PartsTell k.chunks k.pages k.journal_words m line t m'

abbrev pub TraceTells : Option Counts → Mem → Line → Option Counts → Reported → Mem → Type 0
TraceTells r m (opens a b c d e f x y z) r' t m' = (r' ≡ after_opening r x y z t) × PartsTell x y z m (opens a b c d e f x y z) t m'
TraceTells r m (writes p a w) r' t m' = OnOpen r m (writes p a w) r' t m'
TraceTells r m (reads p a) r' t m' = OnOpen r m (reads p a) r' t m'
TraceTells r m takes_snapshot r' t m' = OnOpen r m takes_snapshot r' t m'
TraceTells r m (rolls_back h a) r' t m' = OnOpen r m (rolls_back h a) r' t m'
TraceTells r m language.unread r' t m' = OnOpen r m language.unread r' t m'
