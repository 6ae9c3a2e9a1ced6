-- WELL FORMED, in the words of 01.
-- Assumes nothing.
use Rattle.std.specs.Prelude.{◌≡◌, true, ◌⊎◌, ℕ, ◌+◌, ◌*◌, ◌/◌, ◌^◌, ◌<◌, ◌≤◌, length, get_or}
use Rattle.store.specs.Keys.{last_chunk, key_of, key_entry, key_chunk}
use Rattle.index.specs.Index.{Index}
use Rattle.bits.specs.Bits.{bit_of}
use Rattle.store.specs.Mem.{Mem, fixed_count, layout_of, slot_count, page_count, journal_words, held_now, in_use, dynamic_length, journal_length, pool_length, pool_word, pool_words, pool_skip, holders, entries, slot_order, page_order, chunk_bytes}
use Rattle.formed.specs.Pages.{LayoutRule, fixed_id, fixed, dynamic, group, journal_count, journal_place, journal_page}
use Rattle.formed.specs.Buffers.{LengthsFit}
use Rattle.formed.specs.Parts.{holds, byte_at, note_address, note_first, note_last}

-- ---- chunks by slot, pages by entry: the words in which the sentence speaks of page ids and chunk numbers
-- the key that slot s holds, 0 where it holds none
abbrev pub holder : Mem → ℕ → ℕ
holder m s = get_or (holders m) s 0

-- byte r of slot s
abbrev pub slot_byte : Mem → ℕ → ℕ → ℕ
slot_byte m s r = get_or (chunk_bytes m) (256 * s + r) 0

-- slot s is pooled: its bit is set
abbrev pub Pooled : Mem → ℕ → Type 0
Pooled m s = bit_of (pool_words m.words) s ≡ 1

-- slot s is held as chunk k of page p
pub record HeldAt (m : Mem) (s p k : ℕ) : Type 0 where
  pub held : 0 < holder m s
  pub page : get_or (entries m) (key_entry (holder m s)) 0 ≡ p + 1
  pub chunk : key_chunk (holder m s) ≡ k

-- slot s is held at one place
pub record OnePlace (m : Mem) (s : ℕ) : Type 0 where
  pub page : ℕ
  pub chunk : ℕ
  pub there : HeldAt m s page chunk
  pub only : (p k : ℕ) → HeldAt m s p k → (p ≡ page) × (k ≡ chunk)

-- .. and not pooled
pub record HeldOnce (m : Mem) (s : ℕ) : Type 0 where
  pub place : OnePlace m s
  pub not_pooled : Pooled m s → ⊥

-- slot s is pooled, and not held
pub record PooledOnce (m : Mem) (s : ℕ) : Type 0 where
  pub pooled : Pooled m s
  pub unheld : holder m s ≡ 0

-- entry e lists page p (the first entries are the fixed pages')
pub record ListedAt (m : Mem) (e p : ℕ) : Type 0 where
  pub past_fixed : fixed_count ≤ e
  pub there : get_or (entries m) e 0 ≡ p + 1

pub record ListedPage (m : Mem) (p : ℕ) : Type 0 where
  pub entry : ℕ
  pub there : ListedAt m entry p

-- ---- refusal 2: the bounds of the counts, and one length for each buffer
abbrev pub Lengths : Mem → Type 0
Lengths m = LengthsFit (length m.bytes) (length m.keys) (length m.order) (length m.words) (slot_count m.words) (page_count m.words) (journal_words m.words)

-- ---- what the encoding itself asks; buffers that break it encode no memory
-- word i of journal j: the address has 32 bits, and the slots noted hold the word's first and last chunk
pub record NotedRight (m : Mem) (j i : ℕ) : Type 0 where
  pub address : note_address m j i ≤ 4294967295
  pub first : holder m (note_first m j i) ≡ key_of (journal_place j) (note_address m j i / 256)
  pub last : holder m (note_last m j i) ≡ key_of (journal_place j) ((note_address m j i + 31) / 256)

pub record Encoded (m : Mem) : Type 0 where
  pub slots : Index (holders m) (slot_order m) (held_now m.words)
  pub pages : Index (entries m) (page_order m) (in_use m.words)
  pub fixed_four : (e : ℕ) → e < fixed_count → get_or (entries m) e 0 ≡ fixed_id (layout_of m.words) e + 1
  pub notes : (j i : ℕ) → j < journal_count → i < journal_length m.words j → NotedRight m j i
  pub layout_width : (i : ℕ) → i < 6 → get_or m.words i 0 ≤ 4294967295
  pub length_width : dynamic_length m.words ≤ 4294967295
  pub page_width : (e p : ℕ) → ListedAt m e p → p ≤ 4294967295
  pub pool_width : (i : ℕ) → i < pool_length (slot_count m.words) → pool_word m.words i < 2 ^ 64
  pub pool_skip_lem : pool_skip m.words ≤ pool_length (slot_count m.words)
  pub pool_skipped : (i : ℕ) → i < pool_skip m.words → pool_word m.words i ≡ 0

-- ---- 01's sentence
pub record WellFormed (m : Mem) : Type 0 where
  -- the buffer lengths of refusal 2 and the rule of refusal 1 hold
  pub lengths : Lengths m
  pub layout : LayoutRule (layout_of m.words)
  -- each chunk is held at one place or pooled, once
  pub each_once : (s : ℕ) → s < slot_count m.words → HeldOnce m s ⊎ PooledOnce m s
  -- 02: no bit is set past the last chunk
  pub none_past : (s : ℕ) → slot_count m.words ≤ s → Pooled m s → ⊥
  -- no place has two chunks
  pub no_two : (s t p k : ℕ) → HeldAt m s p k → HeldAt m t p k → s ≡ t
  -- and none lies above chunk 16,777,216
  pub none_above : (s p k : ℕ) → HeldAt m s p k → k ≤ last_chunk
  -- bytes past 4,294,967,326 are zero
  pub zero_past : (p a : ℕ) → 4294967326 < a → byte_at m p a ≡ 0
  -- pooled chunks are zero
  pub pooled_zero : (s r : ℕ) → s < slot_count m.words → Pooled m s → r < 256 → slot_byte m s r ≡ 0
  -- listed pages are distinct, dynamic, and below the dynamic length
  pub pages_distinct : (e f p : ℕ) → ListedAt m e p → ListedAt m f p → e ≡ f
  pub pages_dynamic : (e p : ℕ) → ListedAt m e p → dynamic (layout_of m.words) p ≡ true
  pub pages_below : (e p : ℕ) → ListedAt m e p → group (layout_of m.words) p < dynamic_length m.words
  -- holders are fixed or listed pages
  pub holders_known : (s p k : ℕ) → HeldAt m s p k → (fixed (layout_of m.words) p ≡ true) ⊎ ListedPage m p
  -- journals are within capacity
  pub in_capacity : (j : ℕ) → j < journal_count → journal_length m.words j ≤ journal_words m.words
  -- and the chunks of each journalled word are held, by the journal's own page: that of each of its 32 bytes
  pub words_held : (j i x : ℕ) → j < journal_count → i < journal_length m.words j → x < 32
      → holds m (journal_page (layout_of m.words) j) ((note_address m j i + x) / 256) ≡ true
  -- the encoding's own rules
  pub encoded : Encoded m
