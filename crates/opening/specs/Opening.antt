-- An opening: the setting that it asks for, the head of the new memory, and what its steps ask and leave.
-- Assumes nothing.
use Rattle.std.specs.Prelude.{◌≡◌, Bool, true, false, List, ◌∷◌, ℕ, ◌+◌, ◌*◌, ◌-◌, ◌^◌, ◌<◌, ◌≤◌, min, length, get_or, drop}
use Rattle.index.specs.Index.{indexed}
use Rattle.page_ids.specs.declared.Layout.{Layout}
use Rattle.page_ids.specs.Decode.{bad_layout}
use Rattle.outcome.specs.Outcome.{Outcome, done, first_of}
use Rattle.store.specs.Mem.{Mem, head_length, fixed_count, layout_of, slot_count, pool_length}
use Rattle.formed.specs.Buffers.{lengths_fit, LengthsFit}
use Rattle.view.specs.View.{Setting, setting_of}
use Rattle.view.specs.Steps.{empty_view}
use Rattle.view.specs.Checks.{lengths_right, opening_checks}
use Rattle.view.specs.Does.{Shows}
use Rattle.view.specs.Calls.{Value, nothing}

abbrev pub setting_from : Layout → ℕ → ℕ → ℕ → Setting
setting_from l chunks pages journal_words = record { layout = l; chunks = chunks; pages = pages; journal_words = journal_words }

-- the last words of w have the bits of c slots set, and no other
abbrev pub PoolFull : ℕ → List ℕ → Type 0
PoolFull c w = (i : ℕ) → i < pool_length c → get_or w (length w - pool_length c + i) 0 ≡ 2 ^ min (c - 64 * i) 64 - 1

-- the words w with the head of a new memory: four entries are in use, and all else that counts is 0. Number 14 of the head says nothing
abbrev pub headed : Setting → List ℕ → List ℕ
headed s w =
    s.layout.static_memory.0 ∷ s.layout.calldata.0 ∷ s.layout.bootloader_heap.0 ∷ s.layout.bootloader_aux.0 ∷ s.layout.base.0 ∷ s.layout.stride
    ∷ s.chunks ∷ s.pages ∷ s.journal_words ∷ 0 ∷ fixed_count ∷ 0 ∷ 0 ∷ 0 ∷ get_or w 14 0 ∷ 0 ∷ drop head_length w

-- ---- starting
-- refusal 2 is that this is false: the counts are in bounds, and the buffers have the lengths that they ask for
abbrev pub sizes_right : Setting → Mem → Bool
sizes_right s m = lengths_fit (length m.bytes) (length m.keys) (length m.order) (length m.words) s.chunks s.pages s.journal_words

-- the same as a record
abbrev pub Sizes : Setting → Mem → Type 0
Sizes s m = LengthsFit (length m.bytes) (length m.keys) (length m.order) (length m.words) s.chunks s.pages s.journal_words

-- what a start asks; the buffers' contents are any
pub record OpenAsks (s : Setting) (m : Mem) : Type 0 where
  pub layout : bad_layout s.layout ≡ false
  pub sizes : Sizes s m

-- a table ks of pages that lists none, and four ids at the front of ws that can be listed
pub record FixedAsks (ks os ws : List ℕ) : Type 0 where
  pub in_keys : fixed_count ≤ length ks
  pub in_order : fixed_count ≤ length os
  pub in_words : fixed_count ≤ length ws
  pub free : (i : ℕ) → get_or ks i 0 ≡ 0
  pub width : (i : ℕ) → i < fixed_count → get_or ws i 0 ≤ 4294967295
  pub apart : (i j : ℕ) → i < j → j < fixed_count → get_or ws i 0 ≡ get_or ws j 0 → ⊥

-- the first n ids of ws, and no other page, are listed in ks, of the order os
pub record FirstPages (ws ks os : List ℕ) (n : ℕ) : Type 0 where
  pub index : indexed ks os n ≡ true
  pub listed : (i : ℕ) → i < n → get_or ks i 0 ≡ get_or ws i 0 + 1
  pub rest : (i : ℕ) → n ≤ i → get_or ks i 0 ≡ 0

-- ---- opening
-- with n bytes of calldata
abbrev pub opening_outcome : Setting → Mem → ℕ → Outcome Value
opening_outcome s m n = first_of (opening_checks s (lengths_right s m) n) (done nothing)

-- what n bytes of calldata ask: a memory just started, its calldata page, and chunks for them all
pub record CalldataAsks (m : Mem) (p n : ℕ) : Type 0 where
  pub started : Shows (setting_of m) (empty_view (setting_of m)) m
  pub page : p ≡ (layout_of m.words).calldata.0
  pub room : n ≤ 256 * slot_count m.words
