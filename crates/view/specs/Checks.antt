-- Which refusal a call gets. Each list names the conditions that concern a call, in the order of 01's table; `first_of` decides.
-- Assumes nothing.
use Rattle.std.specs.Prelude.{Bool, false, not, ◌&&◌, ◌||◌, List, [], ◌∷◌, ℕ, zero, suc, ◌+◌, ◌-◌, ◌/◌, ◌^◌, ltb, eqb, length}
use Rattle.outcome.specs.Outcome.{Outcome, refused, done, first_of}
use Rattle.page_ids.specs.Decode.{bad_layout, decoded, is_none}
use Rattle.page_ids.specs.declared.Layout.{Layout}
use Rattle.store.specs.Mem.{Mem, layout_of}
use Rattle.formed.specs.Pages.{fixed, journal_count}
use Rattle.formed.specs.Buffers.{bytes_for, keys_for, order_for, words_for, counts_fit, lengths_are}
use Rattle.formed.specs.Formed.{well_formed, zeros}
use Rattle.view.specs.View.{View, Setting}
use Rattle.view.specs.Steps.{missing, touched_count, aligned_count, journalled}

-- a condition and the refusal that it means
abbrev pub Check : Type 0 → Type 0
Check A = Bool × Outcome A

-- 3: the lent memory is not well formed; every later call lent a memory tests it first, and has the outcome o where it is
abbrev pub if_formed : {A : Type 0} → Mem → Outcome A → Outcome A
if_formed m o = first_of ((not (well_formed m), refused 3) ∷ []) o

abbrev pub on_memory : {A : Type 0} → Mem → List (Check A) → A → Outcome A
on_memory m checks a = if_formed m (first_of checks (done a))

-- 4: the page is undecodable
unfoldable pub undecodable : Setting → ℕ → Bool
undecodable s p = is_none (decoded s.layout p)

-- 11: w more words do not fit the journal of page p
unfoldable pub overfull : Setting → View → ℕ → ℕ → ℕ → Bool
overfull s v p w zero = false
overfull s v p w (suc n) = (journalled s.layout p n && ltb s.journal_words (length (v.journal n) + w)) || overfull s v p w n

-- 9, 10, 11: room for `count` chunks of page p from number k on, and for w journal words
abbrev pub capacity_checks : {A : Type 0} → Setting → View → ℕ → ℕ → ℕ → ℕ → List (Check A)
capacity_checks s v p k count w =
    (not (v.allocated p) && eqb v.entries_left 0, refused 9)
    ∷ (ltb v.pool (missing (v.held p) k count), refused 10)
    ∷ (overfull s v p w journal_count, refused 11)
    ∷ []

-- for n bytes at address a
abbrev pub capacity_checks_at : {A : Type 0} → Setting → View → ℕ → ℕ → ℕ → ℕ → List (Check A)
capacity_checks_at s v p a n w = capacity_checks s v p (a / 256) (touched_count a n) w

abbrev pub word_write_checks : {A : Type 0} → Setting → View → ℕ → ℕ → List (Check A)
word_write_checks s v p a = (undecodable s p, refused 4) ∷ capacity_checks_at s v p a 32 1

abbrev pub byte_write_checks : {A : Type 0} → Setting → View → ℕ → ℕ → ℕ → List (Check A)
byte_write_checks s v p a n = (undecodable s p, refused 4) ∷ (ltb (2 ^ 32) (a + n), refused 8) ∷ capacity_checks_at s v p a n (aligned_count a n)

-- allocation of page p with n bytes of contents
abbrev pub allocate_checks : {A : Type 0} → Setting → View → ℕ → ℕ → List (Check A)
allocate_checks s v p n = (undecodable s p, refused 4) ∷ (fixed s.layout p, refused 5) ∷ (v.allocated p, refused 6) ∷ capacity_checks_at s v p 0 n 0

-- a free of page p
abbrev pub free_checks : {A : Type 0} → Setting → View → ℕ → List (Check A)
free_checks s v p = (undecodable s p, refused 4) ∷ (fixed s.layout p, refused 5) ∷ (not (v.allocated p), refused 7) ∷ []

-- a partial read of the bytes from `start` to `end`
abbrev pub partial_checks : {A : Type 0} → ℕ → ℕ → List (Check A)
partial_checks start end = (ltb 32 (end - start), refused 8) ∷ []

-- a range read into an output of n bytes
abbrev pub range_checks : {A : Type 0} → ℕ → ℕ → ℕ → List (Check A)
range_checks start end n = (not (eqb n (end - start)), refused 8) ∷ []

-- a chunk lookup with the zero block z
abbrev pub lookup_checks : {A : Type 0} → List ℕ → List (Check A)
lookup_checks z = (not (eqb (length z) 256 && zeros z), refused 8) ∷ []

-- a rollback to the numbers `heap` and `aux`
abbrev pub rollback_checks : {A : Type 0} → View → ℕ → ℕ → List (Check A)
rollback_checks v heap aux = (ltb (length (v.journal 0)) heap || ltb (length (v.journal 1)) aux, refused 12) ∷ []

-- a truncation to n
abbrev pub truncate_checks : {A : Type 0} → View → ℕ → List (Check A)
truncate_checks v n = (ltb v.dynamic_length n, refused 13) ∷ []

-- two layouts have the same six numbers
abbrev pub same_layout : Layout → Layout → Bool
same_layout l k =
    eqb l.static_memory.0 k.static_memory.0
    && (eqb l.calldata.0 k.calldata.0
    && (eqb l.bootloader_heap.0 k.bootloader_heap.0
    && (eqb l.bootloader_aux.0 k.bootloader_aux.0
    && (eqb l.base.0 k.base.0
    && eqb l.stride k.stride))))

-- a comparison with another memory, which may be not well formed; 1 comes after 3
abbrev pub compare_checks : {A : Type 0} → Layout → Mem → List (Check A)
compare_checks l other = (not (well_formed other), refused 3) ∷ (not (same_layout l (layout_of other.words)), refused 1) ∷ []

-- ---- opening
-- the counts are in bounds
abbrev pub counts_right : Setting → Bool
counts_right s = counts_fit s.chunks s.pages s.journal_words

-- the lengths that they ask for
abbrev pub bytes_length : Setting → ℕ
bytes_length s = bytes_for s.chunks s.journal_words

abbrev pub keys_length : Setting → ℕ
keys_length s = keys_for s.chunks s.pages

abbrev pub order_length : Setting → ℕ
order_length s = order_for s.chunks s.pages

abbrev pub words_length : Setting → ℕ
words_length s = words_for s.chunks s.journal_words

-- the lent buffers have these lengths
abbrev pub lengths_right : Setting → Mem → Bool
lengths_right s m = lengths_are (length m.bytes) (length m.keys) (length m.order) (length m.words) s.chunks s.pages s.journal_words

-- an opening with n bytes of calldata; `fits` says that the lent buffers have the right lengths
abbrev pub opening_checks : {A : Type 0} → Setting → Bool → ℕ → List (Check A)
opening_checks s fits n =
    (bad_layout s.layout, refused 1)
    ∷ (not (counts_right s && fits), refused 2)
    ∷ (ltb s.chunks (touched_count 0 n), refused 10)
    ∷ []
