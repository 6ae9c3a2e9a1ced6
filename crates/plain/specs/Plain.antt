-- THE PLAIN MAP of 01. It is fed each call's arguments, but no lent memory, and whether the call was carried out.
-- Assumes nothing.
use Rattle.std.specs.Prelude.{Bool, false, cond, not, ◌&&◌, ◌||◌, List, [], ◌∷◌, ◌++◌, ℕ, zero, suc, ◌+◌, ◌*◌, ◌-◌, ◌/◌, max, eqb, length}
use Rattle.outcome.specs.Outcome.{Outcome, carried_out}
use Rattle.word.specs.Value.{word_bytes}
use Rattle.formed.specs.Pages.{fixed, dynamic, group}
use Rattle.formed.specs.Parts.{Note, tab}
use Rattle.page_ids.specs.declared.Layout.{Layout}
use Rattle.registers.specs.Registers.{register_number, source_of, value_of}
use Rattle.view.specs.View.{View, Setting}
use Rattle.view.specs.Steps.{over, from_group, touched_count, touches, aligned_count, journalled, rolled_count, rolled_bytes, marks, cut}
use Rattle.view.specs.Instructions.{heap_of, static_of}
use Rattle.view.specs.Calls.{Call, Value, Open, Allocate, ReadWord, ReadPartial, ReadRange, ReadByte, DynamicLength, WriteWord, WriteBytes, Lookup, LookupCheck, Free, Window, Truncate, CompareLeft, CompareRight, CompareBoth, Snapshot, Rollback, DeleteHistory, Load, Store, LoadPointer, LoadStatic, StoreStatic}

-- it keeps a byte for each page and address, the held pairs of page and chunk number, the two journals with old words from its own bytes,
-- and, by the rules of Pages, the allocated dynamic pages and the dynamic length
pub record Plain : Type 0 where
  pub bytes : ℕ → ℕ → ℕ
  pub held : List (ℕ × ℕ)
  pub pages : List ℕ
  pub dynamic_length : ℕ
  pub journal : ℕ → List Note

-- a map with another value of one of its parts
abbrev pub with_plain_bytes : (ℕ → ℕ → ℕ) → Plain → Plain
with_plain_bytes x m = record { bytes = x; held = m.held; pages = m.pages; dynamic_length = m.dynamic_length; journal = m.journal }

abbrev pub with_plain_held : List (ℕ × ℕ) → Plain → Plain
with_plain_held x m = record { bytes = m.bytes; held = x; pages = m.pages; dynamic_length = m.dynamic_length; journal = m.journal }

abbrev pub with_pages : List ℕ → Plain → Plain
with_pages x m = record { bytes = m.bytes; held = m.held; pages = x; dynamic_length = m.dynamic_length; journal = m.journal }

abbrev pub with_plain_dynamic_length : ℕ → Plain → Plain
with_plain_dynamic_length x m = record { bytes = m.bytes; held = m.held; pages = m.pages; dynamic_length = x; journal = m.journal }

abbrev pub with_plain_journal : (ℕ → List Note) → Plain → Plain
with_plain_journal x m = record { bytes = m.bytes; held = m.held; pages = m.pages; dynamic_length = m.dynamic_length; journal = x }

-- ---- pairs and pages
unfoldable pub has : List (ℕ × ℕ) → ℕ → ℕ → Bool
has [] p k = false
has ((q, j) ∷ held) p k = (eqb p q && eqb k j) || has held p k

-- the n chunks from k on of page p are held; none twice
unfoldable pub hold : ℕ → ℕ → ℕ → List (ℕ × ℕ) → List (ℕ × ℕ)
hold p k zero held = held
hold p k (suc n) held = cond (has (hold p k n held) p (k + n)) (hold p k n held) ((p, k + n) ∷ hold p k n held)

unfoldable pub member : List ℕ → ℕ → Bool
member [] p = false
member (q ∷ pages) p = eqb p q || member pages p

-- a dynamic page is allocated; none twice
abbrev pub list : Layout → ℕ → List ℕ → List ℕ
list l p pages = cond (dynamic l p) (cond (member pages p) pages (p ∷ pages)) pages

-- those that the test does not name
unfoldable pub others : {A : Type 0} → (A → Bool) → List A → List A
others named [] = []
others named (x ∷ xs) = cond (named x) (others named xs) (x ∷ others named xs)

-- ---- what a call that was carried out does
-- a write sets its bytes, holds each chunk that has one of these, and journals the notes where its page is a bootloader page
abbrev pub put : Layout → ℕ → ℕ → List ℕ → List Note → Plain → Plain
put l p a bs notes m = record {
  bytes = over p a bs m.bytes;
  held = hold p (a / 256) (touched_count a (length bs)) m.held;
  pages = list l p m.pages;
  dynamic_length = cond (dynamic l p) (max m.dynamic_length (group l p + 1)) m.dynamic_length;
  journal = λ j. cond (journalled l p j) (m.journal j ++ notes) (m.journal j);
}

-- the word at an address, as the map has it now
abbrev pub old_word : Plain → ℕ → ℕ → Note
old_word m p a = record { address = a; old = tab 32 (λ i. m.bytes p (a + i)) }

-- a word write journals it
abbrev pub put_word : Layout → ℕ → ℕ → ℕ → Plain → Plain
put_word l p a n m = put l p a (word_bytes n) (old_word m p a ∷ []) m

-- a chunk that `dropped` names is zero and no longer held, a page that `free` names no longer allocated; the dynamic length becomes n
abbrev pub plain_without : (ℕ → ℕ → Bool) → (ℕ → Bool) → ℕ → Plain → Plain
plain_without dropped free n m =
    with_plain_bytes (λ p a. cond (dropped p (a / 256)) 0 (m.bytes p a))
    (with_plain_held (others (λ pair. dropped pair.0 pair.1) m.held) (with_pages (others free m.pages) (with_plain_dynamic_length n m)))

abbrev pub follow : Layout → Call → Plain → Plain
follow l (Open t calldata) m = m
follow l (Allocate p bs) m = put l p 0 bs [] m
follow l (ReadWord p a) m = m
follow l (ReadPartial p x y) m = m
follow l (ReadRange p x y n) m = m
follow l (ReadByte p a) m = m
follow l DynamicLength m = m
follow l (WriteWord p a n) m = put_word l p a n m
follow l (WriteBytes p a bs) m = put l p a bs (tab (aligned_count a (length bs)) (λ i. old_word m p (32 * (a / 32 + i)))) m
follow l (Lookup p k z) m = m
follow l (LookupCheck p k z) m = m
-- free drops its page's chunks, a window those of its dynamic page that it does not overlap, truncation to n those of dynamic pages of groups from n up
follow l (Free p) m = plain_without (λ q k. eqb q p) (λ q. eqb q p) m.dynamic_length m
follow l (Window p start n) m = plain_without (λ q k. (eqb q p && dynamic l p) && not (touches start n k)) (λ q. false) m.dynamic_length m
follow l (Truncate n) m = plain_without (λ q k. from_group l n q) (from_group l n) n m
follow l (CompareLeft other) m = m
follow l (CompareRight other) m = m
follow l CompareBoth m = m
follow l Snapshot m = m
follow l (Rollback heap aux) m =
    with_plain_bytes (rolled_bytes l (marks heap aux) m.journal rolled_count m.bytes) (with_plain_journal (cut (marks heap aux) m.journal) m)
follow l DeleteHistory m = with_plain_journal (λ j. []) m
follow l (Load area f g p) m = m
-- stores are word writes, of what the register of their value has
follow l (Store area f g p kernel h) m = put_word l (heap_of f area) (source_of g p.source).word (value_of kernel g (register_number p.value)) m
follow l (LoadPointer f g p) m = m
follow l (LoadStatic f g p) m = m
follow l (StoreStatic f g p kernel) m = put_word l (static_of l) (source_of g p.source).word (value_of kernel g (register_number p.value)) m

-- a refused or panicking call is no step
abbrev pub feed : Layout → Call → Outcome Value → Plain → Plain
feed l c o m = cond (carried_out o) (follow l c m) m

-- an accepted opening zeroes the bytes and the dynamic length, empties the rest, and puts calldata on its page
abbrev pub fresh_plain : Setting → List ℕ → Plain
fresh_plain s calldata = put s.layout s.layout.calldata.0 0 calldata [] (record { bytes = λ p a. 0; held = []; pages = []; dynamic_length = 0; journal = λ j. [] })

-- ---- the view that the plain map stands for
abbrev pub seen : Setting → Plain → View
seen s m = record {
  bytes = m.bytes;
  held = has m.held;
  pool = s.chunks - length m.held;
  allocated = λ p. fixed s.layout p || member m.pages p;
  entries_left = s.pages - length m.pages;
  dynamic_length = m.dynamic_length;
  journal = m.journal;
}
