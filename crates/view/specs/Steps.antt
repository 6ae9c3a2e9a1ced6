-- What each call that is carried out does to the view, in the order of 01's plain map.
-- Assumes nothing.
use Rattle.std.specs.Prelude.{Bool, false, cond, not, ◌&&◌, ◌||◌, List, [], ◌∷◌, ◌++◌, ℕ, zero, suc, ◌+◌, ◌*◌, ◌-◌, ◌/◌, ◌%◌, max, ltb, leb, eqb, length, get_or, take, drop, replicate}
use Rattle.index.specs.Index.{all}
use Rattle.formed.specs.Pages.{fixed, dynamic, group, journal_count, journal_page}
use Rattle.formed.specs.Parts.{Note, tab}
use Rattle.page_ids.specs.declared.Layout.{Layout}
use Rattle.store.specs.Keys.{key_factor}
use Rattle.view.specs.View.{View, Setting, with_bytes, with_held, with_pool, with_allocated, with_entries_left, with_dynamic_length, with_journal}

-- ---- reading
-- the n bytes from address a of a page on
abbrev pub run : View → ℕ → ℕ → ℕ → List ℕ
run v p a n = tab n (λ i. v.bytes p (a + i))

-- bytes lead the word; zeros follow
abbrev pub padded : List ℕ → List ℕ
padded bs = bs ++ replicate (32 - length bs) 0

-- ---- ranges: n bytes from address a on touch the chunks from a / 256 to (a + n - 1) / 256, none where n is 0
abbrev pub touched_count : ℕ → ℕ → ℕ
touched_count a zero = 0
touched_count a (suc n) = (a + n) / 256 - a / 256 + 1

abbrev pub touches : ℕ → ℕ → ℕ → Bool
touches a n k = leb (a / 256) k && ltb k (a / 256 + touched_count a n)

-- how many of the n chunk numbers from k on fail the test
unfoldable pub missing : (ℕ → Bool) → ℕ → ℕ → ℕ
missing has k zero = 0
missing has k (suc n) = missing has k n + cond (has (k + n)) 0 1

-- how many chunks of the pool a write of n bytes to address a of page p takes
abbrev pub needs : View → ℕ → ℕ → ℕ → ℕ
needs v p a n = missing (v.held p) (a / 256) (touched_count a n)

-- ---- writing
-- f with the bytes bs from address a of page p on
unfoldable pub over : ℕ → ℕ → List ℕ → (ℕ → ℕ → ℕ) → ℕ → ℕ → ℕ
over p a bs f q b = cond (eqb q p && (leb a b && ltb b (a + length bs))) (get_or bs (b - a) 0) (f q b)

-- is p the page of journal j?
abbrev pub journalled : Layout → ℕ → ℕ → Bool
journalled l p j = ltb j journal_count && eqb p (journal_page l j)

-- the word at address a of page p, as it is now
abbrev pub word_now : View → ℕ → ℕ → Note
word_now v p a = record { address = a; old = run v p a 32 }

-- 01, History: the words that a write journals, oldest first. A word write journals its address and old word
abbrev pub word_notes : View → ℕ → ℕ → List Note
word_notes v p a = word_now v p a ∷ []

-- a byte write each aligned 32-byte word that it touches; length 0 none
abbrev pub aligned_count : ℕ → ℕ → ℕ
aligned_count a zero = 0
aligned_count a (suc n) = (a + n) / 32 - a / 32 + 1

abbrev pub aligned_notes : View → ℕ → ℕ → ℕ → List Note
aligned_notes v p a n = tab (aligned_count a n) (λ i. word_now v p (32 * (a / 32 + i)))

-- the bytes bs written to address a of page p, which journals the notes where it is a bootloader page: bytes are set and their chunks held,
-- the page is allocated, and the dynamic length becomes at least its group + 1
abbrev pub written : Layout → ℕ → ℕ → List ℕ → List Note → View → View
written l p a bs notes v = record {
  bytes = over p a bs v.bytes;
  held = λ q k. (eqb q p && touches a (length bs) k) || v.held q k;
  pool = v.pool - needs v p a (length bs);
  allocated = λ q. eqb q p || v.allocated q;
  entries_left = cond (v.allocated p) v.entries_left (v.entries_left - 1);
  dynamic_length = cond (dynamic l p) (max v.dynamic_length (group l p + 1)) v.dynamic_length;
  journal = λ j. cond (journalled l p j) (v.journal j ++ notes) (v.journal j);
}

abbrev pub word_written : Layout → ℕ → ℕ → List ℕ → View → View
word_written l p a bs v = written l p a bs (word_notes v p a) v

abbrev pub bytes_written : Layout → ℕ → ℕ → List ℕ → View → View
bytes_written l p a bs v = written l p a bs (aligned_notes v p a (length bs)) v

-- ---- allocation: contents from address 0; it journals nothing
abbrev pub contents_allocated : Layout → ℕ → List ℕ → View → View
contents_allocated l p bs v = written l p 0 bs [] v

-- ---- freeing
-- how many of the numbers below n pass the test
unfoldable pub count : (ℕ → Bool) → ℕ → ℕ
count test zero = 0
count test (suc n) = count test n + cond (test n) 1 0

-- how many pairs of a page and a chunk number pass it; a page id has 32 bits, and no chunk number reaches the factor
unfoldable pub pairs : (ℕ → ℕ → Bool) → ℕ
pairs test = count (λ i. test (i / key_factor) (i % key_factor)) 144115188075855872

-- the chunks that `dropped` names are zero and no longer held, the pages that `free` names no longer allocated; each chunk that is not held
-- is in the pool, and each entry that no dynamic page has is left
abbrev pub without : Setting → (ℕ → ℕ → Bool) → (ℕ → Bool) → View → View
without s dropped free v =
    with_bytes (λ q a. cond (dropped q (a / 256)) 0 (v.bytes q a))
    (with_held (λ q k. v.held q k && not (dropped q k))
    (with_pool (s.chunks - pairs (λ q k. v.held q k && not (dropped q k)))
    (with_allocated (λ q. v.allocated q && not (free q))
    (with_entries_left (s.pages - count (λ q. (v.allocated q && not (free q)) && dynamic s.layout q) 4294967296) v))))

-- free drops its page's chunks
abbrev pub freed : Setting → ℕ → View → View
freed s p v = without s (λ q k. eqb q p) (λ q. eqb q p) v

-- a window those of its dynamic page that it does not overlap
abbrev pub windowed : Setting → ℕ → ℕ → ℕ → View → View
windowed s p start n v = without s (λ q k. (eqb q p && dynamic s.layout p) && not (touches start n k)) (λ q. false) v

-- truncation to n those of dynamic pages of groups from n up, and the dynamic length becomes n
abbrev pub from_group : Layout → ℕ → ℕ → Bool
from_group l n q = dynamic l q && leb n (group l q)

abbrev pub shortened : ℕ → View → View
shortened n v = with_dynamic_length n v

abbrev pub truncated : Setting → ℕ → View → View
truncated s n v = shortened n (without s (λ q k. from_group s.layout n q) (from_group s.layout n) v)

-- ---- comparison: two memories are equal when every page has equal bytes and the same dynamic pages are allocated (fixed ones always are)
abbrev pub same_bool : Bool → Bool → Bool
same_bool a b = cond a b (not b)

unfoldable pub alike : View → View → Bool
alike v w = all (λ p. same_bool (v.allocated p) (w.allocated p) && all (λ a. eqb (v.bytes p a) (w.bytes p a)) 4294967327) 4294967296

-- ---- history
-- the words put back, newest first
unfoldable pub undone : ℕ → List Note → (ℕ → ℕ → ℕ) → ℕ → ℕ → ℕ
undone p [] f = f
undone p (note ∷ newer) f = over p note.address note.old (undone p newer f)

-- how many of the journals, from journal 0 on, a rollback goes back in
abbrev pub rolled_count : ℕ
rolled_count = 2

-- each journal's page with the words from number marks j on put back, for the journals below n
unfoldable pub rolled_bytes : Layout → (ℕ → ℕ) → (ℕ → List Note) → ℕ → (ℕ → ℕ → ℕ) → ℕ → ℕ → ℕ
rolled_bytes l marks journal zero f = f
rolled_bytes l marks journal (suc n) f = undone (journal_page l n) (drop (marks n) (journal n)) (rolled_bytes l marks journal n f)

-- the numbers of a snapshot: one for each journal that a rollback goes back in
abbrev pub marks : ℕ → ℕ → ℕ → ℕ
marks heap aux zero = heap
marks heap aux (suc zero) = aux
marks heap aux (suc (suc j)) = 0

-- those journals cut to their numbers; any other stays
abbrev pub cut : (ℕ → ℕ) → (ℕ → List Note) → ℕ → List Note
cut marks journal j = cond (ltb j rolled_count) (take (marks j) (journal j)) (journal j)

-- rollback to the numbers `marks`: words are restored newest first, and the journals cut
abbrev pub rolled_back : Layout → (ℕ → ℕ) → View → View
rolled_back l marks v = with_bytes (rolled_bytes l marks v.journal rolled_count v.bytes) (with_journal (cut marks v.journal) v)

-- deletion empties the journals
abbrev pub forgotten : View → View
forgotten v = with_journal (λ j. []) v

-- ---- opening: bytes and dynamic length are zero, the rest is empty
abbrev pub empty_view : Setting → View
empty_view s = record {
  bytes = λ p a. 0;
  held = λ p k. false;
  pool = s.chunks;
  allocated = fixed s.layout;
  entries_left = s.pages;
  dynamic_length = 0;
  journal = λ j. [];
}

-- and calldata is put on its page
abbrev pub opened : Setting → List ℕ → View
opened s calldata = written s.layout s.layout.calldata.0 0 calldata [] (empty_view s)
