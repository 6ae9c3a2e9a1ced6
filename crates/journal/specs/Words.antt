-- Words of 32 bytes in the journals.
-- Assumes nothing.
use Rattle.std.specs.Prelude.{◌≡◌, List, ℕ, ◌+◌, ◌*◌, ◌%◌, ◌<◌, ◌≤◌, length, get_or, set}
use Rattle.store.specs.Mem.{head_length, journals_place, slot_count, journal_words, journal_length}
use Rattle.formed.specs.Pages.{journal_count}
use Rattle.formed.specs.Buffers.{bytes_for, words_for}
use Rattle.formed.specs.Parts.{word_number, note_place, old_place}
use Rattle.bodies.specs.Words.{place_in, Spread}

-- bytes and words have the lengths of a memory
pub record Long (bytes words : List ℕ) : Type 0 where
  pub in_bytes : length bytes ≡ bytes_for (slot_count words) (journal_words words)
  pub in_words : length words ≡ words_for (slot_count words) (journal_words words)
  pub chunks_hi : slot_count words ≤ 65536
  pub journal_hi : journal_words words ≤ 65536

-- word i of journal j has a place
pub record Numbered (words : List ℕ) (j i : ℕ) : Type 0 where
  pub head : head_length ≤ length words
  pub journal_hi : journal_words words ≤ 65536
  pub which : j < journal_count
  pub inside : i < journal_words words

-- a word whose chunks are held at the slots s and t can be noted in journal j
pub record NoteRoom (bytes words : List ℕ) (j s t : ℕ) : Type 0 where
  pub long : Long bytes words
  pub which : j < journal_count
  pub room : journal_length words j < journal_words words
  pub first : s < slot_count words
  pub last : t < slot_count words

-- words with the numbers of a note at number n, and the journal's length, word l, raised
unfoldable pub note_set : List ℕ → ℕ → ℕ → ℕ → ℕ → ℕ → List ℕ
note_set w l n a s t = set (set (set (set w (head_length + 3 * n) a) (head_length + 3 * n + 1) s) (head_length + 3 * n + 2) t) l (get_or w l 0 + 1)

-- bytes', words' are bytes, words after the word at address a was noted so
pub record NotedAt (bytes words : List ℕ) (j a s t : ℕ) (bytes' words' : List ℕ) : Type 0 where
  pub words_are : words' ≡ note_set words (journals_place + j) (word_number words j (journal_length words j)) a s t
  pub old : Spread (λ k. old_place words j (journal_length words j) + k) (λ k. get_or bytes (place_in s t (a % 256) k) 0) 32 bytes bytes'

-- word i of journal j can be put back at the slots noted
pub record BackAsks (bytes words : List ℕ) (j i : ℕ) : Type 0 where
  pub long : Long bytes words
  pub which : j < journal_count
  pub inside : i < journal_words words
  pub first : get_or words (note_place words j i + 1) 0 < slot_count words
  pub last : get_or words (note_place words j i + 2) 0 < slot_count words

-- bytes' is bytes after that
abbrev pub PutBack : List ℕ → List ℕ → ℕ → ℕ → List ℕ → Type 0
PutBack bytes words j i bytes' =
    Spread (place_in (get_or words (note_place words j i + 1) 0) (get_or words (note_place words j i + 2) 0) (get_or words (note_place words j i) 0 % 256)) (λ k. get_or bytes (old_place words j i + k) 0) 32 bytes bytes'
