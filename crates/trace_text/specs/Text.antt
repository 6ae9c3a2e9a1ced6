-- THE TEXT of answers. Document 01, 'The trace program'.
-- Assumes nothing.
use Rattle.std.specs.Prelude.{◌≡◌, cond, List, [], ◌∷◌, ◌++◌, ℕ, zero, suc, ◌+◌, ◌/◌, ◌%◌, ltb, length, take}
use Rattle.word.specs.Value.{value}
use Rattle.trace_text.specs.declared.Reply.{Reply}
use Rattle.trace_text.specs.declared.Reply.TheVariants.{Unread, Done, Word, Marks, Refused}

-- what a line is answered with
pub data Reported : Type 0 where
  unread : Reported
  done : Reported
  word : (number : ℕ) → Reported
  -- the lengths of the heap journal and of the aux journal
  marks : (heap aux : ℕ) → Reported
  refused : (number : ℕ) → Reported

-- ---- numerals
-- the byte of a digit: `0` to `9`, then `a` to `f`
abbrev pub glyph : ℕ → ℕ
glyph d = cond (ltb d 10) (48 + d) (87 + d)

-- n in a base, without leading zeros: the last digit follows the numeral of the rest. A number of more digits than `most` loses its first ones
unfoldable pub numeral : (base most n : ℕ) → List ℕ
numeral base zero n = []
numeral base (suc most) n = cond (ltb n base) (glyph n ∷ []) (numeral base most (n / base) ++ (glyph (n % base) ∷ []))

abbrev pub decimal_text : ℕ → List ℕ
decimal_text n = numeral 10 64 n

abbrev pub hexadecimal_text : ℕ → List ℕ
hexadecimal_text n = numeral 16 64 n

-- ---- answers
-- `unread`; `ok`; `word` and the word; `snap` and the two lengths; `refused` and the number
abbrev pub text_of : Reported → List ℕ
text_of unread = 117 ∷ 110 ∷ 114 ∷ 101 ∷ 97 ∷ 100 ∷ []
text_of done = 111 ∷ 107 ∷ []
text_of (word n) = (119 ∷ 111 ∷ 114 ∷ 100 ∷ 32 ∷ []) ++ hexadecimal_text n
text_of (marks h a) = (115 ∷ 110 ∷ 97 ∷ 112 ∷ 32 ∷ []) ++ (decimal_text h ++ ((32 ∷ []) ++ decimal_text a))
text_of (refused n) = (114 ∷ 101 ∷ 102 ∷ 117 ∷ 115 ∷ 101 ∷ 100 ∷ 32 ∷ []) ++ decimal_text n

-- ---- what the code has
abbrev pub reply_of : Reply → Reported
reply_of Unread = unread
reply_of Done = done
reply_of (Word w) = word (value w.limbs)
reply_of (Marks h a) = marks h a
reply_of (Refused n) = refused n

-- a text stands in d from place `at` on, after what o has there, and the next place is `end`; what follows is open
pub record Wrote (text : List ℕ) (at : ℕ) (o d : List ℕ) (end : ℕ) : Type 0 where
  pub place : end ≡ at + length text
  pub long : length d ≡ length o
  pub stands : take end d ≡ take at o ++ text
