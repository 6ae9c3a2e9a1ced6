-- THE LANGUAGE of traces: what a line means. Document 01, 'The trace program'.
-- Assumes nothing.
use Rattle.std.specs.Prelude.{Bool, true, false, cond, not, ◌&&◌, List, [], ◌∷◌, ℕ, ◌+◌, ◌*◌, ◌-◌, eqb, leb, ltb, length, get_or, replicate, Option, None, Some}
use Rattle.std.specs.Str.{bytes_eq}
use Rattle.word.specs.Value.{value}
use Rattle.trace.specs.declared.Command.{Command}
use Rattle.trace.specs.declared.Command.TheVariants as command

-- A line is a list of bytes, its end not among them. This is what it asks.
pub data Line : Type 0 where
  -- the four fixed ids, base and stride; chunks, pages and journal words
  opens : (static calldata heap aux base stride chunks pages journal_words : ℕ) → Line
  writes : (page address word : ℕ) → Line
  reads : (page address : ℕ) → Line
  takes_snapshot : Line
  rolls_back : (heap aux : ℕ) → Line
  unread : Line

-- ---- fields
abbrev pub on_first : ℕ → List (List ℕ) → List (List ℕ)
on_first b [] = (b ∷ []) ∷ []
on_first b (f ∷ fs) = (b ∷ f) ∷ fs

-- the fields of a line are parted by one space: a doubled, leading or trailing one leaves an empty field, which is no number and no name
unfoldable pub fields : List ℕ → List (List ℕ)
fields [] = [] ∷ []
fields (b ∷ bs) = cond (eqb b 32) ([] ∷ fields bs) (on_first b (fields bs))

-- ---- numbers
-- the digit that a byte stands for: `0` to `9`, and `a` to `f` for 10 to 15; 16 says that it stands for none
unfoldable pub digit : ℕ → ℕ
digit b = cond (leb 48 b && leb b 57) (b - 48) (cond (leb 97 b && leb b 102) (b - 87) 16)

unfoldable pub digital : ℕ → List ℕ → Bool
digital base [] = true
digital base (b ∷ bs) = ltb (digit b) base && digital base bs

-- the number of these digits, after those of n
unfoldable pub number_after : ℕ → ℕ → List ℕ → ℕ
number_after base n [] = n
number_after base n (b ∷ bs) = number_after base (n * base + digit b) bs

abbrev pub numeral_value : ℕ → List ℕ → ℕ
numeral_value base f = number_after base 0 f

-- there is a digit, and a `0` leads no other
unfoldable pub led_well : List ℕ → Bool
led_well [] = false
led_well (b ∷ []) = true
led_well (b ∷ c ∷ bs) = not (eqb b 48)

unfoldable pub decimal : List ℕ → Option ℕ
decimal f = cond (led_well f && (digital 10 f && leb (numeral_value 10 f) 4294967295)) (Some (numeral_value 10 f)) None

unfoldable pub hexadecimal : List ℕ → Option ℕ
hexadecimal f = cond (led_well f && (digital 16 f && leb (length f) 64)) (Some (numeral_value 16 f)) None

-- ---- lines
-- the form of a line
pub data Kind : Type 0 where
  Unread : Kind
  Open : Kind
  Write : Kind
  Read : Kind
  Snapshot : Kind
  Rollback : Kind

-- `open`, `w`, `r`, `s`, `b`
unfoldable pub line_kind : List ℕ → Kind
line_kind name =
    cond (bytes_eq name (111 ∷ 112 ∷ 101 ∷ 110 ∷ [])) Open
    (cond (bytes_eq name (119 ∷ [])) Write
    (cond (bytes_eq name (114 ∷ [])) Read
    (cond (bytes_eq name (115 ∷ [])) Snapshot
    (cond (bytes_eq name (98 ∷ [])) Rollback Unread))))

-- what stands after the name, field by field
abbrev pub form_of : Kind → List (List ℕ → Option ℕ)
form_of Open = replicate 9 decimal
form_of Write = decimal ∷ decimal ∷ hexadecimal ∷ []
form_of Read = decimal ∷ decimal ∷ []
form_of Snapshot = []
form_of Rollback = decimal ∷ decimal ∷ []
form_of Unread = []

abbrev pub also : Option ℕ → Option (List ℕ) → Option (List ℕ)
also None ns = None
also (Some n) None = None
also (Some n) (Some ns) = Some (n ∷ ns)

-- the fields' numbers; none where a field is not of its form, or there are more fields or fewer
abbrev pub numbers : List (List ℕ → Option ℕ) → List (List ℕ) → Option (List ℕ)
numbers [] [] = Some []
numbers [] (f ∷ fs) = None
numbers (form ∷ forms) [] = None
numbers (form ∷ forms) (f ∷ fs) = also (form f) (numbers forms fs)

-- the line of a kind with these numbers
abbrev pub line_of : Kind → List ℕ → Line
line_of Open ns =
    opens (get_or ns 0 0) (get_or ns 1 0) (get_or ns 2 0) (get_or ns 3 0) (get_or ns 4 0) (get_or ns 5 0) (get_or ns 6 0) (get_or ns 7 0) (get_or ns 8 0)
line_of Write ns = writes (get_or ns 0 0) (get_or ns 1 0) (get_or ns 2 0)
line_of Read ns = reads (get_or ns 0 0) (get_or ns 1 0)
line_of Snapshot ns = takes_snapshot
line_of Rollback ns = rolls_back (get_or ns 0 0) (get_or ns 1 0)
line_of Unread ns = unread

abbrev pub line_if : Kind → Option (List ℕ) → Line
line_if k None = unread
line_if k (Some ns) = line_of k ns

abbrev pub line_of_fields : List (List ℕ) → Line
line_of_fields [] = unread
line_of_fields (name ∷ rest) = line_if (line_kind name) (numbers (form_of (line_kind name)) rest)

-- WHAT A LINE MEANS
abbrev pub meaning : List ℕ → Line
meaning line = line_of_fields (fields line)

-- ---- what the code gives
abbrev pub command_line : Command → Line
command_line (command.Open o) =
    opens o.static_memory o.calldata o.bootloader_heap o.bootloader_aux o.base o.stride o.counts.chunks o.counts.pages o.counts.journal_words
command_line (command.Write page address word) = writes page address (value word.limbs)
command_line (command.Read page address) = reads page address
command_line command.Snapshot = takes_snapshot
command_line (command.Rollback heap aux) = rolls_back heap aux

-- the line that a command stands for; there is none where the line is not read
abbrev pub command_of : Option Command → Line
command_of None = unread
command_of (Some c) = command_line c
