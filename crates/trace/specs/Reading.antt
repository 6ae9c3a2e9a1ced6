-- What the steps of reading a line do.
-- Assumes nothing.
use Rattle.std.specs.Prelude.{◌≡◌, List, [], ◌∷◌, ◌++◌, ℕ, replicate, Option, None, Some, option_map}
use Rattle.std.specs.Borrow.{Bor}
use Rattle.word.specs.Value.{value}
use Rattle.word.specs.declared.Word.{Word}
use Rattle.trace.specs.declared.Fields.{Fields}
use Rattle.trace.specs.declared.Command.{Command}
use Rattle.trace.specs.Language.{Line, unread, fields, decimal, numbers, Kind, form_of, line_if, command_line}

-- the fields that are left; after the last there are none
abbrev pub fields_if : Option (Bor (List ℕ)) → List (List ℕ)
fields_if None = []
fields_if (Some line) = fields line.now

abbrev pub fields_left : Fields → List (List ℕ)
fields_left fs = fields_if fs.left

-- a field, if there is one, before others
abbrev pub before : Option (Bor (List ℕ)) → List (List ℕ) → List (List ℕ)
before None fs = []
before (Some f) fs = f.now ∷ fs

-- numbers, if they are there, before others
abbrev pub ahead : List ℕ → Option (List ℕ) → Option (List ℕ)
ahead ms None = None
ahead ms (Some ns) = Some (ms ++ ns)

abbrev pub ahead_if : Option (List ℕ) → Option (List ℕ) → Option (List ℕ)
ahead_if None ns = None
ahead_if (Some ms) ns = ahead ms ns

-- n decimals are read: those that r has, and gs is left of the fields fs; or one of the n fields is no decimal, or is missing
abbrev pub Decimals : (n : ℕ) (fs : List (List ℕ)) (r : Option (List ℕ)) (gs : List (List ℕ)) → Type 0
Decimals n fs r gs = (forms : List (List ℕ → Option ℕ)) → numbers (replicate n decimal ++ forms) fs ≡ ahead_if r (numbers forms gs)

-- a word's number
abbrev pub word_number : Option Word → Option ℕ
word_number w = option_map (λ w. value w.limbs) w

-- the line of a command, if no fields are left
abbrev pub ended : Option Command → Option (List ℕ) → Line
ended None ns = unread
ended (Some c) None = unread
ended (Some c) (Some ns) = command_line c

-- a command of kind k is read: gs is left of the fields fs
abbrev pub Reads : (k : Kind) (fs : List (List ℕ)) (r : Option Command) (gs : List (List ℕ)) → Type 0
Reads k fs r gs = line_if k (numbers (form_of k) fs) ≡ ended r (numbers [] gs)
