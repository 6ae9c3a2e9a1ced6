use Rattle.std.proofs.Common.{ap, sym, ◌∙◌, List, ℕ, [], ◌∷◌}
use Rattle.std.specs.Prelude.{Option}
use Rattle.trace.specs.Language.{Write, line_if, numbers, also, hexadecimal}
use Rattle.trace.specs.Reading.{ahead, fields_left}
use Rattle.trace.proofs.Lines.{no_read, write_read}
use Rattle.trace.proofs.write.Goals as goal

-- the numbers where these fields are left after the decimals vs
abbrev after : List ℕ → List (List ℕ) → Option (List ℕ)
after vs fs = ahead vs (numbers (hexadecimal ∷ []) fs)

-- the same where the word's field is n
abbrev after_word : List ℕ → List (List ℕ) → Option ℕ → Option (List ℕ)
after_word vs fs n = ahead vs (also n (numbers [] fs))

pub returns-in_err-page : goal.returns-in_err-page
returns-in_err-page c = no_read Write _ _ _ (c.in_err-page.ensures.read (hexadecimal ∷ [])) c.from_residual.ensures

pub returns-in_err-next_field : goal.returns-in_err-next_field
returns-in_err-next_field c =
    no_read Write _ _ _ (c.in_ok-page.ensures.read (hexadecimal ∷ []) ∙ ap (after c.in_ok-page.field-0) c.in_err-next_field.ensures) c.from_residual-in_err-next_field.ensures

pub returns-in_err-word : goal.returns-in_err-word
returns-in_err-word c =
    no_read Write _ _ _ (c.in_ok-page.ensures.read (hexadecimal ∷ []) ∙ ap (after c.in_ok-page.field-0) c.in_ok-next_field.ensures ∙ ap (after_word c.in_ok-page.field-0 (fields_left c.next_field.new.self)) (sym c.in_err-word.ensures)) c.from_residual-in_err-word.ensures

pub returns : goal.returns
returns c =
    ap (line_if Write) (c.in_ok-page.ensures.read (hexadecimal ∷ []) ∙ ap (after c.in_ok-page.field-0) c.in_ok-next_field.ensures ∙ ap (after_word c.in_ok-page.field-0 (fields_left c.next_field.new.self)) (sym c.in_ok-word.ensures))
    ∙ write_read c.in_ok-page.field-0 c.in_ok-word.word _ c.in_ok-page.ensures.long
