-- What the quote answers.
-- Assumes nothing.
use Rattle.std.specs.Prelude.{ℕ, suc, ◌-◌, cond, List, [], ◌∷◌, length, nat_lt, Result}
use Rattle.outcome.specs.Outcome.{Outcome, refused, done, first_of, result_outcome}
use Rattle.outcome.specs.declared.Refusal.{Refusal}
use Rattle.state.specs.Access.{accessed}
use Rattle.state.specs.declared.quote.RunEnd.{RunEnd}

-- where a run ends: `left` of the gas that it was given is left
abbrev pub end_of : (given left bound position : ℕ) → RunEnd
end_of given left bound position = record { spent = given - left; bound = bound; position = position }

-- the accesses of a list, one after another: each is given the gas and the bound that the last one left. The run ends at the first that is not paid, which
-- panics, or with the list; `position` is that of the list's first access
unfoldable pub walked : (given : ℕ) → List ℕ → (gas bound position : ℕ) → RunEnd
walked given [] gas bound position = end_of given gas bound position
walked given (x ∷ list) gas bound position =
    let g = accessed gas bound x in
    cond g.paid (walked given list g.gas g.bound (suc position)) (end_of given g.gas g.bound position)

-- 01's number of an answer, or where the run ends
abbrev pub quote_outcome : Result RunEnd Refusal → Outcome RunEnd
quote_outcome r = result_outcome (λ end. end) r

-- a list over 4,096 is refused with 8
abbrev pub quoted : List ℕ → (gas bound : ℕ) → Outcome RunEnd
quoted list gas bound = first_of ((nat_lt 4096 (length list), refused 8) ∷ []) (done (walked gas list gas bound 0))
