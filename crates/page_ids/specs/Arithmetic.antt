-- Page arithmetic: a number that leaves 32 bits, either way, is refused with 4.
-- Assumes nothing.
use Rattle.std.specs.Prelude.{[], ◌∷◌, ℕ, ◌+◌, ◌-◌, ◌^◌, leb, ltb, Result}
use Rattle.outcome.specs.Outcome.{Outcome, refused, done, first_of, result_outcome}
use Rattle.outcome.specs.declared.Refusal.{Refusal}
use Rattle.page_ids.specs.declared.Layout.{Layout}
use Rattle.page_ids.specs.declared.PageId.{PageId}
use Rattle.page_ids.specs.declared.BasePage.{BasePage}

-- 01's number, or the page id, of an answer
abbrev pub page_outcome : Result PageId Refusal → Outcome ℕ
page_outcome r = result_outcome (λ p. p.0) r

-- 01's number, or the base page, of an answer
abbrev pub base_outcome : Result BasePage Refusal → Outcome ℕ
base_outcome r = result_outcome (λ b. b.0) r

-- the code page of a base page has the base's own number
abbrev pub code_page : ℕ → ℕ
code_page base = base

-- the base page of the first dynamic group is the layout's base
abbrev pub first_base : Layout → ℕ
first_base layout = layout.base.0

abbrev pub sum : ℕ → ℕ → Outcome ℕ
sum a b = first_of ((leb (2 ^ 32) (a + b), refused 4) ∷ []) (done (a + b))

abbrev pub difference : ℕ → ℕ → Outcome ℕ
difference a b = first_of ((ltb a b, refused 4) ∷ []) (done (a - b))
