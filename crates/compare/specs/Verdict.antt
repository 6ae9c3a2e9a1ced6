-- What a comparison answers.
-- Assumes nothing.
use Rattle.std.specs.Prelude.{Bool, Result}
use Rattle.outcome.specs.Outcome.{Outcome, result_outcome}
use Rattle.outcome.specs.declared.Refusal.{Refusal}
use Rattle.view.specs.Calls.{Value, verdict}

-- 01's number, or whether the memories are equal
abbrev pub comparison_outcome : Result Bool Refusal → Outcome Value
comparison_outcome r = result_outcome verdict r
