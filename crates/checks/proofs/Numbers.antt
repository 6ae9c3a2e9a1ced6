-- The number of the first check that holds.
-- Assumes nothing.
use mathlib.Core.Path.{◌≡◌, ◌∙◌}
use mathlib.Core.Bool.{Bool, true, false, not, ◌&&◌}
use mathlib.Core.List.{[], ◌∷◌}
use Prim.Native.Nat.{ℕ}
use lib.Dec.{ltb, eqb}
use Rattle.view.proofs.Refused.{first_holds, first_fails}
use Rattle.outcome.specs.Outcome.{refused}
use Rattle.formed.specs.Pages.{journal_count}
use Rattle.view.specs.View.{View, Setting}
use Rattle.view.specs.Steps.{missing}
use Rattle.view.specs.Checks.{overfull, capacity_checks}
use Rattle.view.specs.Calls.{first_refusal}

-- ---- 9, 10, 11
module _ (s : Setting) (v : View) (p k count w : ℕ) where
  abbrev no_entry : Bool
  no_entry = not (v.allocated p) && eqb v.entries_left 0

  abbrev few_chunks : Bool
  few_chunks = ltb v.pool (missing (v.held p) k count)

  abbrev few_words : Bool
  few_words = overfull s v p w journal_count

  pub room_9 : no_entry ≡ true → 9 ≡ first_refusal (capacity_checks s v p k count w)
  room_9 e = first_holds no_entry 9 ((few_chunks, refused 10) ∷ (few_words, refused 11) ∷ []) e

  pub room_10 : no_entry ≡ false → few_chunks ≡ true → 10 ≡ first_refusal (capacity_checks s v p k count w)
  room_10 e f = first_holds few_chunks 10 ((few_words, refused 11) ∷ []) f ∙ first_fails no_entry (refused 9) ((few_chunks, refused 10) ∷ (few_words, refused 11) ∷ []) e

  pub room_rest : no_entry ≡ false → few_chunks ≡ false → first_refusal ((few_words, refused 11) ∷ []) ≡ first_refusal (capacity_checks s v p k count w)
  room_rest e f =
      first_fails few_chunks (refused 10) ((few_words, refused 11) ∷ []) f ∙ first_fails no_entry (refused 9) ((few_chunks, refused 10) ∷ (few_words, refused 11) ∷ []) e

  pub room_11 : no_entry ≡ false → few_chunks ≡ false → few_words ≡ true → 11 ≡ first_refusal (capacity_checks s v p k count w)
  room_11 e f g = first_holds few_words 11 [] g ∙ room_rest e f

  pub room_0 : no_entry ≡ false → few_chunks ≡ false → few_words ≡ false → 0 ≡ first_refusal (capacity_checks s v p k count w)
  room_0 e f g = first_fails few_words (refused 11) [] g ∙ room_rest e f
