-- How an opening is answered: 1 for a bad layout, then 2 for counts that are out of their bounds or beyond the space.
-- Assumes nothing.
use mathlib.Core.Path.{◌≡◌, refl}
use mathlib.Core.Logic.{◌⊎◌, ⊎_elim}
use mathlib.Core.Bool.{Bool, true, false, cond, not, ◌&&◌, and-false}
use mathlib.Core.List.{List}
use Prim.Native.Nat.{ℕ, ◌+◌, ◌*◌, ◌≤◌, ◌<◌, min, zero-le}
use native.Mathlib.Omega.{arith}
use lib.Dec.{eqb, ltb}
use lib.ListN.{length, take, length-take}
use lib.Seq.{length-take-le}
use borrow.Author.Tests.{eq-eqb, ne_eqb, le-ltb}
use Rattle.outcome.specs.Outcome as outcome
use Rattle.page_ids.specs.declared.Layout.{Layout}
use Rattle.page_ids.specs.Decode.{bad_layout}
use Rattle.store.specs.Mem.{Mem, pool_length}
use Rattle.view.specs.Checks.{counts_right, lengths_right}
use Rattle.view.specs.Calls.{nothing}
use Rattle.opening.specs.Opening.{setting_from}
use Rattle.trace_text.specs.Text.{done, refused}
use Rattle.trace_calls.specs.Space.{Within, Space}
use Rattle.trace_calls.specs.Trace.{reported, open_outcome, bytes_in, keys_in, parts}

short : (n k : ℕ) (xs : List ℕ) → n < k → length (take n xs) ≡ k → ⊥
short n k xs l e = omega (arith, length-take n xs)

fewer_chunks : (x z : ℕ) → 128 < x → bytes_in x z < 256 * x + 64 * z
fewer_chunks x z l = omega arith

fewer_words : (x z : ℕ) → 256 < z → bytes_in x z < 256 * x + 64 * z
fewer_words x z l = omega arith

fewer_pages : (x y : ℕ) → 64 < y → keys_in x y < x + y + 4
fewer_pages x y l = omega arith

module _ (l : Layout) (x y z : ℕ) (m : Mem) where
  abbrev lent : Mem
  lent = parts x y z m

  bytes_short : bytes_in x z < 256 * x + 64 * z → lengths_right (setting_from l x y z) lent ≡ false
  bytes_short h = rw (ne_eqb (length (take (bytes_in x z) m.bytes)) (256 * x + 64 * z) (short (bytes_in x z) (256 * x + 64 * z) m.bytes h))

  keys_short : keys_in x y < x + y + 4 → lengths_right (setting_from l x y z) lent ≡ false
  keys_short h =
      rw (ne_eqb (length (take (keys_in x y) m.keys)) (x + y + 4) (short (keys_in x y) (x + y + 4) m.keys h)) (and-false (eqb (length (take (bytes_in x z) m.bytes)) (256 * x + 64 * z)))

  lengths_wrong : (128 < x) ⊎ ((64 < y) ⊎ (256 < z)) → lengths_right (setting_from l x y z) lent ≡ false
  lengths_wrong b = ⊎_elim (λ h. bytes_short (fewer_chunks x z h)) (λ c. ⊎_elim (λ h. keys_short (fewer_pages x y h)) (λ h. bytes_short (fewer_words x z h)) c) b

  refused_two : (t : Bool) → reported (cond t (outcome.refused 1) (outcome.refused 2)) ≡ cond t (refused 1) (refused 2)
  refused_two true = refl
  refused_two false = refl

  -- counts beyond the space
  pub beyond : (128 < x) ⊎ ((64 < y) ⊎ (256 < z)) → reported (open_outcome lent (setting_from l x y z)) ≡ cond (bad_layout l) (refused 1) (refused 2)
  beyond b = rw (lengths_wrong b, and-false (counts_right (setting_from l x y z))) (refused_two (bad_layout l))

  whole : (x k : ℕ) → x ≤ k → min x k ≡ x
  whole x k h = omega arith

  lengths_right_lem : Space m.bytes m.keys m.order m.words → Within x y z → lengths_right (setting_from l x y z) lent ≡ true
  lengths_right_lem s w =
      let a = whole x 128 w.0 in
      let b = whole y 64 w.1 in
      let c = whole z 256 w.2 in
      rw (a, b, c, length-take-le (256 * x + 64 * z) m.bytes (omega (arith, s.0, w.0, w.2)), length-take-le (x + y + 4) m.keys (omega (arith, s.1, w.0, w.1)), length-take-le (3 * x + y + 4) m.order (omega (arith, s.2, w.0, w.1)), length-take-le (16 + 6 * z + pool_length x) m.words (omega (arith, s.3, w.0, w.2)), eq-eqb (256 * x + 64 * z) (256 * x + 64 * z) refl, eq-eqb (x + y + 4) (x + y + 4) refl, eq-eqb (3 * x + y + 4) (3 * x + y + 4) refl, eq-eqb (16 + 6 * z + pool_length x) (16 + 6 * z + pool_length x) refl)

  told_by : (t u : Bool) → reported (cond t (outcome.refused 1) (cond (not (u && true)) (outcome.refused 2) (cond (ltb x 0) (outcome.refused 10) (outcome.done nothing)))) ≡ cond t (refused 1) (cond u done (refused 2))
  told_by true u = refl
  told_by false true = rw (le-ltb x 0 zero-le)
  told_by false false = refl

  -- counts within the space
  pub within : Space m.bytes m.keys m.order m.words → Within x y z → reported (open_outcome lent (setting_from l x y z)) ≡ cond (bad_layout l) (refused 1) (cond (counts_right (setting_from l x y z)) done (refused 2))
  within s w = rw (lengths_right_lem s w) (told_by (bad_layout l) (counts_right (setting_from l x y z)))
