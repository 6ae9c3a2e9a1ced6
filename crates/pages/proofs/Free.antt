-- A free place of a table that has one.
-- Assumes nothing.
use Rattle.std.proofs.Common.{◌≡◌, ℕ, zero, suc, ◌<◌, ◌≤◌, List, [], ◌∷◌, Option, Some, None, length, get_or, unwrap_or, refl, arith}
use Prim.Native.Nat.{zero-le, suc-le-suc}
use Rattle.std.specs.Option.{MatchOption}
use Rattle.std.specs.List.{AllWithin, HoldsAt}
use Rattle.index.specs.Index.{used_count}

all_used : (ks : List ℕ) → ((i : ℕ) → i < length ks → get_or ks i 0 ≡ 0 → ⊥) → length ks ≤ used_count ks
unfolding used_count
all_used [] h = zero-le
all_used (zero ∷ ks) h = absurd (h 0 (suc-le-suc zero-le) refl)
all_used (suc k ∷ ks) h = suc-le-suc (all_used ks (λ i l. h (suc i) (suc-le-suc l)))

pub free_found : (ks : List ℕ) (o : Option ℕ) → used_count ks < length ks
    → MatchOption o (AllWithin (λ k. k ≡ 0 → ⊥) ks 0 (length ks)) (λ i. (i < length ks) × HoldsAt (λ k. k ≡ 0) ks i × AllWithin (λ k. k ≡ 0 → ⊥) ks 0 i)
    → (unwrap_or o 0 < length ks) × (get_or ks (unwrap_or o 0) 0 ≡ 0)
free_found ks None few h = absurd (omega (arith, all_used ks (λ i l. h i 0 zero-le l)))
free_found ks (Some i) few h = (h.0, h.1 0)
