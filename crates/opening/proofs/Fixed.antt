-- The fixed pages are listed one by one in an empty table.
-- Assumes nothing.
use mathlib.Core.Path.{◌≡◌, refl, ap, ◌∙◌, subst}
use mathlib.Core.Logic.{⊎_elim}
use mathlib.Core.Bool.{true}
use mathlib.Core.List.{List, [], ◌∷◌}
use Prim.Native.Nat.{ℕ, zero, suc, ◌+◌, ◌≤◌, ◌<◌, zero-le}
use native.Mathlib.Nat.{le_antisymm}
use native.Mathlib.Omega.{arith}
use lib.ListN.{length, get_or, set, take, replicate}
use lib.Seq.{get_or-set_same, get_or-set_other}
use Rattle.index.specs.Index.{rises, used_count, indexed, seek, Insertable}
use Rattle.index.proofs.Logic.{same_or_not, lt_or_ge, le_of_not_lt}
use Rattle.index.proofs.All.{all_none}
use Rattle.index.proofs.Orders.{index_is}
use Rattle.index.proofs.Places.{seek_hit}
use Rattle.opening.specs.Opening.{FixedAsks, FirstPages}

-- zeros, at any place
pub get_or_zeros : (n i : ℕ) → ◌≡◌ {A = ℕ} (get_or (replicate n 0) i 0) 0
get_or_zeros zero i = refl
get_or_zeros (suc n) zero = refl
get_or_zeros (suc n) (suc i) = get_or_zeros n i

pub take_zeros : (xs : List ℕ) → ((i : ℕ) → get_or xs i 0 ≡ 0) → (c i : ℕ) → get_or (take c xs) i 0 ≡ 0
take_zeros xs h zero i = refl
take_zeros [] h (suc c) i = refl
take_zeros (x ∷ xs) h (suc c) zero = h 0
take_zeros (x ∷ xs) h (suc c) (suc i) = take_zeros xs (λ j. h (suc j)) c i

none_used : (ks : List ℕ) → ((i : ℕ) → get_or ks i 0 ≡ 0) → used_count ks ≡ 0
unfolding used_count
none_used [] h = refl
none_used (zero ∷ ks) h = none_used ks (λ i. h (suc i))
none_used (suc k ∷ ks) h = absurd (let z = h 0 in omega arith)

-- an empty table, with any order
pub empty_index : (ks os : List ℕ) → ((i : ℕ) → get_or ks i 0 ≡ 0) → indexed ks os 0 ≡ true
empty_index ks os h = index_is ks os 0 zero-le (none_used ks h) ∙ all_none (rises ks os)

module _ (ws : List ℕ) where
  pub first_none : (ks os : List ℕ) → FixedAsks ks os ws → FirstPages ws ks os 0
  first_none ks os a = record { index = empty_index ks os a.free; listed = λ i l. absurd (omega arith); rest = λ i l. a.free i }

  module _ (ks os : List ℕ) (n : ℕ) (f : FirstPages ws ks os n) where
    module _ (apart : (i j : ℕ) → i < j → j < 4 → get_or ws i 0 ≡ get_or ws j 0 → ⊥) (l : n < 4) (in_keys : 4 ≤ length ks) (in_order : 4 ≤ length os) where
      unlisted : (i : ℕ) → get_or ks i 0 ≡ get_or ws n 0 + 1 → ⊥
      unlisted i e =
          ⊎_elim
          (λ (b : i < n). let h = f.listed i b in apart i n b l (omega arith))
          (λ (b : n ≤ i). let h = f.rest i b in omega arith)
          (lt_or_ge i n)

      pub first_asks : Insertable ks os n n (get_or ws n 0 + 1)
      first_asks = record {
        index = f.index;
        room = omega arith;
        place = omega arith;
        free = f.rest n (omega arith);
        key = omega arith;
        new = le_of_not_lt (λ v. unlisted (seek ks (get_or ws n 0 + 1)) (seek_hit ks (get_or ws n 0 + 1) v));
      }

    pub first_more : n < length ks → (ks' os' : List ℕ) → ks' ≡ set ks n (get_or ws n 0 + 1) → indexed ks' os' (n + 1) ≡ true → FirstPages ws ks' os' (n + 1)
    first_more l ks' os' e ix = record {
      index = ix;
      listed = λ i b.
          ap (λ (xs : List ℕ). get_or xs i 0) e
          ∙ ⊎_elim
          (λ (q : i ≡ n). rw q (get_or-set_same ks n (get_or ws n 0 + 1) 0 l))
          (λ (q : i ≡ n → ⊥). get_or-set_other ks n i (get_or ws n 0 + 1) 0 q ∙ f.listed i (omega arith))
          (same_or_not i n);
      rest = λ i b. ap (λ (xs : List ℕ). get_or xs i 0) e ∙ get_or-set_other ks n i (get_or ws n 0 + 1) 0 (λ q. omega arith) ∙ f.rest i (omega arith);
    }

    pub first_four : n ≤ 4 → 4 ≤ n → FirstPages ws ks os 4
    first_four a b = subst (λ (x : ℕ). FirstPages ws ks os x) (le_antisymm a b) f
