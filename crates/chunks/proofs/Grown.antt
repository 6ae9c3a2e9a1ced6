-- A table of keys where a key was given a free place.
-- Assumes nothing.
use mathlib.Core.Path.{◌≡◌, refl, ap, ◌∙◌}
use mathlib.Core.Logic.{◌⊎◌, inl, inr, ⊎_elim}
use mathlib.Core.List.{List}
use Prim.Native.Nat.{ℕ, ◌+◌, ◌≤◌, ◌<◌}
use native.Mathlib.Omega.{arith}
use lib.ListN.{length, get_or, set, length-set}
use lib.Seq.{get_or-set_same, get_or-set_other}
use Rattle.index.proofs.Places.{seek_other}
use Rattle.index.specs.Index.{seek, free_count}
use Rattle.index.proofs.Logic.{same_or_not}
use Rattle.index.proofs.Counts.{count_fill, used_free}
use Rattle.pool.specs.Hold.{lacks}
use Rattle.pool.proofs.Holds.{lacks_one, lacks_none}

-- ks' is ks after the key k was given a place if it had none
pub record Grown (k : ℕ) (ks ks' : List ℕ) : Type 0 where
  pub long : length ks' ≡ length ks
  pub inside : seek ks' k < length ks
  pub kept : (i : ℕ) → 0 < get_or ks i 0 → get_or ks' i 0 ≡ get_or ks i 0
  pub new : (i : ℕ) → get_or ks i 0 ≡ 0 → (get_or ks' i 0 ≡ 0) ⊎ (get_or ks' i 0 ≡ k)
  pub others : (j : ℕ) → 0 < j → (j ≡ k → ⊥) → seek ks' j ≡ seek ks j
  pub place : (seek ks' k ≡ seek ks k) ⊎ ((get_or ks (seek ks' k) 0 ≡ 0) × (length ks ≤ seek ks k))
  pub left : free_count ks' + lacks ks k ≡ free_count ks

module _ (k : ℕ) (ks : List ℕ) where
  pub grown_was : seek ks k < length ks → Grown k ks ks
  grown_was l = record {
    long = refl;
    inside = l;
    kept = λ i p. refl;
    new = λ i z. inl z;
    others = λ j p n. refl;
    place = inl refl;
    left = let h = lacks_none ks k l in omega arith;
  }

  pub grown_new : 0 < k → length ks ≤ seek ks k → (s : ℕ) → s < length ks → get_or ks s 0 ≡ 0 → seek (set ks s k) k ≡ s → Grown k ks (set ks s k)
  grown_new p none s l z at = record {
    long = length-set ks s k;
    inside = omega arith;
    kept = λ i q. get_or-set_other ks s i k 0 (λ (e : i ≡ s). let h : get_or ks i 0 ≡ 0 = ap (λ (x : ℕ). get_or ks x 0) e ∙ z in omega arith);
    new = λ i q. ⊎_elim (λ (e : i ≡ s). inr (ap (λ (x : ℕ). get_or (set ks s k) x 0) e ∙ get_or-set_same ks s k 0 l)) (λ (n : i ≡ s → ⊥). inl (get_or-set_other ks s i k 0 n ∙ q)) (same_or_not i s);
    others = λ j q n. seek_other ks s k j z q n;
    place = inr (ap (λ (x : ℕ). get_or ks x 0) at ∙ z, none);
    left =
        let a = used_free ks in
        let b = used_free (set ks s k) in
        let c = count_fill ks s k l z p in
        let d = length-set ks s k in
        let e = lacks_one ks k none in
        omega arith;
  }
