-- What an iterator's `all` gives, as `all` of a test by index.
-- Assumes nothing.
use mathlib.Core.Path.{◌≡◌, refl, sym, ap, ◌∙◌}
use mathlib.Core.Bool.{Bool, ◌&&◌}
use mathlib.Core.List.{List}
use Prim.Native.Nat.{ℕ, zero, suc, ◌+◌, ◌*◌, ◌≤◌, ◌<◌}
use native.Mathlib.Nat.{not-suc-le-zero}
use native.Mathlib.Omega.{arith}
use native.Mathlib.Numerals.{add-one}
use lib.ListN.{length, get_or, take, drop}
use Rattle.std.specs.List.{list_all, range_with_len}
use Rattle.std.specs.Simd.{first_chunks}
use Rattle.std.proofs.lemmas.List.Folds.{list_all_more}
use Rattle.std.proofs.lemmas.List.FromFn.{length-range_with_len, get_or-range_with_len}
use Rattle.std.proofs.Common.{mul-zero, zero-add}
use Rattle.std.proofs.Math.Seq.{take-length}
use Rattle.std.proofs.lemmas.List.{drop-drop}
use Rattle.index.specs.Index.{all}

-- a test p of each element, where q is the same test by index
module _ {X : Type 0} (p : X → Bool) (q : ℕ → Bool) (xs : List X) (d : X) where
  pub all_of_front : (n : ℕ) → n ≤ length xs → ((i : ℕ) → i < n → p (get_or xs i d) ≡ q i) → list_all p (take n xs) ≡ all q n
  unfolding all
  all_of_front zero l h = refl
  all_of_front (suc n) l h =
      let lt : n < length xs = omega arith in
      let e : list_all p (take (n + 1) xs) ≡ (list_all p (take n xs) && p (get_or xs n d)) = list_all_more p xs n d lt in
      let f = all_of_front n (omega arith) (λ i k. h i (omega arith)) in
      let g = h n (omega arith) in
      ap (λ (k : ℕ). list_all p (take k xs)) (sym (add-one n)) ∙ e ∙ rw (f, g) refl

  pub all_of_list : (n : ℕ) → length xs ≡ n → ((i : ℕ) → i < n → p (get_or xs i d) ≡ q i) → list_all p xs ≡ all q n
  all_of_list n e h = ap (list_all p) (sym (take-length xs) ∙ ap (λ (k : ℕ). take k xs) e) ∙ all_of_front n (omega arith) h

-- the same test of each number below n
pub all_of_range : (p : ℕ → Bool) (n : ℕ) → list_all p (range_with_len 0 n) ≡ all p n
all_of_range p n = all_of_list p p (range_with_len 0 n) 0 n (length-range_with_len 0 n) (λ i l. ap p (get_or-range_with_len 0 n i 0 l ∙ zero-add i))

-- the elements cut into k arrays of n
module _ {X : Type 0} (n : ℕ) where
  pub length-first_chunks : (k : ℕ) (xs : List X) → length (first_chunks n k xs) ≡ k
  length-first_chunks zero xs = refl
  length-first_chunks (suc k) xs = ap suc (length-first_chunks k (drop n xs))

  pub get_or-first_chunks : (k i : ℕ) (xs d : List X) → i < k → get_or (first_chunks n k xs) i d ≡ take n (drop (n * i) xs)
  get_or-first_chunks zero i xs d l = absurd (not-suc-le-zero l)
  get_or-first_chunks (suc k) zero xs d l = ap (λ (j : ℕ). take n (drop j xs)) (sym (mul-zero n))
  get_or-first_chunks (suc k) (suc i) xs d l =
      let e : n + n * i ≡ n * suc i = omega arith in
      get_or-first_chunks k i (drop n xs) d (omega arith) ∙ ap (take n) (drop-drop (n * i) n xs ∙ ap (λ (j : ℕ). drop j xs) e)
