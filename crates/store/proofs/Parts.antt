-- Parts of a list, as calls lend them.
-- Assumes nothing.
use Rattle.std.proofs.Common.{◌≡◌, ℕ, zero, suc, ◌+◌, ◌-◌, ◌<◌, ◌≤◌, List, [], ◌∷◌, ◌++◌, length, take, drop, set, sym, refl, ap, ◌∙◌, append-nil, le_of_eq, le_of_suc-le-suc, not-suc-le-zero, arith, length-append, length-drop, drop_of_length-le, length-take-le, take_all}
use native.Mathlib.Nat.{add-sub_cancel_left}

-- `&xs[0..n]` is `take (n - 0) xs`, and `&mut xs[0..n]` leaves `e ++ drop (n - 0) xs`
pub sub_zero : (n : ℕ) → n - 0 ≡ n
sub_zero n = omega arith

pub take_front : (xs ys : List ℕ) (n : ℕ) → length xs ≡ n → take n (xs ++ ys) ≡ xs
take_front [] ys n e = rw (sym e)
take_front (x ∷ xs) ys zero e = absurd (omega arith)
take_front (x ∷ xs) ys (suc n) e = let q : length xs ≡ n = omega arith in ap (λ (t : List ℕ). x ∷ t) (take_front xs ys n q)

pub drop_front : (xs ys : List ℕ) (n : ℕ) → length xs ≡ n → drop n (xs ++ ys) ≡ ys
drop_front [] ys n e = rw (sym e)
drop_front (x ∷ xs) ys zero e = absurd (omega arith)
drop_front (x ∷ xs) ys (suc n) e = let q : length xs ≡ n = omega arith in drop_front xs ys n q

pub take_drop : (xs : List ℕ) (n : ℕ) → take n xs ++ drop n xs ≡ xs
take_drop xs zero = refl
take_drop [] (suc n) = refl
take_drop (x ∷ xs) (suc n) = ap (λ (t : List ℕ). x ∷ t) (take_drop xs n)

-- a store into the first part
pub set_part : (xs : List ℕ) (n i v : ℕ) → i < n → set (take n xs) i v ++ drop n xs ≡ set xs i v
set_part xs zero i v l = absurd (not-suc-le-zero l)
set_part [] (suc n) i v l = refl
set_part (x ∷ xs) (suc n) zero v l = ap (λ (t : List ℕ). v ∷ t) (take_drop xs n)
set_part (x ∷ xs) (suc n) (suc i) v l = ap (λ (t : List ℕ). x ∷ t) (set_part xs n i v (le_of_suc-le-suc l))

pub take_set : (xs : List ℕ) (n i v : ℕ) → i < n → take n (set xs i v) ≡ set (take n xs) i v
take_set xs zero i v l = absurd (not-suc-le-zero l)
take_set [] (suc n) i v l = refl
take_set (x ∷ xs) (suc n) zero v l = refl
take_set (x ∷ xs) (suc n) (suc i) v l = ap (λ (t : List ℕ). x ∷ t) (take_set xs n i v (le_of_suc-le-suc l))

pub drop_set : (xs : List ℕ) (n i v : ℕ) → i < n → drop n (set xs i v) ≡ drop n xs
drop_set xs zero i v l = absurd (not-suc-le-zero l)
drop_set [] (suc n) i v l = refl
drop_set (x ∷ xs) (suc n) zero v l = refl
drop_set (x ∷ xs) (suc n) (suc i) v l = drop_set xs n i v (le_of_suc-le-suc l)

pub take_set_past : (xs : List ℕ) (n i v : ℕ) → n ≤ i → take n (set xs i v) ≡ take n xs
take_set_past xs zero i v l = refl
take_set_past [] (suc n) i v l = refl
take_set_past (x ∷ xs) (suc n) zero v l = absurd (not-suc-le-zero l)
take_set_past (x ∷ xs) (suc n) (suc i) v l = ap (λ (t : List ℕ). x ∷ t) (take_set_past xs n i v (le_of_suc-le-suc l))

-- `&mut xs[0..n]` keeps the length
pub put_long : (xs e : List ℕ) (n : ℕ) → length e ≡ n → n ≤ length xs → length (e ++ drop n xs) ≡ length xs
put_long xs e n a b = simp (length-append, length-drop) (omega arith)

-- `&xs[n..]` is `take (length xs - n) (drop n xs)`
pub rest_part : (xs : List ℕ) (n : ℕ) → take (length xs - n) (drop n xs) ≡ drop n xs
rest_part xs n = take_all (length xs - n) (drop n xs) (le_of_eq (length-drop n xs))

-- `&mut xs[n..]` leaves `take n xs ++ (e ++ drop (length xs - n) (drop n xs))`: the first part as it was, and e
module _ (xs e : List ℕ) (n : ℕ) (l : n ≤ length xs) where
  pub rest_low : take n (take n xs ++ (e ++ drop (length xs - n) (drop n xs))) ≡ take n xs
  rest_low = take_front (take n xs) (e ++ drop (length xs - n) (drop n xs)) n (length-take-le n xs l)

  pub rest_high : drop n (take n xs ++ (e ++ drop (length xs - n) (drop n xs))) ≡ e
  rest_high =
      drop_front (take n xs) (e ++ drop (length xs - n) (drop n xs)) n (length-take-le n xs l)
      ∙ ap (λ (x : List ℕ). e ++ x) (drop_of_length-le (drop n xs) {i = length xs - n} (let d = length-drop n xs in omega arith))
      ∙ append-nil e

-- `&xs[a..a + n]` is `take (a + n - a) (drop a xs)`
pub mid_part : (xs : List ℕ) (a n : ℕ) → take (a + n - a) (drop a xs) ≡ take n (drop a xs)
mid_part xs a n = ap (λ (x : ℕ). take x (drop a xs)) (add-sub_cancel_left a n)
