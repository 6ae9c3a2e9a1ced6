-- How many numbers below a bound pass a test, and when they are as many as the places in use of a table of keys.
-- Assumes nothing.
use mathlib.Core.Path.{◌≡◌, refl, sym, ap, ◌∙◌}
use mathlib.Core.Logic.{⊎_elim}
use mathlib.Core.List.{List, [], ◌∷◌}
use mathlib.Core.Bool.{Bool, true, false, cond, not, ◌&&◌, and-true, and-false, true≢false}
use Prim.Native.Nat.{ℕ, zero, suc, ◌+◌, ◌≤◌, ◌<◌, zero-le, suc-le-suc}
use native.Mathlib.Nat.{le_of_suc-le-suc, not-suc-le-zero, eq-or-lt_of_le, lt_trans, lt-suc_self}
use native.Mathlib.Omega.{arith}
use lib.Dec.{eqb}
use lib.ListN.{get_or}
use borrow.Author.Tests.{eq-eqb, ne_eqb}
use Rattle.index.specs.Index.{used_count}
use Rattle.index.proofs.Logic.{and_left, and_right, same_or_not, not_held}
use Rattle.view.specs.Steps.{count}

-- ---- the count
-- it asks of no number from the bound on
pub count_same : (f g : ℕ → Bool) (n : ℕ) → ((x : ℕ) → x < n → f x ≡ g x) → count f n ≡ count g n
unfolding count
count_same f g zero h = refl
count_same f g (suc n) h = rw (count_same f g n (λ x l. h x (lt_trans l (lt-suc_self n))), h n (lt-suc_self n))

pub count_none : (f : ℕ → Bool) (n : ℕ) → ((x : ℕ) → x < n → f x ≡ false) → count f n ≡ 0
unfolding count
count_none f zero h = refl
count_none f (suc n) h = rw (count_none f n (λ x l. h x (lt_trans l (lt-suc_self n))), h n (lt-suc_self n))

-- f, but not at x
abbrev pub but : (ℕ → Bool) → ℕ → ℕ → Bool
but f x y = f y && not (eqb y x)

module _ (f : ℕ → Bool) (x : ℕ) where
  pub but_here : but f x x ≡ false
  but_here = rw (eq-eqb x x refl) (and-false (f x))

  pub but_there : (y : ℕ) → (y ≡ x → ⊥) → but f x y ≡ f y
  but_there y ne = rw (ne_eqb y x ne) (and-true (f y))

  pub but_means : (y : ℕ) → but f x y ≡ true → (f y ≡ true) × (y ≡ x → ⊥)
  but_means y t =
      (and_left (f y) (not (eqb y x)) t, λ e. true≢false (sym (and_right (f y) (not (eqb y x)) t) ∙ ap not (eq-eqb y x e)))

  -- where f holds at x, it counts one less
  pub count_but : (n : ℕ) → x < n → f x ≡ true → count (but f x) n + 1 ≡ count f n
  unfolding count
  count_but zero l e = absurd (not-suc-le-zero l)
  count_but (suc n) l e = ⊎_elim last (λ k. earlier k (count_but n k e)) (eq-or-lt_of_le (le_of_suc-le-suc l))
    where
      last : x ≡ n → count (but f x) n + cond (but f x n) 1 0 + 1 ≡ count f n + cond (f n) 1 0
      last q =
          let here : but f x n ≡ false = ap (but f x) (sym q) ∙ but_here in
          let there : f n ≡ true = ap f (sym q) ∙ e in
          let below : count (but f x) n ≡ count f n = count_same (but f x) f n (λ y k. but_there y (λ z. omega arith)) in
          rw (here, there) (omega arith)

      earlier : x < n → count (but f x) n + 1 ≡ count f n → count (but f x) n + cond (but f x n) 1 0 + 1 ≡ count f n + cond (f n) 1 0
      earlier k ih = rw (but_there n (λ z. omega arith)) (omega arith)

-- two tests that differ at no number but x count at most one apart
pub count_near : (f g : ℕ → Bool) (x : ℕ) → ((y : ℕ) → (y ≡ x → ⊥) → f y ≡ g y) → (n : ℕ) → count f n ≤ count g n + 1
unfolding count
count_near f g x h zero = omega arith
count_near f g x h (suc n) = ⊎_elim last (λ ne. other ne (count_near f g x h n)) (same_or_not n x)
  where
    one : (a b : Bool) (k : ℕ) → k + cond a 1 0 ≤ k + cond b 1 0 + 1
    one true true k = omega arith
    one true false k = omega arith
    one false b k = omega arith

    last : n ≡ x → count f n + cond (f n) 1 0 ≤ count g n + cond (g n) 1 0 + 1
    last e =
        let below : count f n ≡ count g n = count_same f g n (λ y k. h y (λ z. omega arith)) in
        rw below (one (f n) (g n) (count g n))

    other : (n ≡ x → ⊥) → count f n ≤ count g n + 1 → count f n + cond (f n) 1 0 ≤ count g n + cond (g n) 1 0 + 1
    other ne ih = rw (h n ne) (omega arith)

-- the numbers that pass are those that pass another test too, and those that do not
pub count_split : (f t : ℕ → Bool) (n : ℕ) → count f n ≡ count (λ x. f x && t x) n + count (λ x. f x && not (t x)) n
unfolding count
count_split f t zero = refl
count_split f t (suc n) = let ih = count_split f t n in one (f n) (t n) (count f n) (count (λ x. f x && t x) n) (count (λ x. f x && not (t x)) n) ih
  where
    one : (a b : Bool) (k i j : ℕ) → k ≡ i + j → k + cond a 1 0 ≡ i + cond (a && b) 1 0 + (j + cond (a && not b) 1 0)
    one true true k i j e = omega arith
    one true false k i j e = omega arith
    one false b k i j e = omega arith

-- ---- a table of keys
-- the key k stands in it
pub record Stands (ks : List ℕ) (k : ℕ) : Type 0 where
  pub place : ℕ
  pub there : get_or ks place 0 ≡ k

-- each number below n that passes the test f has a key of its own that stands there, and each place in use has the key of such a number
pub record Numbered (ks : List ℕ) (f : ℕ → Bool) (n : ℕ) (key number : ℕ → ℕ) : Type 0 where
  pub once : (s t : ℕ) → 0 < get_or ks s 0 → get_or ks s 0 ≡ get_or ks t 0 → s ≡ t
  pub used : (x : ℕ) → x < n → f x ≡ true → 0 < key x
  pub stands : (x : ℕ) → x < n → f x ≡ true → Stands ks (key x)
  pub again : (x : ℕ) → x < n → f x ≡ true → number (key x) ≡ x
  pub below : (s : ℕ) → 0 < get_or ks s 0 → number (get_or ks s 0) < n
  pub passes : (s : ℕ) → 0 < get_or ks s 0 → f (number (get_or ks s 0)) ≡ true
  pub back : (s : ℕ) → 0 < get_or ks s 0 → key (number (get_or ks s 0)) ≡ get_or ks s 0

-- a key that is not the first stands further on
further : (h : ℕ) (ks : List ℕ) (k : ℕ) → (h ≡ k → ⊥) → Stands (h ∷ ks) k → Stands ks k
further h ks k ne w = go w.place w.there
  where
    go : (s : ℕ) → get_or (h ∷ ks) s 0 ≡ k → Stands ks k
    go zero e = absurd (ne e)
    go (suc s) e = record { place = s; there = e }

-- so they are as many
pub used_is : (ks : List ℕ) (f : ℕ → Bool) (n : ℕ) (key number : ℕ → ℕ) → Numbered ks f n key number → used_count ks ≡ count f n
unfolding used_count
used_is [] f n key number h = sym (count_none f n (λ x l. not_held (f x) (λ e. let w = (h.stands x l e).there in let p = h.used x l e in omega arith)))
used_is (zero ∷ ks) f n key number h =
    used_is ks f n key number
    (record {
      once = λ s t p e. let q = h.once (suc s) (suc t) p e in omega arith;
      used = h.used;
      stands = λ x l e. further 0 ks (key x) (λ z. let p = h.used x l e in omega arith) (h.stands x l e);
      again = h.again;
      below = λ s p. h.below (suc s) p;
      passes = λ s p. h.passes (suc s) p;
      back = λ s p. h.back (suc s) p;
    })
used_is (suc k ∷ ks) f n key number h =
    let ih = used_is ks (but f first) n key number rest in
    let c = count_but f first n (h.below 0 here) (h.passes 0 here) in
    omega arith
  where
    here : 0 < suc k
    here = suc-le-suc zero-le

    first : ℕ
    first = number (suc k)

    -- no other number has the first key, and no other place
    other : (x : ℕ) → x < n → but f first x ≡ true → suc k ≡ key x → ⊥
    other x l t e = let m = but_means f first x t in m.1 (sym (h.again x l m.0) ∙ ap number (sym e))

    later : (s : ℕ) → 0 < get_or ks s 0 → number (get_or ks s 0) ≡ first → ⊥
    later s p e =
        let q : get_or ks s 0 ≡ suc k = sym (h.back (suc s) p) ∙ ap key e ∙ h.back 0 here in
        let z = h.once (suc s) 0 p q in
        omega arith

    rest : Numbered ks (but f first) n key number
    rest = record {
      once = λ s t p e. let q = h.once (suc s) (suc t) p e in omega arith;
      used = λ x l t. h.used x l (but_means f first x t).0;
      stands = λ x l t. further (suc k) ks (key x) (other x l t) (h.stands x l (but_means f first x t).0);
      again = λ x l t. h.again x l (but_means f first x t).0;
      below = λ s p. h.below (suc s) p;
      passes = λ s p. but_there f first (number (get_or ks s 0)) (later s p) ∙ h.passes (suc s) p;
      back = λ s p. h.back (suc s) p;
    }
