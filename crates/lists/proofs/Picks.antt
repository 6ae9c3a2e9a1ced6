-- An order without some of its places: those that stay keep their order, and index the table without the others' keys.
-- Assumes nothing.
use mathlib.Core.Path.{◌≡◌, refl, sym, ap, ◌∙◌, subst}
use mathlib.Core.Bool.{Bool, true, false, cond, true≢false}
use mathlib.Core.List.{List, [], ◌∷◌, ◌++◌, map}
use Prim.Native.Nat.{ℕ, zero, suc, ◌≤◌, ◌<◌, suc-le-suc}
use native.Mathlib.Nat.{not-suc-le-zero, le_of_suc-le-suc}
use native.Mathlib.Omega.{arith}
use lib.ListN.{length, get_or, take, drop, get_or-append}
use lib.Seq.{get_or-take, length-take-le}
use Rattle.index.specs.Index.{key_at, indexed, Listed, Index}
use Rattle.index.proofs.Logic.{lt_by}
use Rattle.index.proofs.Meaning.{index_means, index_test}
use Rattle.store.proofs.Parts.{put_long}

-- ---- the elements that g does not tell
abbrev Rising : (ℕ → ℕ) → List ℕ → Type 0
Rising key xs = (i j : ℕ) → i < j → j < length xs → key (get_or xs i 0) < key (get_or xs j 0)

-- ys is xs without what g tells: each of ys stood in xs, none is lost, and keys that rise along xs rise along ys
record Left (g : ℕ → Bool) (key : ℕ → ℕ) (xs ys : List ℕ) : Type 0 where
  few : length ys ≤ length xs
  from : (i : ℕ) → i < length ys → Listed xs (length xs) (get_or ys i 0)
  untold : (i : ℕ) → i < length ys → g (get_or ys i 0) ≡ false
  every : (r : ℕ) → r < length xs → g (get_or xs r 0) ≡ false → Listed ys (length ys) (get_or xs r 0)
  up : Rising key xs → Rising key ys

later : {x : ℕ} {xs : List ℕ} {n s : ℕ} → Listed xs n s → Listed (x ∷ xs) (suc n) s
later l = record { rank = suc l.rank; rank_lt = suc-le-suc l.rank_lt; is = l.is }

module _ (g : ℕ → Bool) (key : ℕ → ℕ) (x : ℕ) (xs ys : List ℕ) (t : Left g key xs ys) where
  past : Rising key (x ∷ xs) → Rising key ys
  past h = t.up (λ i j a b. h (suc i) (suc j) (suc-le-suc a) (suc-le-suc b))

  dropped : g x ≡ true → Left g key (x ∷ xs) ys
  dropped e = record { few = let h = t.few in omega arith; from = λ i l. later (t.from i l); untold = t.untold; every = every; up = past }
    where
      every : (r : ℕ) → r < suc (length xs) → g (get_or (x ∷ xs) r 0) ≡ false → Listed ys (length ys) (get_or (x ∷ xs) r 0)
      every zero l n = absurd (true≢false (sym e ∙ n))
      every (suc r) l n = t.every r (le_of_suc-le-suc l) n

  kept : g x ≡ false → Left g key (x ∷ xs) (x ∷ ys)
  kept e = record { few = suc-le-suc t.few; from = from; untold = untold; every = every; up = up }
    where
      from : (i : ℕ) → i < suc (length ys) → Listed (x ∷ xs) (suc (length xs)) (get_or (x ∷ ys) i 0)
      from zero l = record { rank = 0; rank_lt = omega arith; is = refl }
      from (suc i) l = later (t.from i (le_of_suc-le-suc l))

      untold : (i : ℕ) → i < suc (length ys) → g (get_or (x ∷ ys) i 0) ≡ false
      untold zero l = e
      untold (suc i) l = t.untold i (le_of_suc-le-suc l)

      every : (r : ℕ) → r < suc (length xs) → g (get_or (x ∷ xs) r 0) ≡ false → Listed (x ∷ ys) (suc (length ys)) (get_or (x ∷ xs) r 0)
      every zero l n = record { rank = 0; rank_lt = omega arith; is = refl }
      every (suc r) l n = later (t.every r (le_of_suc-le-suc l) n)

      up : Rising key (x ∷ xs) → Rising key (x ∷ ys)
      up h i zero a b = absurd (not-suc-le-zero a)
      up h zero (suc j) a b = let w = t.from j (le_of_suc-le-suc b) in subst (λ (y : ℕ). key x < key y) w.is (h 0 (suc w.rank) (omega arith) (suc-le-suc w.rank_lt))
      up h (suc i) (suc j) a b = past h i j (le_of_suc-le-suc a) (le_of_suc-le-suc b)

record Pick (g : ℕ → Bool) (key : ℕ → ℕ) (xs : List ℕ) : Type 0 where
  now : List ℕ
  left : Left g key xs now

pick : (g : ℕ → Bool) (key : ℕ → ℕ) (xs : List ℕ) → Pick g key xs
pick g key [] = record { now = []; left = record { few = omega arith; from = λ i l. absurd (not-suc-le-zero l); untold = λ i l. absurd (not-suc-le-zero l); every = λ r l. absurd (not-suc-le-zero l); up = λ h. h } }
pick g key (x ∷ xs) = go (pick g key xs) (g x) refl
  where
    go : Pick g key xs → (b : Bool) → g x ≡ b → Pick g key (x ∷ xs)
    go t true e = record { now = t.now; left = dropped g key x xs t.now t.left e }
    go t false e = record { now = x ∷ t.now; left = kept g key x xs t.now t.left e }

-- ---- a table in which the keys that P tells are 0
abbrev pub thin : (ℕ → Bool) → List ℕ → List ℕ
thin P ks = map (λ k. cond (P k) 0 k) ks

pub thin_at : (P : ℕ → Bool) (ks : List ℕ) (s : ℕ) → get_or (thin P ks) s 0 ≡ cond (P (get_or ks s 0)) 0 (get_or ks s 0)
thin_at P [] s = none (P 0)
  where
    none : (b : Bool) → ◌≡◌ {A = ℕ} 0 (cond b 0 0)
    none true = refl
    none false = refl
thin_at P (k ∷ ks) zero = refl
thin_at P (k ∷ ks) (suc s) = thin_at P ks s

-- what is 0 or as it was, and not 0, is as it was
same : (b : Bool) (x y : ℕ) → x ≡ cond b 0 y → 0 < x → (b ≡ false) × (x ≡ y)
same true x y e p = absurd (omega arith)
same false x y e p = (refl, e)

-- it has an order of the same length
pub record Picked (ks os : List ℕ) : Type 0 where
  pub order : List ℕ
  pub count : ℕ
  pub long : length order ≡ length os
  pub index : indexed ks order count ≡ true

module _ (P : ℕ → Bool) (ks os : List ℕ) (n : ℕ) (ix : indexed ks os n ≡ true) where
  was : Index ks os n
  was = index_means ks os n ix

  abbrev told : ℕ → Bool
  told s = P (get_or ks s 0)

  abbrev used : List ℕ
  used = take n os

  stay : Pick told (λ s. get_or ks s 0) used
  stay = pick told (λ s. get_or ks s 0) used

  abbrev left : List ℕ
  left = stay.now

  -- the places past those in use may be any
  abbrev order : List ℕ
  order = left ++ drop (length left) os

  used_long : length used ≡ n
  used_long = length-take-le n os was.room

  left_few : length left ≤ length os
  left_few = let a = stay.left.few in let b = used_long in let c = was.room in omega arith

  order_at : (i : ℕ) → i < length left → get_or order i 0 ≡ get_or left i 0
  order_at i l = get_or-append left (drop (length left) os) 0 i l

  -- a place that is left has its key
  key_left : (i : ℕ) → i < length left → key_at (thin P ks) order i ≡ get_or ks (get_or left i 0) 0
  key_left i l =
      ap (λ (s : ℕ). get_or (thin P ks) s 0) (order_at i l) ∙ thin_at P ks (get_or left i 0)
      ∙ ap (λ (b : Bool). cond b 0 (get_or ks (get_or left i 0) 0)) (stay.left.untold i l)

  rising : (i j : ℕ) → i < j → j < length used → get_or ks (get_or used i 0) 0 < get_or ks (get_or used j 0) 0
  rising i j a b =
      let l = used_long in
      lt_by (ap (λ (s : ℕ). get_or ks s 0) (get_or-take n os i 0 (omega arith))) (ap (λ (s : ℕ). get_or ks s 0) (get_or-take n os j 0 (omega arith))) (was.rising i j a (omega arith))

  in_use : (i : ℕ) → i < length left → 0 < get_or ks (get_or left i 0) 0
  in_use i l =
      let w = stay.left.from i l in
      let e = used_long in
      let r = w.rank_lt in
      lt_by refl (ap (λ (s : ℕ). get_or ks s 0) (sym w.is ∙ get_or-take n os w.rank 0 (omega arith))) (was.in_use w.rank (omega arith))

  complete : (s : ℕ) → 0 < get_or (thin P ks) s 0 → Listed order (length left) s
  complete s p =
      let h = same (told s) (get_or (thin P ks) s 0) (get_or ks s 0) (thin_at P ks s) p in
      let e = h.1 in
      let w = was.complete s (omega arith) in
      let r = w.rank_lt in
      let long = used_long in
      let is : get_or used w.rank 0 ≡ s = get_or-take n os w.rank 0 r ∙ w.is in
      let v = stay.left.every w.rank (omega arith) (ap told is ∙ h.0) in
      record { rank = v.rank; rank_lt = v.rank_lt; is = order_at v.rank v.rank_lt ∙ v.is ∙ is }

  pub picked : Picked (thin P ks) os
  picked = record {
    order = order;
    count = length left;
    long = put_long os left (length left) refl left_few;
    index = index_test (thin P ks) order (length left) (record {
      room = let a = put_long os left (length left) refl left_few in let b = left_few in omega arith;
      complete = complete;
      rising = λ i j a b. lt_by (key_left i (omega arith)) (key_left j b) (stay.left.up rising i j a b);
      in_use = λ i l. lt_by refl (key_left i l) (in_use i l);
    });
  }
