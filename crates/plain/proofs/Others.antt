-- Laws of the plain map's drops: which pairs and pages are left, and how many.
-- Assumes nothing.
use mathlib.Core.Path.{◌≡◌, refl, sym, ap, ◌∙◌}
use mathlib.Core.Logic.{⊎_elim}
use mathlib.Core.List.{List, [], ◌∷◌}
use mathlib.Core.Bool.{Bool, true, false, cond, not, ◌&&◌, ◌||◌, and_comm, and-false, not-not, true≢false}
use Prim.Native.Nat.{ℕ, suc, ◌+◌, ◌*◌, ◌/◌, ◌%◌, ◌≤◌}
use native.Mathlib.Omega.{arith}
use lib.Dec.{eqb}
use lib.ListN.{length}
use borrow.Author.Tests.{eqb-true, ne_eqb}
use Rattle.index.proofs.Logic.{and_left, and_right, and_false_right, same_or_not}
use Rattle.page_ids.specs.declared.Layout.{Layout}
use Rattle.formed.specs.Pages.{fixed, dynamic}
use Rattle.view.specs.Steps.{count, pairs}
use Rattle.view.proofs.Counting.{count_none, count_near, count_split}
use Rattle.view.proofs.Counts.{fixed_only}
use Rattle.view.proofs.Dropping.{pairs_by, count_by}
use Rattle.plain.specs.Plain.{has, member, others}

-- ---- what is left of a list
module _ {A : Type 0} (named : A → Bool) where
  -- what is named and what is not make up the list
  length_parts : (xs : List A) → length (others named xs) + length (others (λ x. not (named x)) xs) ≡ length xs
  unfolding others
  length_parts [] = refl
  length_parts (x ∷ xs) = go (named x) (others named xs) (others (λ y. not (named y)) xs) (length_parts xs)
    where
      go : (b : Bool) (ys zs : List A) → length ys + length zs ≡ length xs → length (cond b ys (x ∷ ys)) + length (cond (not b) zs (x ∷ zs)) ≡ suc (length xs)
      go true ys zs e = omega arith
      go false ys zs e = omega arith

  pub length_others : (xs : List A) → length (others named xs) ≤ length xs
  length_others xs = let e = length_parts xs in omega arith

-- the head of a list is named: whatever is the same is named too
head_gone : (here there n : Bool) → (here ≡ true → n ≡ true) → (there && not n) ≡ (here || there) && not n
head_gone true there true e = and-false there
head_gone true there false e = absurd (true≢false (sym (e refl)))
head_gone false there n e = refl

-- it is not: whatever is the same is not named either
head_stays : (here there n : Bool) → (here ≡ true → n ≡ false) → (here || (there && not n)) ≡ (here || there) && not n
head_stays true there true e = absurd (true≢false (e refl))
head_stays true there false e = refl
head_stays false there n e = refl

abbrev Pair : Type 0
Pair = ℕ × ℕ

-- a test of page and chunk number, of a pair
abbrev by : (ℕ → ℕ → Bool) → Pair → Bool
by d x = d x.0 x.1

-- the pairs that are left
pub has_others : (d : ℕ → ℕ → Bool) (held : List Pair) (q k : ℕ) → has (others (by d) held) q k ≡ (has held q k && not (d q k))
unfolding has others
has_others d [] q k = refl
has_others d ((p, j) ∷ held) q k = go (d p j) refl (has_others d held q k)
  where
    same : (b : Bool) → d p j ≡ b → (eqb q p && eqb k j) ≡ true → d q k ≡ b
    same b e t = rw (eqb-true q p (and_left (eqb q p) (eqb k j) t), eqb-true k j (and_right (eqb q p) (eqb k j) t)) e

    go : (b : Bool) → d p j ≡ b → has (others (by d) held) q k ≡ (has held q k && not (d q k))
        → has (cond b (others (by d) held) ((p, j) ∷ others (by d) held)) q k ≡ (((eqb q p && eqb k j) || has held q k) && not (d q k))
    go true e ih = ih ∙ head_gone (eqb q p && eqb k j) (has held q k) (d q k) (same true e)
    go false e ih = ap (λ (b : Bool). (eqb q p && eqb k j) || b) ih ∙ head_stays (eqb q p && eqb k j) (has held q k) (d q k) (same false e)

-- the pages that are left
pub member_others : (u : ℕ → Bool) (pages : List ℕ) (q : ℕ) → member (others u pages) q ≡ (member pages q && not (u q))
unfolding member others
member_others u [] q = refl
member_others u (p ∷ pages) q = go (u p) refl (member_others u pages q)
  where
    same : (b : Bool) → u p ≡ b → eqb q p ≡ true → u q ≡ b
    same b e t = rw (eqb-true q p t) e

    go : (b : Bool) → u p ≡ b → member (others u pages) q ≡ (member pages q && not (u q))
        → member (cond b (others u pages) (p ∷ others u pages)) q ≡ ((eqb q p || member pages q) && not (u q))
    go true e ih = ih ∙ head_gone (eqb q p) (member pages q) (u q) (same true e)
    go false e ih = ap (λ (b : Bool). eqb q p || b) ih ∙ head_stays (eqb q p) (member pages q) (u q) (same false e)

-- the pages that are allocated, where the drop names no fixed one
pub allocated_others : (l : Layout) (u : ℕ → Bool) (pages : List ℕ) (q : ℕ) → (fixed l q ≡ true → u q ≡ false)
    → (fixed l q || member (others u pages) q) ≡ ((fixed l q || member pages q) && not (u q))
allocated_others l u pages q e = ap (λ (b : Bool). fixed l q || b) (member_others u pages q) ∙ head_stays (fixed l q) (member pages q) (u q) e

-- ---- how many are left. No list has fewer elements than it stands for; where one has as many, so has each part of it
pairs_le : (held : List Pair) → pairs (has held) ≤ length held
unfolding pairs has
pairs_le [] = let e = count_none (λ i. false) 144115188075855872 (λ i l. refl) in omega arith
pairs_le ((p, j) ∷ held) =
    let ih = pairs_le held in
    let one =
    count_near (λ i. (eqb (i / 33554432) p && eqb (i % 33554432) j) || has held (i / 33554432) (i % 33554432)) (λ i. has held (i / 33554432) (i % 33554432)) (p * 33554432 + j)
    (λ i ne. ap (λ (b : Bool). b || has held (i / 33554432) (i % 33554432)) (apart i ne)) 144115188075855872 in
    omega arith
  where
    apart : (i : ℕ) → (i ≡ p * 33554432 + j → ⊥) → (eqb (i / 33554432) p && eqb (i % 33554432) j) ≡ false
    apart i ne =
        ⊎_elim
        (λ (e : i / 33554432 ≡ p). and_false_right (eqb (i / 33554432) p) (eqb (i % 33554432) j) (ne_eqb (i % 33554432) j (λ z. ne (omega arith))))
        (λ (n : i / 33554432 ≡ p → ⊥). rw (ne_eqb (i / 33554432) p n))
        (same_or_not (i / 33554432) p)

module _ (d : ℕ → ℕ → Bool) (held : List Pair) where
  split : pairs (has held) ≡ pairs (λ q k. has held q k && d q k) + pairs (λ q k. has held q k && not (d q k))
  unfolding pairs
  split = count_split (λ i. has held (i / 33554432) (i % 33554432)) (λ i. d (i / 33554432) (i % 33554432)) 144115188075855872

  pub pairs_left : pairs (has held) ≡ length held → length (others (by d) held) ≡ pairs (λ q k. has held q k && not (d q k))
  pairs_left e =
      let left : pairs (has (others (by d) held)) ≡ pairs (λ q k. has held q k && not (d q k)) = pairs_by _ _ (has_others d held) in
      let gone : pairs (has (others (by (λ q k. not (d q k))) held)) ≡ pairs (λ q k. has held q k && d q k) =
      pairs_by _ _ (λ q k. has_others (λ q k. not (d q k)) held q k ∙ ap (λ (b : Bool). has held q k && b) (not-not (d q k))) in
      let a = pairs_le (others (by d) held) in
      let b = pairs_le (others (by (λ q k. not (d q k))) held) in
      let c = length_parts (by d) held in
      let s = split in
      omega arith

-- of the pages, the dynamic ones count
module _ (l : Layout) where
  abbrev pub listed_dynamic : List ℕ → ℕ → Bool
  listed_dynamic pages q = (fixed l q || member pages q) && dynamic l q

  pages_le : (pages : List ℕ) (n : ℕ) → count (listed_dynamic pages) n ≤ length pages
  unfolding member
  pages_le [] n = let e = count_none (listed_dynamic []) n (λ q k. go (fixed l q) (fixed_only l q)) in omega arith
    where
      go : {b : Bool} (a : Bool) → (a ≡ true → b ≡ false) → ((a || false) && b) ≡ false
      go true e = e refl
      go false e = refl
  pages_le (p ∷ pages) n =
      let ih = pages_le pages n in
      let one = count_near (listed_dynamic (p ∷ pages)) (listed_dynamic pages) p (λ q ne. ap (λ (b : Bool). (fixed l q || (b || member pages q)) && dynamic l q) (ne_eqb q p ne)) n in
      omega arith

  module _ (u : ℕ → Bool) (pages : List ℕ) (n : ℕ) where
    -- a fixed page is not dynamic, so it does not count
    part : (t : ℕ → Bool) (q : ℕ) → listed_dynamic (others t pages) q ≡ (listed_dynamic pages q && not (t q))
    part t q = ap (λ (b : Bool). (fixed l q || b) && dynamic l q) (member_others t pages q) ∙ go (fixed l q) (member pages q) (dynamic l q) (t q) (fixed_only l q)
      where
        go : (a b c d : Bool) → (a ≡ true → c ≡ false) → ((a || (b && not d)) && c) ≡ (((a || b) && c) && not d)
        go true b c d e = rw (e refl)
        go false true c d e = and_comm (not d) c
        go false false c d e = refl

    last : (a b c : Bool) → ((a && b) && c) ≡ ((a && c) && b)
    last true b c = and_comm b c
    last false b c = refl

    pub pages_left : count (listed_dynamic pages) n ≡ length pages
        → length (others u pages) ≡ count (λ q. ((fixed l q || member pages q) && not (u q)) && dynamic l q) n
    pages_left e =
        let form : count (λ q. ((fixed l q || member pages q) && not (u q)) && dynamic l q) n ≡ count (λ q. listed_dynamic pages q && not (u q)) n =
        count_by _ _ n (λ q. last (fixed l q || member pages q) (not (u q)) (dynamic l q)) in
        let left : count (listed_dynamic (others u pages)) n ≡ count (λ q. listed_dynamic pages q && not (u q)) n = count_by _ _ n (part u) in
        let gone : count (listed_dynamic (others (λ q. not (u q)) pages)) n ≡ count (λ q. listed_dynamic pages q && u q) n =
        count_by _ _ n (λ q. part (λ q. not (u q)) q ∙ ap (λ (b : Bool). listed_dynamic pages q && b) (not-not (u q))) in
        let a = pages_le (others u pages) n in
        let b = pages_le (others (λ q. not (u q)) pages) n in
        let c = length_parts u pages in
        let s = count_split (listed_dynamic pages) u n in
        omega arith
