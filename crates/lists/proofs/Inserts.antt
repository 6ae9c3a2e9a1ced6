-- A key that can be put into a table has an order with it.
-- Assumes nothing.
use mathlib.Core.Path.{◌≡◌, refl, ap, ◌∙◌}
use mathlib.Core.Logic.{⊎_elim}
use mathlib.Core.Bool.{Bool, true, cond}
use mathlib.Core.List.{List, [], ◌∷◌}
use Prim.Native.Nat.{ℕ, zero, suc, ◌+◌, ◌-◌, ◌≤◌, ◌<◌}
use native.Mathlib.Omega.{arith}
use lib.Dec.{leb}
use lib.ListN.{length, get_or, set, length-set}
use borrow.Author.Tests.{le-leb, lt-leb}
use Rattle.formed.proofs.Same.{tab_at, tab_long}
use Rattle.index.specs.Index.{all, used_count, key_at, rises, indexed, LowerBound, MovedUp, Insertable}
use Rattle.index.proofs.Logic.{lt_or_ge}
use Rattle.index.proofs.Orders.{sorted, index_rises}
use Rattle.index.proofs.Inserts.{inserted}
use Rattle.formed.specs.Parts.{tab}

-- ---- a free place
pub record Free (ks : List ℕ) : Type 0 where
  pub place : ℕ
  pub inside : place < length ks
  pub none : get_or ks place 0 ≡ 0

pub free : (ks : List ℕ) → used_count ks < length ks → Free ks
unfolding used_count
free [] l = absurd (omega arith)
free (zero ∷ ks) l = record { place = 0; inside = omega arith; none = refl }
free (suc k ∷ ks) l = let r = free ks (omega arith) in record { place = suc r.place; inside = let h = r.inside in omega arith; none = r.none }

-- ---- its rank
record Rank (ks os : List ℕ) (k n : ℕ) : Type 0 where
  at : ℕ
  bound : LowerBound ks os n k at

rank : (ks os : List ℕ) (k most : ℕ) → all (rises ks os) most ≡ true → (n : ℕ) → n ≤ most → Rank ks os k n
rank ks os k most up zero l = record { at = 0; bound = record { within = omega arith; below = λ i h. absurd (omega arith); above = λ i h g. absurd (omega arith) } }
rank ks os k most up (suc n) l =
    let r = rank ks os k most up n (omega arith) in
    let w = r.bound.within in
    ⊎_elim
    (λ (h : key_at ks os n < k). record {
      at = suc n;
      bound = record {
        within = omega arith;
        below = λ i g. ⊎_elim (λ (b : i < n). let s = sorted ks os most up i n b (omega arith) in omega arith) (λ (b : n ≤ i). let e : i ≡ n = omega arith in rw e h) (lt_or_ge i n);
        above = λ i g b. absurd (omega arith);
      };
    })
    (λ (h : k ≤ key_at ks os n). record {
      at = r.at;
      bound = record {
        within = omega arith;
        below = r.bound.below;
        above = λ i g b. ⊎_elim (λ (c : i < n). r.bound.above i g c) (λ (c : n ≤ i). let e : i ≡ n = omega arith in rw e h) (lt_or_ge i n);
      };
    })
    (lt_or_ge (key_at ks os n) k)

-- ---- the places from there on, moved up by one
module _ (os : List ℕ) (at n : ℕ) (l : n < length os) where
  abbrev up : List ℕ
  up = tab (length os) (λ i. get_or os (cond (leb i at) i (i - 1)) 0)

  moved : at ≤ n → MovedUp os up at n
  moved le = record {
    long = tab_long (length os) (λ i. get_or os (cond (leb i at) i (i - 1)) 0);
    low = λ i h. tab_at (length os) (λ i. get_or os (cond (leb i at) i (i - 1)) 0) i (omega arith) ∙ ap (λ (b : Bool). get_or os (cond b i (i - 1)) 0) (le-leb i at (omega arith));
    high = λ i h g.
        let e : i + 1 - 1 ≡ i = omega arith in
        tab_at (length os) (λ i. get_or os (cond (leb i at) i (i - 1)) 0) (i + 1) (omega arith)
        ∙ ap (λ (b : Bool). get_or os (cond b (i + 1) (i + 1 - 1)) 0) (lt-leb (i + 1) at (omega arith))
        ∙ ap (λ (x : ℕ). get_or os x 0) e;
  }

pub record Inserted (ks os : List ℕ) (n s k : ℕ) : Type 0 where
  pub order : List ℕ
  pub long : length order ≡ length os
  pub index : indexed (set ks s k) order (n + 1) ≡ true

pub insert : (ks os : List ℕ) (n s k : ℕ) → Insertable ks os n s k → Inserted ks os n s k
insert ks os n s k ins =
    let r = rank ks os k n (index_rises ks os n ins.index) n (omega arith) in
    let ds = up os r.at n ins.room in
    let mv = moved os r.at n ins.room r.bound.within in
    record { order = set ds r.at s; long = length-set ds r.at s ∙ mv.long; index = inserted ks os ds n s k r.at ins r.bound mv }
