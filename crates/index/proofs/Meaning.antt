-- What the test means, both ways.
-- Assumes nothing.
use mathlib.Core.Path.{◌≡◌, ap, ◌∙◌}
use mathlib.Core.Bool.{true}
use mathlib.Core.List.{List}
use Prim.Native.Nat.{ℕ, ◌+◌, ◌≤◌, ◌<◌}
use native.Mathlib.Omega.{arith}
use lib.ListN.{length, get_or}
use Rattle.index.specs.Index.{key_at, indexed, Index}
use Rattle.index.proofs.Logic.{lt_by}
use Rattle.index.proofs.Counts.{all_counted}
use Rattle.index.proofs.Orders.{key_pos, sorted, held_listed, distinct, rising_intro, index_fits, index_count, index_rises, index_is}

pub index_means : (ks os : List ℕ) (n : ℕ) → indexed ks os n ≡ true → Index ks os n
index_means ks os n ix =
    let up = index_rises ks os n ix in
    let cnt = index_count ks os n ix in
    record { room = index_fits ks os n ix; complete = held_listed ks os n up cnt; rising = sorted ks os n up; in_use = key_pos ks os n up }

pub index_test : (ks os : List ℕ) (n : ℕ) → Index ks os n → indexed ks os n ≡ true
index_test ks os n p =
    index_is ks os n p.room
    (all_counted n ks os p.in_use (λ i j a b e. let h = p.rising i j a b in let q : key_at ks os i ≡ key_at ks os j = ap (λ (s : ℕ). get_or ks s 0) e in omega arith) p.complete)
    ∙ rising_intro ks os n (λ a. p.in_use 0 a) (λ i a. p.rising i (i + 1) (omega arith) a)

-- no two places have one key
pub once : (ks os : List ℕ) (n : ℕ) → indexed ks os n ≡ true → (s t : ℕ) → 0 < get_or ks s 0 → get_or ks s 0 ≡ get_or ks t 0 → s ≡ t
once ks os n ix = distinct ks os n (index_rises ks os n ix) (index_count ks os n ix)

-- an order that has the same places in use says the same
pub index_upto : (ks os os' : List ℕ) (n : ℕ) → n ≤ length os' → ((i : ℕ) → i < n → get_or os' i 0 ≡ get_or os i 0) → indexed ks os n ≡ true → indexed ks os' n ≡ true
index_upto ks os os' n l e ix =
    let h = index_means ks os n ix in
    let key : (i : ℕ) → i < n → key_at ks os' i ≡ key_at ks os i = λ i li. ap (λ (s : ℕ). get_or ks s 0) (e i li) in
    index_test ks os' n record {
      room = l;
      complete = λ s p. let c = h.complete s p in record { rank = c.rank; rank_lt = c.rank_lt; is = e c.rank c.rank_lt ∙ c.is };
      rising = λ i j li lj. lt_by (key i (omega arith)) (key j lj) (h.rising i j li lj);
      in_use = λ i li. let q = key i li in let p = h.in_use i li in omega arith;
    }
