-- Bytes that lead a word, with zeros after them.
-- Assumes nothing.
use mathlib.Core.Path.{◌≡◌, sym, ap, ◌∙◌}
use mathlib.Core.List.{List, ◌++◌, append-nil}
use Prim.Native.Nat.{ℕ, zero, suc, ◌+◌, ◌-◌, ◌≤◌}
use native.Mathlib.Omega.{arith}
use lib.ListN.{length, take, drop, replicate}
use lib.Seq.{length-take-le}
use Rattle.formed.proofs.Same.{tab_long}
use Rattle.view.specs.View.{View}
use Rattle.view.specs.Steps.{run, padded}

abbrev nulls : ℕ → List ℕ
nulls n = replicate n 0

drop_nulls : (n k : ℕ) → drop n (nulls k) ≡ nulls (k - n)
drop_nulls zero k = let e : k ≡ k - 0 = omega arith in ap nulls e
drop_nulls (suc n) zero = let e : 0 ≡ 0 - suc n = omega arith in ap nulls e
drop_nulls (suc n) (suc k) = let e : k - n ≡ suc k - suc n = omega arith in drop_nulls n k ∙ ap nulls e

-- n bytes laid over 32 zeros, as `&mut out[..n]` leaves them
pub padded_is : (v : View) (p a n : ℕ) (e : List ℕ) → n ≤ 32 → e ≡ run v p a (length (take n (nulls 32))) → e ++ drop n (nulls 32) ≡ padded (run v p a n)
padded_is v p a n e h r =
    let q : length (take n (nulls 32)) ≡ n = length-take-le n (nulls 32) h in
    let s : e ≡ run v p a n = r ∙ ap (run v p a) q in
    let l : n ≡ length (run v p a n) = sym (tab_long n (λ i. v.bytes p (a + i))) in
    let d : drop n (nulls 32) ≡ nulls (32 - length (run v p a n)) = drop_nulls n 32 ∙ ap (λ (x : ℕ). nulls (32 - x)) l in
    ap (λ (x : List ℕ). e ++ x) d ∙ ap (λ (x : List ℕ). x ++ nulls (32 - length (run v p a n))) s

-- 32 bytes leave no room for zeros
pub padded_word : (v : View) (p a : ℕ) → padded (run v p a 32) ≡ run v p a 32
padded_word v p a =
    ap (λ (n : ℕ). run v p a 32 ++ nulls (32 - n)) (tab_long 32 (λ i. v.bytes p (a + i))) ∙ append-nil (run v p a 32)
