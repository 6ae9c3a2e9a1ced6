-- A key is put in.
-- Assumes nothing.
use mathlib.Core.Path.{◌≡◌, refl, sym, ap, ◌∙◌}
use mathlib.Core.Logic.{⊎_elim}
use mathlib.Core.Bool.{true}
use mathlib.Core.List.{List}
use Prim.Native.Nat.{ℕ, ◌+◌, ◌-◌, ◌≤◌, ◌<◌}
use native.Mathlib.Nat.{eq-or-lt_of_le}
use native.Mathlib.Omega.{arith}
use lib.ListN.{get_or, set, length-set}
use lib.Seq.{get_or-set_other, get_or-set_same}
use Rattle.index.specs.Index.{all, key_at, rises, indexed, LowerBound, MovedUp, Insertable}
use Rattle.index.proofs.Logic.{lt_or_ge, lt_by}
use Rattle.index.proofs.Counts.{count_fill}
use Rattle.index.proofs.Orders.{key_pos, sorted, slot_lt, rising_intro, index_count, index_rises, index_is}
use Rattle.index.proofs.Places.{place_at}

module _ (ks os ds : List ℕ) (n s k at : ℕ) (ins : Insertable ks os n s k) (lb : LowerBound ks os n k at) (mv : MovedUp os ds at n) where
  up : all (rises ks os) n ≡ true
  up = index_rises ks os n ins.index

  kept : (i : ℕ) → i < n → get_or (set ks s k) (get_or os i 0) 0 ≡ key_at ks os i
  kept i l = get_or-set_other ks s (get_or os i 0) k 0 (λ e. let h = key_pos ks os n up i l in let z : key_at ks os i ≡ 0 = ap (λ (t : ℕ). get_or ks t 0) e ∙ ins.free in omega arith)

  fresh : (i : ℕ) → i < n → key_at ks os i ≡ k → ⊥
  fresh i l e =
      let a = place_at ks os n up (index_count ks os n ins.index) k ins.key (get_or os i 0) (slot_lt ks os n up i l) e in
      let b = slot_lt ks os n up i l in
      let d = ins.new in omega arith

  new_low : (i : ℕ) → i < at → key_at (set ks s k) (set ds at s) i ≡ key_at ks os i
  new_low i l =
      ap (λ (t : ℕ). get_or (set ks s k) t 0) (get_or-set_other ds at i s 0 (λ e. omega arith) ∙ mv.low i l) ∙ kept i (let w = lb.within in omega arith)

  new_here : key_at (set ks s k) (set ds at s) at ≡ k
  new_here =
      ap (λ (t : ℕ). get_or (set ks s k) t 0) (get_or-set_same ds at s 0 (let w = lb.within in let r = ins.room in let q = mv.long in omega arith)) ∙ get_or-set_same ks s k 0 ins.place

  new_high : (i : ℕ) → at ≤ i → i < n → key_at (set ks s k) (set ds at s) (i + 1) ≡ key_at ks os i
  new_high i l m =
      ap (λ (t : ℕ). get_or (set ks s k) t 0) (get_or-set_other ds at (i + 1) s 0 (λ e. omega arith) ∙ mv.high i l m) ∙ kept i m

  new_first : 0 < key_at (set ks s k) (set ds at s) 0
  new_first =
      ⊎_elim (λ (l : 0 < at). lt_by refl (new_low 0 l) (key_pos ks os n up 0 (let w = lb.within in omega arith)))
      (λ (z : at ≤ 0). let e : 0 ≡ at = omega arith in lt_by refl (ap (key_at (set ks s k) (set ds at s)) e ∙ new_here) ins.key)
      (lt_or_ge 0 at)

  new_next : (i : ℕ) → i + 1 < n + 1 → key_at (set ks s k) (set ds at s) i < key_at (set ks s k) (set ds at s) (i + 1)
  new_next i l =
      ⊎_elim (λ (a : i < at).
      ⊎_elim (λ (b : i + 1 < at). lt_by (new_low i a) (new_low (i + 1) b) (sorted ks os n up i (i + 1) (omega arith) (let w = lb.within in omega arith)))
      (λ (b : at ≤ i + 1). let e : i + 1 ≡ at = omega arith in lt_by (new_low i a) (ap (key_at (set ks s k) (set ds at s)) e ∙ new_here) (lb.below i a))
      (lt_or_ge (i + 1) at))
      (λ (a : at ≤ i).
      ⊎_elim (λ (e : at ≡ i).
      lt_by (ap (key_at (set ks s k) (set ds at s)) (sym e) ∙ new_here) (new_high i a (omega arith))
      (⊎_elim (λ q. absurd (fresh i (omega arith) (sym q))) (λ lt. lt) (eq-or-lt_of_le (lb.above i a (omega arith)))))
      (λ (b : at < i).
      let e : i ≡ i - 1 + 1 = omega arith in
      lt_by (ap (key_at (set ks s k) (set ds at s)) e ∙ new_high (i - 1) (omega arith) (omega arith)) (new_high i a (omega arith)) (sorted ks os n up (i - 1) i (omega arith) (omega arith)))
      (eq-or-lt_of_le a))
      (lt_or_ge i at)

  pub inserted : indexed (set ks s k) (set ds at s) (n + 1) ≡ true
  inserted =
      let c = count_fill ks s k ins.place ins.free ins.key in
      let e = index_count ks os n ins.index in
      index_is (set ks s k) (set ds at s) (n + 1) (let r = ins.room in let q = mv.long in let w = length-set ds at s in omega arith) (omega arith)
      ∙ rising_intro (set ks s k) (set ds at s) (n + 1) (λ _. new_first) new_next

  -- its rank is still that
  pub inserted_rank : LowerBound (set ks s k) (set ds at s) (n + 1) k at
  inserted_rank = record {
    within = let w = lb.within in omega arith;
    below = λ i l. lt_by (new_low i l) refl (lb.below i l);
    above = λ i l m.
        ⊎_elim
        (λ (e : at ≡ i). let h : key_at (set ks s k) (set ds at s) i ≡ k = ap (key_at (set ks s k) (set ds at s)) (sym e) ∙ new_here in omega arith)
        (λ (b : at < i).
        let h = lb.above (i - 1) (omega arith) (omega arith) in
        let e : i ≡ i - 1 + 1 = omega arith in
        let q : key_at (set ks s k) (set ds at s) i ≡ key_at ks os (i - 1) = ap (key_at (set ks s k) (set ds at s)) e ∙ new_high (i - 1) (omega arith) (omega arith) in
        omega arith)
        (eq-or-lt_of_le l);
  }
