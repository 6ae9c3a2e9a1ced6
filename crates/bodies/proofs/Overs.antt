-- Bytes put over a view.
-- Assumes nothing.
use mathlib.Core.Path.{◌≡◌, refl, sym, ap, ◌∙◌}
use mathlib.Core.Logic.{⊎_elim}
use mathlib.Core.List.{List, [], ◌++◌}
use Prim.Native.Nat.{ℕ, ◌+◌, ◌-◌, ◌≤◌, ◌<◌}
use native.Mathlib.Omega.{arith}
use lib.ListN.{length, get_or, length-append, get_or-append}
use lib.Seq.{get_or-append-add}
use borrow.Author.Tests.{lt-ltb, le-ltb, le-leb, lt-leb, eq-eqb, ne_eqb}
use Rattle.index.proofs.Logic.{same_or_not, lt_or_ge}
use Rattle.view.specs.View.{View}
use Rattle.view.specs.Steps.{over}
use Rattle.view.specs.Inner.{putting}
use Rattle.view.proofs.Equal.{view_by}

module _ (p a : ℕ) (bs : List ℕ) (f : ℕ → ℕ → ℕ) (q b : ℕ) where
  pub over_in : q ≡ p → a ≤ b → b < a + length bs → over p a bs f q b ≡ get_or bs (b - a) 0
  unfolding over
  over_in e l h = rw (eq-eqb q p e, le-leb a b l, lt-ltb b (a + length bs) h)

  pub over_out : (q ≡ p → a ≤ b → b < a + length bs → ⊥) → over p a bs f q b ≡ f q b
  unfolding over
  over_out off =
      ⊎_elim
      (λ (e : q ≡ p).
      ⊎_elim
      (λ (l : b < a). rw (eq-eqb q p e, lt-leb a b l))
      (λ (l : a ≤ b).
      ⊎_elim
      (λ (h : b < a + length bs). absurd (off e l h))
      (λ (h : a + length bs ≤ b). rw (eq-eqb q p e, le-leb a b l, le-ltb b (a + length bs) h))
      (lt_or_ge b (a + length bs)))
      (lt_or_ge b a))
      (λ (ne : q ≡ p → ⊥). rw (ne_eqb q p ne))
      (same_or_not q p)

  -- both cases at once
  pub over_by : (x : ℕ) → (q ≡ p → a ≤ b → b < a + length bs → get_or bs (b - a) 0 ≡ x) → ((q ≡ p → a ≤ b → b < a + length bs → ⊥) → f q b ≡ x) → over p a bs f q b ≡ x
  over_by x on off =
      ⊎_elim
      (λ (e : q ≡ p).
      ⊎_elim
      (λ (l : b < a). let n : q ≡ p → a ≤ b → b < a + length bs → ⊥ = λ _ m _. omega arith in over_out n ∙ off n)
      (λ (l : a ≤ b).
      ⊎_elim
      (λ (h : b < a + length bs). over_in e l h ∙ on e l h)
      (λ (h : a + length bs ≤ b). let n : q ≡ p → a ≤ b → b < a + length bs → ⊥ = λ _ _ m. omega arith in over_out n ∙ off n)
      (lt_or_ge b (a + length bs)))
      (lt_or_ge b a))
      (λ (ne : q ≡ p → ⊥). let n : q ≡ p → a ≤ b → b < a + length bs → ⊥ = λ e _ _. ne e in over_out n ∙ off n)
      (same_or_not q p)

-- two pieces, one behind the other, are one
pub over_two : (p a : ℕ) (xs ys : List ℕ) (f : ℕ → ℕ → ℕ) (q b : ℕ) → over p (a + length xs) ys (over p a xs f) q b ≡ over p a (xs ++ ys) f q b
over_two p a xs ys f q b =
    let len = length-append xs ys in
    over_by p (a + length xs) ys (over p a xs f) q b (over p a (xs ++ ys) f q b)
    (λ e l h.
    let i : b - a ≡ length xs + (b - (a + length xs)) = omega arith in
    sym (over_in p a (xs ++ ys) f q b e (omega arith) (omega arith) ∙ ap (λ (z : ℕ). get_or (xs ++ ys) z 0) i ∙ get_or-append-add xs ys (b - (a + length xs)) 0))
    (λ past.
    over_by p a xs f q b (over p a (xs ++ ys) f q b)
    (λ e l h. sym (over_in p a (xs ++ ys) f q b e l (omega arith) ∙ get_or-append xs ys 0 (b - a) (omega arith)))
    (λ off.
    sym (over_out p a (xs ++ ys) f q b (λ e l h.
    ⊎_elim (λ (g : b < a + length xs). off e l g) (λ (g : a + length xs ≤ b). past e g (omega arith)) (lt_or_ge b (a + length xs))))))

pub putting_two : (p a : ℕ) (xs ys : List ℕ) (v : View) → putting p (a + length xs) ys (putting p a xs v) ≡ putting p a (xs ++ ys) v
putting_two p a xs ys v =
    view_by (putting p (a + length xs) ys (putting p a xs v)) (putting p a (xs ++ ys) v) (over_two p a xs ys v.bytes) (λ q k. refl) refl (λ q. refl) refl refl (λ j. refl)

pub putting_none : (p a : ℕ) (v : View) → putting p a [] v ≡ v
putting_none p a v = view_by (putting p a [] v) v (λ q b. over_out p a [] v.bytes q b (λ e l h. omega arith)) (λ q k. refl) refl (λ q. refl) refl refl (λ j. refl)
