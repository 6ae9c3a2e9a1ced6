-- Outputs: how `Gives` is met, and its outcome becomes that of a call.
-- Assumes nothing.
use mathlib.Core.Path.{◌≡◌, refl, sym, ap, ◌∙◌}
use mathlib.Core.List.{List}
use mathlib.Core.Logic.{⊎_elim}
use Prim.Native.Nat.{ℕ, zero, suc, ◌+◌, ◌<◌}
use native.Mathlib.Omega.{arith}
use lib.ListN.{length, get_or, set}
use lib.Seq.{get_or-set_same, get_or-set_other}
use Rattle.index.proofs.Logic.{same_or_not}
use Rattle.outcome.specs.Outcome.{Outcome, mapped, answered}
use Rattle.formed.proofs.Same.{tab_is}
use Rattle.abi.specs.Interface.{Gives}

-- f of the value
module _ {A B : Type 0} (f : A → B) {n r : ℕ} {means : List ℕ → A} {out out' : List ℕ} {w : Outcome B} where
  pub gives_as : {o : Outcome A} → Gives n o means r out out' → mapped f o ≡ w → Gives n w (λ x. f (means x)) r out out'
  gives_as g e = record {
    unfit = g.unfit;
    answer = λ l. go r (means out') ∙ ap (mapped f) (g.answer l) ∙ e;
    kept = g.kept;
  }
    where
      go : (k : ℕ) (a : A) → answered k (f a) ≡ mapped f (answered k a)
      go zero a = refl
      go (suc k) a = refl

-- bytes copied one after the other
abbrev pub Copied : ℕ → List ℕ → List ℕ → Type 0
Copied n from d = (i : ℕ) → i < n → get_or d i 0 ≡ get_or from i 0

pub copied_more : (from d : List ℕ) (n : ℕ) → n < length d → Copied n from d → Copied (n + 1) from (set d n (get_or from n 0))
copied_more from d n l h i k =
    ⊎_elim
    (λ (q : i ≡ n). ap (λ (x : ℕ). get_or (set d n (get_or from n 0)) x 0) q ∙ get_or-set_same d n (get_or from n 0) 0 l ∙ ap (λ (x : ℕ). get_or from x 0) (sym q))
    (λ (q : i ≡ n → ⊥). get_or-set_other d n i (get_or from n 0) 0 (λ z. q (omega arith)) ∙ h i (omega arith))
    (same_or_not i n)

pub copied_all : (from d : List ℕ) → length from ≡ length d → Copied (length d) from d → d ≡ from
copied_all from d e h = tab_is (length d) (λ i. get_or from i 0) d refl h ∙ sym (tab_is (length d) (λ i. get_or from i 0) from e (λ i l. refl))
