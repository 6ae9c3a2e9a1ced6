-- Numbers put into a list one after the other.
-- Assumes nothing.
use mathlib.Core.Path.{◌≡◌, sym, ap, ◌∙◌}
use mathlib.Core.List.{List}
use mathlib.Core.Logic.{⊎_elim}
use Prim.Native.Nat.{ℕ, ◌+◌, ◌-◌, ◌≤◌, ◌<◌}
use native.Mathlib.Omega.{arith}
use lib.ListN.{length, get_or}
use Rattle.index.proofs.Logic.{lt_or_ge}
use Rattle.bodies.specs.Words.{Spread}
use Rattle.read_steps.specs.Reading.{Put}

module _ (f : ℕ → ℕ) (at : ℕ) (o : List ℕ) where
  pub put_by : (g : ℕ → ℕ) (n : ℕ) (d : List ℕ) → ((i : ℕ) → i < n → f i ≡ g i) → Put f at n o d → Put g at n o d
  put_by g n d e p = record { long = p.long; low = p.low; new = λ i l. p.new i l ∙ e i l }

-- what stands below `at`, and what is put from there on
pub put_on : (f : ℕ → ℕ) (at n : ℕ) (o d : List ℕ) → ((i : ℕ) → i < at → get_or o i 0 ≡ f i) → Put (λ i. f (at + i)) at n o d → (i : ℕ) → i < at + n → get_or d i 0 ≡ f i
put_on f at n o d h p i l =
    ⊎_elim
    (λ (lt : i < at). p.low i lt ∙ h i lt)
    (λ (ge : at ≤ i).
    let q : at + (i - at) ≡ i = omega arith in
    ap (λ (x : ℕ). get_or d x 0) (sym q) ∙ p.new (i - at) (omega arith) ∙ ap f q)
    (lt_or_ge i at)

-- what a copy leaves
pub put_spread : (f : ℕ → ℕ) (at n : ℕ) (o d : List ℕ) → length d ≡ length o → Spread (λ i. at + i) f n o d → Put f at n o d
put_spread f at n o d long w = record { long = long; low = λ i l. w.off i (λ k lk e. omega arith); new = λ i l. w.on i l }
