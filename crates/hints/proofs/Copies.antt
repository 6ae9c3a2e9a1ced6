-- Bytes that were copied to a local array.
-- Assumes nothing.
use mathlib.Core.Path.{◌≡◌, ap, ◌∙◌}
use mathlib.Core.List.{List}
use Prim.Native.Nat.{ℕ, ◌+◌}
use native.Mathlib.Omega.{arith}
use lib.ListN.{length, get_or}
use Rattle.formed.specs.Parts.{tab}
use Rattle.formed.proofs.Same.{tab_is}
use Rattle.bodies.specs.Words.{Spread}

pub copied_word : (at : ℕ) (bytes zs ws : List ℕ) → length ws ≡ 32 → Spread (λ i. 0 + i) (λ i. get_or bytes (at + i) 0) 32 zs ws → ws ≡ tab 32 (λ i. get_or bytes (at + i) 0)
copied_word at bytes zs ws long d =
    tab_is 32 (λ i. get_or bytes (at + i) 0) ws long (λ i l. let e : i ≡ 0 + i = omega arith in ap (λ (x : ℕ). get_or ws x 0) e ∙ d.on i l)
