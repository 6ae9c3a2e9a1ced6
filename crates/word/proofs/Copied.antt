-- The limbs of a word, copied into a list.
-- Assumes nothing.
use mathlib.Core.Path.{◌≡◌, refl, ap}
use mathlib.Core.List.{List, [], ◌∷◌}
use Prim.Native.Nat.{ℕ, zero, suc, ◌+◌, ◌≤◌}
use native.Mathlib.Omega.{arith}
use borrow.Rule.Slice.PartMut.{put_mid}
use lib.ListN.{length, get_or, set}

four : (p q r s : ℕ) (out : List ℕ) (at : ℕ) → at + 4 ≤ length out
    → put_mid at 4 out (p ∷ q ∷ r ∷ s ∷ []) ≡ set (set (set (set out at p) (suc at) q) (suc (suc at)) r) (suc (suc (suc at))) s
four p q r s (a ∷ b ∷ c ∷ d ∷ out) zero l = refl
four p q r s (x ∷ out) (suc at) l = ap (λ (rest : List ℕ). x ∷ rest) (four p q r s out at (omega arith))
four p q r s [] at l = absurd (omega arith)
four p q r s (a ∷ []) zero l = absurd (omega arith)
four p q r s (a ∷ b ∷ []) zero l = absurd (omega arith)
four p q r s (a ∷ b ∷ c ∷ []) zero l = absurd (omega arith)

-- the four limbs, one after the other from place `at` on
pub limbs_copied : (out : List ℕ) (at : ℕ) (limbs : List ℕ) → at + 4 ≤ length out → length limbs ≡ 4
    → put_mid at 4 out limbs ≡ set (set (set (set out at (get_or limbs 0 0)) (at + 1) (get_or limbs 1 0)) (at + 2) (get_or limbs 2 0)) (at + 3) (get_or limbs 3 0)
limbs_copied out at (p ∷ q ∷ r ∷ s ∷ []) l e =
    let one : at + 1 ≡ suc at = omega arith in
    let two : at + 2 ≡ suc (suc at) = omega arith in
    let three : at + 3 ≡ suc (suc (suc at)) = omega arith in
    rw (one, two, three) (four p q r s out at l)
limbs_copied out at [] l e = absurd (omega arith)
limbs_copied out at (p ∷ []) l e = absurd (omega arith)
limbs_copied out at (p ∷ q ∷ []) l e = absurd (omega arith)
limbs_copied out at (p ∷ q ∷ r ∷ []) l e = absurd (omega arith)
limbs_copied out at (p ∷ q ∷ r ∷ s ∷ t ∷ more) l e = absurd (omega arith)
