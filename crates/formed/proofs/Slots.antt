-- Zero bytes, and the test of a slot.
-- Assumes nothing.
use mathlib.Core.Path.{◌≡◌, refl, sym, ap, ◌∙◌}
use mathlib.Core.Logic.{⊎_elim}
use mathlib.Core.Bool.{Bool, true, cond, ◌&&◌, and-true, and_assoc}
use mathlib.Core.List.{List, [], ◌∷◌}
use Prim.Native.Nat.{ℕ, zero, suc, ◌+◌, ◌*◌, ◌-◌, ◌≤◌, ◌<◌, zero-le, suc-le-suc}
use native.Mathlib.Nat.{le_antisymm, le_of_suc-le-suc, not-suc-le-zero}
use native.Mathlib.Numerals.{add-one}
use native.Mathlib.Omega.{arith}
use lib.Bits.{bit_or, or_add_and, and_le_r}
use lib.Dec.{ltb, leb, eqb}
use lib.ListN.{length, get_or, take, drop, length-drop}
use lib.Seq.{drop-cons, drop-length, get_or-take, get_or-drop}
use borrow.Author.Tests.{lt-ltb, le-leb, eq-eqb, ne_eqb, leb-true, ltb-true, eqb-true}
use Rattle.store.specs.Keys.{key_entry, key_chunk}
use Rattle.index.proofs.Logic.{and_left, and_right, and_both, same_or_not}
use Rattle.formed.specs.Formed.{zeros, chunk, held_right, slot_right, slot_at}

or_zero : (a b : ℕ) → eqb (bit_or a b) 0 ≡ (eqb a 0 && eqb b 0)
or_zero zero b = refl
or_zero (suc a) b =
    rw (ne_eqb (bit_or (suc a) b) 0 (λ e. omega (arith, or_add_and (suc a) b, and_le_r (suc a) b)), ne_eqb (suc a) 0 (λ e. omega arith))

-- the test of the bits so far and of what is left
pub zeros_step : (xs : List ℕ) (i any : ℕ) → i < length xs → (eqb (bit_or any (get_or xs i 0)) 0 && zeros (drop (i + 1) xs)) ≡ (eqb any 0 && zeros (drop i xs))
unfolding zeros
zeros_step xs i any l = rw (or_zero, add-one i, drop-cons xs i 0 l) (and_assoc (eqb any 0) (eqb (get_or xs i 0) 0) (zeros (drop (suc i) xs)))

pub zeros_done : (xs : List ℕ) (b : Bool) (i : ℕ) → i ≤ length xs → length xs ≤ i → (b && zeros (drop i xs)) ≡ zeros xs → b ≡ zeros xs
unfolding zeros
zeros_done xs b i l m e = let q : (b && zeros (drop i xs)) ≡ b = rw (le_antisymm l m, drop-length, and-true) in sym q ∙ e

zeros_at : (xs : List ℕ) → zeros xs ≡ true → (r : ℕ) → get_or xs r 0 ≡ 0
unfolding zeros
zeros_at [] z r = refl
zeros_at (x ∷ xs) z zero = eqb-true x 0 (and_left (eqb x 0) (zeros xs) z)
zeros_at (x ∷ xs) z (suc r) = zeros_at xs (and_right (eqb x 0) (zeros xs) z) r

zeros_all : (xs : List ℕ) → ((r : ℕ) → r < length xs → get_or xs r 0 ≡ 0) → zeros xs ≡ true
unfolding zeros
zeros_all [] h = refl
zeros_all (x ∷ xs) h = and_both (eqb x 0) (zeros xs) (eq-eqb x 0 (h 0 (suc-le-suc zero-le))) (zeros_all xs (λ r l. h (suc r) (suc-le-suc l)))

take_short : (n : ℕ) (l : List ℕ) (r : ℕ) → r < length (take n l) → r < n
take_short zero l r h = h
take_short (suc n) [] r h = absurd (not-suc-le-zero h)
take_short (suc n) (x ∷ l) zero h = suc-le-suc zero-le
take_short (suc n) (x ∷ l) (suc r) h = suc-le-suc (take_short n l r (le_of_suc-le-suc h))

module _ (bs : List ℕ) (s : ℕ) where
  chunk_at : (r : ℕ) → r < 256 → get_or (chunk bs s) r 0 ≡ get_or bs (256 * s + r) 0
  chunk_at r l = get_or-take 256 (drop (256 * s) bs) r 0 l ∙ get_or-drop (256 * s) bs r 0

  pub chunk_zero : zeros (chunk bs s) ≡ true → (r : ℕ) → r < 256 → get_or bs (256 * s + r) 0 ≡ 0
  chunk_zero z r l = sym (chunk_at r l) ∙ zeros_at (chunk bs s) z r

  pub zero_chunk : ((r : ℕ) → r < 256 → get_or bs (256 * s + r) 0 ≡ 0) → zeros (chunk bs s) ≡ true
  zero_chunk h = zeros_all (chunk bs s) (λ r l. let lt = take_short 256 (drop (256 * s) bs) r l in chunk_at r lt ∙ h r lt)

  pub tail_zero : zeros (drop 31 (chunk bs s)) ≡ true → (r : ℕ) → 31 ≤ r → r < 256 → get_or bs (256 * s + r) 0 ≡ 0
  tail_zero z r lo l =
      let e : 31 + (r - 31) ≡ r = omega arith in
      sym (chunk_at r l) ∙ ap (λ (i : ℕ). get_or (chunk bs s) i 0) (sym e) ∙ sym (get_or-drop 31 (chunk bs s) (r - 31) 0) ∙ zeros_at (drop 31 (chunk bs s)) z (r - 31)

  pub zero_tail : ((r : ℕ) → 31 ≤ r → r < 256 → get_or bs (256 * s + r) 0 ≡ 0) → zeros (drop 31 (chunk bs s)) ≡ true
  zero_tail h =
      zeros_all (drop 31 (chunk bs s)) (λ r l.
      let d = length-drop 31 (chunk bs s) in
      let lc : 31 + r < length (chunk bs s) = omega arith in
      let lt = take_short 256 (drop (256 * s) bs) (31 + r) lc in
      get_or-drop 31 (chunk bs s) r 0 ∙ chunk_at (31 + r) lt ∙ h (31 + r) (omega arith) lt)

-- a held slot
module _ (es : List ℕ) (k : ℕ) (b : List ℕ) where
  abbrev K₂ : Bool
  K₂ = cond (eqb (key_chunk k) 16777216) (zeros (drop 31 b)) true

  abbrev K₁ : Bool
  K₁ = leb (key_chunk k) 16777216 && K₂

  pub held_means : held_right es k b ≡ true → (0 < get_or es (key_entry k) 0) × (key_chunk k ≤ 16777216) × (key_chunk k ≡ 16777216 → zeros (drop 31 b) ≡ true)
  unfolding held_right
  held_means h =
      let h₁ = and_right (ltb 0 (get_or es (key_entry k) 0)) K₁ h in (
        ltb-true 0 (get_or es (key_entry k) 0) (and_left (ltb 0 (get_or es (key_entry k) 0)) K₁ h),
        leb-true (key_chunk k) 16777216 (and_left (leb (key_chunk k) 16777216) K₂ h₁),
        λ e. let h₂ = and_right (leb (key_chunk k) 16777216) K₂ h₁ in sym (ap (λ (t : Bool). cond t (zeros (drop 31 b)) true) (eq-eqb (key_chunk k) 16777216 e)) ∙ h₂,
      )

  pub held_test : 0 < get_or es (key_entry k) 0 → key_chunk k ≤ 16777216 → (key_chunk k ≡ 16777216 → zeros (drop 31 b) ≡ true) → held_right es k b ≡ true
  unfolding held_right
  held_test p l z =
      and_both (ltb 0 (get_or es (key_entry k) 0)) K₁ (lt-ltb 0 (get_or es (key_entry k) 0) p)
      (and_both (leb (key_chunk k) 16777216) K₂ (le-leb (key_chunk k) 16777216 l)
      (⊎_elim
      (λ (e : key_chunk k ≡ 16777216). ap (λ (t : Bool). cond t (zeros (drop 31 b)) true) (eq-eqb (key_chunk k) 16777216 e) ∙ z e)
      (λ (n : key_chunk k ≡ 16777216 → ⊥). ap (λ (t : Bool). cond t (zeros (drop 31 b)) true) (ne_eqb (key_chunk k) 16777216 n))
      (same_or_not (key_chunk k) 16777216)))

  -- at the last chunk the test is that of its tail
  pub held_last : 0 < get_or es (key_entry k) 0 → key_chunk k ≡ 16777216 → zeros (drop 31 b) ≡ held_right es k b
  unfolding held_right
  held_last p e = rw (lt-ltb 0 (get_or es (key_entry k) 0) p, e)

  pub slot_pooled : k ≡ 0 → zeros b ≡ slot_right es k b
  unfolding slot_right
  slot_pooled e = rw (eq-eqb k 0 e)

  pub slot_held : (k ≡ 0 → ⊥) → held_right es k b ≡ slot_right es k b
  unfolding slot_right
  slot_held n = rw (ne_eqb k 0 n)

-- a slot in its table
module _ (es hs bs : List ℕ) (s : ℕ) where
  pub slot_pool : slot_at es hs bs s ≡ true → get_or hs s 0 ≡ 0 → zeros (chunk bs s) ≡ true
  slot_pool h e = slot_pooled es (get_or hs s 0) (chunk bs s) e ∙ h

  pub slot_hold : slot_at es hs bs s ≡ true → 0 < get_or hs s 0 → held_right es (get_or hs s 0) (chunk bs s) ≡ true
  slot_hold h p = slot_held es (get_or hs s 0) (chunk bs s) (λ z. omega arith) ∙ h
