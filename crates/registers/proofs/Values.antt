-- Registers written and read, and erased words.
-- Assumes nothing.
use mathlib.Core.Path.{◌≡◌, refl, sym, ap, ap₂, ◌∙◌, fun_ext}
use mathlib.Core.Bool.{Bool, true, false, cond, ◌&&◌}
use mathlib.Core.List.{List}
use Prim.Native.Nat.{ℕ, ◌+◌, ◌*◌, ◌/◌, ◌%◌, ◌^◌, ◌<◌, ◌≤◌}
use native.Mathlib.Omega.{arith}
use native.Mathlib.Nat.{div-div-eq-div-mul, mul_assoc}
use lib.Dec.{eqb, leb}
use lib.ListN.{get_or, set, length, length-set}
use lib.Seq.{get_or-set_same, get_or-set_other}
use borrow.Author.Tests.{eqb-true, eqb-false, leb-true, leb-false, le-leb}
use Rattle.word.specs.Value.{value, limbs_value}
use Rattle.registers.specs.Registers.{Registers, registers_from, flag_of, with_register, put_flag, erased}
use Rattle.registers.proofs.Flags.{flag_put}

-- ---- erased words
low : (a h : ℕ) → a % 2 ^ 32 ≡ (a + 2 ^ 64 * h) % 2 ^ 32
low a h = omega arith

upper : (a h : ℕ) → a < 2 ^ 64 → h ≡ (a + 2 ^ 64 * h) / 2 ^ 64
upper a h l = omega arith

second : (b t : ℕ) → b / 2 ^ 32 * 2 ^ 32 + 2 ^ 64 * t ≡ 2 ^ 32 * ((b + 2 ^ 64 * t) / 2 ^ 32)
second b t = omega arith

pub erased_limbs : (a b c d : ℕ) → a < 2 ^ 64 → limbs_value (a % 2 ^ 32) (b / 2 ^ 32 * 2 ^ 32) c d ≡ erased (limbs_value a b c d)
erased_limbs a b c d l =
    let x = limbs_value a b c d in
    let h = b + 2 ^ 64 * (c + 2 ^ 64 * d) in
    ap₂ (λ (p q : ℕ). p + q) (low a h)
    (ap (λ (q : ℕ). 2 ^ 64 * q)
    (second b (c + 2 ^ 64 * d) ∙ ap (λ (q : ℕ). 2 ^ 32 * q) (ap (λ (q : ℕ). q / 2 ^ 32) (upper a h l) ∙ div-div-eq-div-mul x (2 ^ 64) (2 ^ 32)))
    ∙ sym (mul_assoc (2 ^ 64) (2 ^ 32) (x / 2 ^ 96)))

-- what is left: the offset, and all from the length up; page and start are 0
rest : (o h : ℕ) → o < 2 ^ 32 → (o + 2 ^ 32 * h) / 2 ^ 32 ≡ h
rest o h l = omega arith

kept : (o h : ℕ) → o < 2 ^ 32 → (o + 2 ^ 32 * h) % 2 ^ 32 ≡ o
kept o h l = omega arith

under : (x : ℕ) → x % 2 ^ 32 < 2 ^ 32
under x = omega arith

none : (q : ℕ) → 2 ^ 64 * q % 2 ^ 64 ≡ 0
none q = omega arith

whole : (q : ℕ) → 2 ^ 64 * q / 2 ^ 64 ≡ q
whole q = omega arith

parted : (x : ℕ) → erased x ≡ x % 2 ^ 32 + 2 ^ 32 * (2 ^ 64 * (x / 2 ^ 96))
parted x = ap (λ (q : ℕ). x % 2 ^ 32 + q) (mul_assoc (2 ^ 32) (2 ^ 64) (x / 2 ^ 96))

above_offset : (x : ℕ) → erased x / 2 ^ 32 ≡ 2 ^ 64 * (x / 2 ^ 96)
above_offset x = ap (λ (q : ℕ). q / 2 ^ 32) (parted x) ∙ rest (x % 2 ^ 32) _ (under x)

pub erased_offset : (x : ℕ) → erased x % 2 ^ 32 ≡ x % 2 ^ 32
erased_offset x = ap (λ (q : ℕ). q % 2 ^ 32) (parted x) ∙ kept (x % 2 ^ 32) _ (under x)

pub erased_between : (x : ℕ) → erased x / 2 ^ 32 % 2 ^ 64 ≡ 0
erased_between x = ap (λ (q : ℕ). q % 2 ^ 64) (above_offset x) ∙ none (x / 2 ^ 96)

pub erased_above : (x : ℕ) → erased x / 2 ^ 96 ≡ x / 2 ^ 96
erased_above x = sym (div-div-eq-div-mul (erased x) (2 ^ 32) (2 ^ 64)) ∙ ap (λ (q : ℕ). q / 2 ^ 64) (above_offset x) ∙ whole (x / 2 ^ 96)

-- ---- tests one after the other
pub stopped : (r a b : Bool) → r ≡ a → r ≡ false → false ≡ (a && b)
stopped r a b e h = sym (ap (λ (t : Bool). t && b) (sym e ∙ h))

pub passed : (r a b v : Bool) → r ≡ a → r ≡ true → v ≡ b → v ≡ (a && b)
passed r a b v e h f = f ∙ sym (ap (λ (t : Bool). t && b) (sym e ∙ h))

-- ---- the numbers of the registers
-- the numbers l with the limbs of register n and its flag written
abbrev pub numbers_put : List ℕ → ℕ → List ℕ → Bool → List ℕ
numbers_put l n limbs t =
    set
    (set (set (set (set l (4 * n) (get_or limbs 0 0)) (4 * n + 1) (get_or limbs 1 0)) (4 * n + 2) (get_or limbs 2 0)) (4 * n + 3) (get_or limbs 3 0))
    64 (put_flag (get_or l 64 0) n t)

-- the word of a register, from its four numbers
pub word_is : (l : List ℕ) (n : ℕ) → n ≤ 15
    → limbs_value (get_or l (4 * n) 0) (get_or l (4 * n + 1) 0) (get_or l (4 * n + 2) 0) (get_or l (4 * n + 3) 0) ≡ (registers_from l).word n
word_is l n h =
    let w = limbs_value (get_or l (4 * n) 0) (get_or l (4 * n + 1) 0) (get_or l (4 * n + 2) 0) (get_or l (4 * n + 3) 0) in
    sym (ap (λ (t : Bool). cond t w 0) (le-leb n 15 h))

limbs_are : (a b c d p q r s : ℕ) → a ≡ p → b ≡ q → c ≡ r → d ≡ s → limbs_value a b c d ≡ limbs_value p q r s
limbs_are a b c d p q r s e f g h =
    let more : ℕ → ℕ → ℕ = λ x y. x + 2 ^ 64 * y in
    ap₂ more e (ap₂ more f (ap₂ more g h))

-- a list of 65 numbers in which the four of register n and the last are written
module _ (l : List ℕ) (n a b c d f : ℕ) (len : length l ≡ 65) (m : n ≤ 15) where
  abbrev put_0 : List ℕ
  put_0 = set l (4 * n) a

  abbrev put_1 : List ℕ
  put_1 = set put_0 (4 * n + 1) b

  abbrev put_2 : List ℕ
  put_2 = set put_1 (4 * n + 2) c

  abbrev put_3 : List ℕ
  put_3 = set put_2 (4 * n + 3) d

  abbrev put_all : List ℕ
  put_all = set put_3 64 f

  flags_put : get_or put_all 64 0 ≡ f
  flags_put = get_or-set_same put_3 64 f 0 (simp length-set (omega arith))

  limb_0 : get_or put_all (4 * n) 0 ≡ a
  limb_0 =
      get_or-set_other put_3 64 (4 * n) f 0 (λ e. omega arith)
      ∙ get_or-set_other put_2 (4 * n + 3) (4 * n) d 0 (λ e. omega arith)
      ∙ get_or-set_other put_1 (4 * n + 2) (4 * n) c 0 (λ e. omega arith)
      ∙ get_or-set_other put_0 (4 * n + 1) (4 * n) b 0 (λ e. omega arith)
      ∙ get_or-set_same l (4 * n) a 0 (omega arith)

  limb_1 : get_or put_all (4 * n + 1) 0 ≡ b
  limb_1 =
      get_or-set_other put_3 64 (4 * n + 1) f 0 (λ e. omega arith)
      ∙ get_or-set_other put_2 (4 * n + 3) (4 * n + 1) d 0 (λ e. omega arith)
      ∙ get_or-set_other put_1 (4 * n + 2) (4 * n + 1) c 0 (λ e. omega arith)
      ∙ get_or-set_same put_0 (4 * n + 1) b 0 (simp length-set (omega arith))

  limb_2 : get_or put_all (4 * n + 2) 0 ≡ c
  limb_2 =
      get_or-set_other put_3 64 (4 * n + 2) f 0 (λ e. omega arith)
      ∙ get_or-set_other put_2 (4 * n + 3) (4 * n + 2) d 0 (λ e. omega arith)
      ∙ get_or-set_same put_1 (4 * n + 2) c 0 (simp length-set (omega arith))

  limb_3 : get_or put_all (4 * n + 3) 0 ≡ d
  limb_3 =
      get_or-set_other put_3 64 (4 * n + 3) f 0 (λ e. omega arith)
      ∙ get_or-set_same put_2 (4 * n + 3) d 0 (simp length-set (omega arith))

  -- a number that is none of the five
  elsewhere : (j : ℕ) → (j ≡ 4 * n → ⊥) → (j ≡ 4 * n + 1 → ⊥) → (j ≡ 4 * n + 2 → ⊥) → (j ≡ 4 * n + 3 → ⊥) → j < 64 → get_or put_all j 0 ≡ get_or l j 0
  elsewhere j h0 h1 h2 h3 h =
      get_or-set_other put_3 64 j f 0 (λ e. omega arith)
      ∙ get_or-set_other put_2 (4 * n + 3) j d 0 h3
      ∙ get_or-set_other put_1 (4 * n + 2) j c 0 h2
      ∙ get_or-set_other put_0 (4 * n + 1) j b 0 h1
      ∙ get_or-set_other l (4 * n) j a 0 h0

  abbrev word_of : List ℕ → ℕ → ℕ
  word_of x k = limbs_value (get_or x (4 * k) 0) (get_or x (4 * k + 1) 0) (get_or x (4 * k + 2) 0) (get_or x (4 * k + 3) 0)

  word_here : word_of put_all n ≡ limbs_value a b c d
  word_here = limbs_are _ _ _ _ a b c d limb_0 limb_1 limb_2 limb_3

  word_elsewhere : (k : ℕ) → k ≤ 15 → (k ≡ n → ⊥) → word_of put_all k ≡ word_of l k
  word_elsewhere k h e =
      limbs_are _ _ _ _ _ _ _ _
      (elsewhere (4 * k) (λ q. e (omega arith)) (λ q. omega arith) (λ q. omega arith) (λ q. omega arith) (omega arith))
      (elsewhere (4 * k + 1) (λ q. omega arith) (λ q. e (omega arith)) (λ q. omega arith) (λ q. omega arith) (omega arith))
      (elsewhere (4 * k + 2) (λ q. omega arith) (λ q. omega arith) (λ q. e (omega arith)) (λ q. omega arith) (omega arith))
      (elsewhere (4 * k + 3) (λ q. omega arith) (λ q. omega arith) (λ q. omega arith) (λ q. e (omega arith)) (omega arith))

  word_at : (k : ℕ) (t u : Bool) → eqb k n ≡ t → leb k 15 ≡ u → cond u (word_of put_all k) 0 ≡ cond t (limbs_value a b c d) (cond u (word_of l k) 0)
  word_at k true true e h = ap (λ (j : ℕ). word_of put_all j) (eqb-true k n e) ∙ word_here
  word_at k true false e h = absurd (omega (arith, m, eqb-true k n e, leb-false k 15 h))
  word_at k false true e h = word_elsewhere k (leb-true k 15 h) (eqb-false k n e)
  word_at k false false e h = refl

pub put_is : (l : List ℕ) (n : ℕ) (limbs : List ℕ) (t : Bool) → length l ≡ 65 → n ≤ 15 → eqb n 0 ≡ false
    → registers_from (numbers_put l n limbs t) ≡ with_register n (value limbs) t (registers_from l)
unfolding value
put_is l n limbs t len m z =
    let g : Registers = registers_from l in
    let f : ℕ = put_flag (get_or l 64 0) n t in
    let after : Registers = record { word = λ k. cond (eqb k n) (value limbs) (g.word k); flags = f } in
    ap₂ {A = ℕ → ℕ} {B = ℕ} {C = Registers} (λ p q. record { word = p; flags = q })
    (fun_ext (λ k. word_at l n (get_or limbs 0 0) (get_or limbs 1 0) (get_or limbs 2 0) (get_or limbs 3 0) f len m k (eqb k n) (leb k 15) refl refl))
    (flags_put l n (get_or limbs 0 0) (get_or limbs 1 0) (get_or limbs 2 0) (get_or limbs 3 0) f len m)
    ∙ sym (ap (λ (b : Bool). cond b g after) z)

-- ---- reading what was written
module _ (n w : ℕ) (t : Bool) (g : Registers) (z : eqb n 0 ≡ false) where
  written : with_register n w t g ≡ record { word = λ k. cond (eqb k n) w (g.word k); flags = put_flag g.flags n t }
  written = ap (λ (b : Bool). cond b g (record { word = λ k. cond (eqb k n) w (g.word k); flags = put_flag g.flags n t })) z

  pub word_written_lem : (k : ℕ) → (with_register n w t g).word k ≡ cond (eqb k n) w (g.word k)
  word_written_lem k = ap (λ (h : Registers). h.word k) written

  pub flag_written : (k : ℕ) → flag_of (with_register n w t g).flags k ≡ cond (eqb k n) t (flag_of g.flags k)
  flag_written k = ap (λ (h : Registers). flag_of h.flags k) written ∙ flag_put g.flags n k t
