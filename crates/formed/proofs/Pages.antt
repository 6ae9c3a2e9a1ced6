-- The layout's rule, and the pages of a layout.
-- Assumes nothing.
use mathlib.Core.Path.{◌≡◌, refl, sym, ap, ◌∙◌, subst}
use mathlib.Core.Logic.{⊎_elim}
use mathlib.Core.Bool.{Bool, true, false, cond, not, ◌&&◌, ◌||◌, false≢true}
use mathlib.Core.List.{List}
use Prim.Native.Nat.{ℕ, zero, suc, ◌+◌, ◌-◌, ◌%◌, ◌≤◌, ◌<◌}
use native.Mathlib.Omega.{arith}
use lib.Dec.{ltb, leb, eqb}
use lib.ListN.{get_or}
use Rattle.std.specs.Prelude.{Option, Some, None}
use borrow.Author.Tests.{lt-ltb, le-ltb, le-leb, eq-eqb, ne_eqb, leb-true, ltb-true, ltb-false, eqb-true, eqb-false}
use Rattle.page_ids.specs.declared.Layout.{Layout}
use Rattle.page_ids.specs.declared.DynamicPageKind.{DynamicPageKind}
use Rattle.page_ids.specs.declared.DynamicPageKind.TheVariants.{Code, Heap, Aux}
use Rattle.page_ids.specs.declared.DecodedPage.{DecodedPage}
use Rattle.page_ids.specs.declared.DecodedPage.TheVariants.{Static, BootloaderCalldata, BootloaderHeap, BootloaderAuxHeap, Dynamic}
use Rattle.page_ids.specs.Decode.{bad_layout, Page, none, page, page_of, by_remainder, decoded, is_dynamic, is_fixed}
use Rattle.index.proofs.Logic.{and_left, and_right, and_both, same_or_not}
use Rattle.store.specs.Mem.{layout_of}
use Rattle.formed.specs.Pages.{fixed_id, LayoutRule, fixed, dynamic, group, journal_count, journal_place}
use Rattle.formed.proofs.Bools.{not_on, or_off, or_first, or_rest, or_on, or_left}

-- the rule of refusal 1
module _ (l : Layout) where
  abbrev D₆ : Bool
  D₆ = eqb l.bootloader_heap.0 l.bootloader_aux.0 || ltb l.stride 4

  abbrev D₅ : Bool
  D₅ = eqb l.calldata.0 l.bootloader_aux.0 || D₆

  abbrev D₄ : Bool
  D₄ = eqb l.calldata.0 l.bootloader_heap.0 || D₅

  abbrev D₃ : Bool
  D₃ = eqb l.static_memory.0 l.bootloader_aux.0 || D₄

  abbrev D₂ : Bool
  D₂ = eqb l.static_memory.0 l.bootloader_heap.0 || D₃

  abbrev D₁ : Bool
  D₁ = eqb l.static_memory.0 l.calldata.0 || D₂

  d₂ : D₁ ≡ false → D₂ ≡ false
  d₂ d = or_rest (eqb l.static_memory.0 l.calldata.0) D₂ d

  d₃ : D₁ ≡ false → D₃ ≡ false
  d₃ d = or_rest (eqb l.static_memory.0 l.bootloader_heap.0) D₃ (d₂ d)

  d₄ : D₁ ≡ false → D₄ ≡ false
  d₄ d = or_rest (eqb l.static_memory.0 l.bootloader_aux.0) D₄ (d₃ d)

  d₅ : D₁ ≡ false → D₅ ≡ false
  d₅ d = or_rest (eqb l.calldata.0 l.bootloader_heap.0) D₅ (d₄ d)

  d₆ : D₁ ≡ false → D₆ ≡ false
  d₆ d = or_rest (eqb l.calldata.0 l.bootloader_aux.0) D₆ (d₅ d)

  apart : D₁ ≡ false → (i j : ℕ) → i < j → j < 4 → fixed_id l i ≡ fixed_id l j → ⊥
  apart d i zero lt h e = absurd (omega arith)
  apart d zero (suc zero) lt h e = eqb-false l.static_memory.0 l.calldata.0 (or_first _ D₂ d) e
  apart d zero (suc (suc zero)) lt h e = eqb-false l.static_memory.0 l.bootloader_heap.0 (or_first _ D₃ (d₂ d)) e
  apart d zero (suc (suc (suc zero))) lt h e = eqb-false l.static_memory.0 l.bootloader_aux.0 (or_first _ D₄ (d₃ d)) e
  apart d (suc i) (suc zero) lt h e = absurd (omega arith)
  apart d (suc zero) (suc (suc zero)) lt h e = eqb-false l.calldata.0 l.bootloader_heap.0 (or_first _ D₅ (d₄ d)) e
  apart d (suc zero) (suc (suc (suc zero))) lt h e = eqb-false l.calldata.0 l.bootloader_aux.0 (or_first _ D₆ (d₅ d)) e
  apart d (suc (suc i)) (suc (suc zero)) lt h e = absurd (omega arith)
  apart d (suc (suc zero)) (suc (suc (suc zero))) lt h e = eqb-false l.bootloader_heap.0 l.bootloader_aux.0 (or_first _ (ltb l.stride 4) (d₆ d)) e
  apart d (suc (suc (suc i))) (suc (suc (suc zero))) lt h e = absurd (omega arith)
  apart d i (suc (suc (suc (suc j)))) lt h e = absurd (omega arith)

  pub layout_rule : not (bad_layout l) ≡ true → LayoutRule l
  layout_rule y =
      let d = not_on D₁ y in
      record { distinct = apart d; stride = ltb-false l.stride 4 (or_rest (eqb l.bootloader_heap.0 l.bootloader_aux.0) (ltb l.stride 4) (d₆ d)) }

  pub layout_test : LayoutRule l → not (bad_layout l) ≡ true
  layout_test r =
      rw (
        ne_eqb l.static_memory.0 l.calldata.0 (r.distinct 0 1 (omega arith) (omega arith)),
        ne_eqb l.static_memory.0 l.bootloader_heap.0 (r.distinct 0 2 (omega arith) (omega arith)),
        ne_eqb l.static_memory.0 l.bootloader_aux.0 (r.distinct 0 3 (omega arith) (omega arith)),
        ne_eqb l.calldata.0 l.bootloader_heap.0 (r.distinct 1 2 (omega arith) (omega arith)),
        ne_eqb l.calldata.0 l.bootloader_aux.0 (r.distinct 1 3 (omega arith) (omega arith)),
        ne_eqb l.bootloader_heap.0 l.bootloader_aux.0 (r.distinct 2 3 (omega arith) (omega arith)),
        le-ltb l.stride 4 r.stride,
      )

-- a page id is fixed if it is one of the four
abbrev fixed_ones : Layout → ℕ → Bool
fixed_ones l p = eqb p l.static_memory.0 || (eqb p l.calldata.0 || (eqb p l.bootloader_heap.0 || eqb p l.bootloader_aux.0))

abbrev group_of : Page → ℕ
group_of none = 0
group_of (page kind g) = g

module _ (l : Layout) (p : ℕ) where
  -- what is decoded where p is no fixed id
  abbrev loose : Page
  loose = cond (ltb p l.base.0) none (cond (eqb l.stride 0) none (by_remainder ((p - l.base.0) % l.stride) (group l p)))

  loose_free : is_fixed loose ≡ false
  loose_free = go (ltb p l.base.0) (eqb l.stride 0) (eqb ((p - l.base.0) % l.stride) 0) (eqb ((p - l.base.0) % l.stride) 2) (eqb ((p - l.base.0) % l.stride) 3)
    where
      go : (a b x y z : Bool) → is_fixed (cond a none (cond b none (cond x (page 0 (group l p)) (cond y (page 1 (group l p)) (cond z (page 2 (group l p)) none))))) ≡ false
      go true b x y z = refl
      go false true x y z = refl
      go false false true y z = refl
      go false false false true z = refl
      go false false false false true = refl
      go false false false false false = refl

  loose_group : is_dynamic loose ≡ true → group_of loose ≡ group l p
  loose_group = go (ltb p l.base.0) (eqb l.stride 0) (eqb ((p - l.base.0) % l.stride) 0) (eqb ((p - l.base.0) % l.stride) 2) (eqb ((p - l.base.0) % l.stride) 3)
    where
      go : (a b x y z : Bool) → is_dynamic (cond a none (cond b none (cond x (page 0 (group l p)) (cond y (page 1 (group l p)) (cond z (page 2 (group l p)) none))))) ≡ true
          → group_of (cond a none (cond b none (cond x (page 0 (group l p)) (cond y (page 1 (group l p)) (cond z (page 2 (group l p)) none))))) ≡ group l p
      go true b x y z e = absurd (false≢true e)
      go false true x y z e = absurd (false≢true e)
      go false false true y z e = refl
      go false false false true z e = refl
      go false false false false true e = refl
      go false false false false false e = absurd (false≢true e)

  pub fixed_is : fixed l p ≡ fixed_ones l p
  unfolding fixed
  fixed_is = go (eqb p l.static_memory.0) (eqb p l.calldata.0) (eqb p l.bootloader_heap.0) (eqb p l.bootloader_aux.0) loose loose_free
    where
      go : (a b c d : Bool) (y : Page) → is_fixed y ≡ false → is_fixed (cond a (page 3 0) (cond b (page 4 0) (cond c (page 5 0) (cond d (page 6 0) y)))) ≡ (a || (b || (c || d)))
      go true b c d y e = refl
      go false true c d y e = refl
      go false false true d y e = refl
      go false false false true y e = refl
      go false false false false y e = e

  -- a dynamic page is decoded in its group
  pub dynamic_group : dynamic l p ≡ true → group_of (decoded l p) ≡ group l p
  unfolding dynamic
  dynamic_group = go (eqb p l.static_memory.0) (eqb p l.calldata.0) (eqb p l.bootloader_heap.0) (eqb p l.bootloader_aux.0) loose loose_group
    where
      go : (a b c d : Bool) (y : Page) → (is_dynamic y ≡ true → group_of y ≡ group l p) → is_dynamic (cond a (page 3 0) (cond b (page 4 0) (cond c (page 5 0) (cond d (page 6 0) y)))) ≡ true
          → group_of (cond a (page 3 0) (cond b (page 4 0) (cond c (page 5 0) (cond d (page 6 0) y)))) ≡ group l p
      go true b c d y h e = absurd (false≢true e)
      go false true c d y h e = absurd (false≢true e)
      go false false true d y h e = absurd (false≢true e)
      go false false false true y h e = absurd (false≢true e)
      go false false false false y h e = h e

  -- what `decode_page` answers, of a page id
  pub told_dynamic : (k : DynamicPageKind) (g : ℕ) → page_of (Some (Dynamic k g)) ≡ decoded l p → (dynamic l p ≡ true) × (group l p ≡ g)
  unfolding dynamic
  told_dynamic k g e = let y : dynamic l p ≡ true = sym (ap is_dynamic e) ∙ kind k in (y, sym (dynamic_group y) ∙ sym (ap group_of e) ∙ its k)
    where
      kind : (k : DynamicPageKind) → is_dynamic (page_of (Some (Dynamic k g))) ≡ true
      kind Code = refl
      kind Heap = refl
      kind Aux = refl

      its : (k : DynamicPageKind) → group_of (page_of (Some (Dynamic k g))) ≡ g
      its Code = refl
      its Heap = refl
      its Aux = refl

  pub told_other : (r : DecodedPage) → ((k : DynamicPageKind) (g : ℕ) → r ≡ Dynamic k g → ⊥) → page_of (Some r) ≡ decoded l p → dynamic l p ≡ false
  unfolding dynamic
  told_other r n e = sym (ap is_dynamic e) ∙ go r n
    where
      go : (r : DecodedPage) → ((k : DynamicPageKind) (g : ℕ) → r ≡ Dynamic k g → ⊥) → is_dynamic (page_of (Some r)) ≡ false
      go Static n = refl
      go BootloaderCalldata n = refl
      go BootloaderHeap n = refl
      go BootloaderAuxHeap n = refl
      go (Dynamic k g) n = absurd (n k g refl)

  pub told_none : page_of None ≡ decoded l p → dynamic l p ≡ false
  unfolding dynamic
  told_none e = sym (ap is_dynamic e)

  pub is_fixed_lem : (e : ℕ) → e < 4 → p ≡ fixed_id l e → fixed l p ≡ true
  is_fixed_lem zero h q = fixed_is ∙ or_left (eqb p l.static_memory.0) _ (eq-eqb p l.static_memory.0 q)
  is_fixed_lem (suc zero) h q = fixed_is ∙ or_on (eqb p l.static_memory.0) _ (or_left (eqb p l.calldata.0) _ (eq-eqb p l.calldata.0 q))
  is_fixed_lem (suc (suc zero)) h q = fixed_is ∙ or_on (eqb p l.static_memory.0) _ (or_on (eqb p l.calldata.0) _ (or_left (eqb p l.bootloader_heap.0) _ (eq-eqb p l.bootloader_heap.0 q)))
  is_fixed_lem (suc (suc (suc zero))) h q = fixed_is ∙ or_on (eqb p l.static_memory.0) _ (or_on (eqb p l.calldata.0) _ (or_on (eqb p l.bootloader_heap.0) _ (eq-eqb p l.bootloader_aux.0 q)))
  is_fixed_lem (suc (suc (suc (suc e)))) h q = absurd (omega arith)

-- which of the fixed pages p is
pub record FixedAt (l : Layout) (p : ℕ) : Type 0 where
  pub place : ℕ
  pub small : place < 4
  pub there : p ≡ fixed_id l place

pub fixed_at : (l : Layout) (p : ℕ) → fixed l p ≡ true → FixedAt l p
fixed_at l p y =
    let h : fixed_ones l p ≡ true = sym (fixed_is l p) ∙ y in
    ⊎_elim
    (λ (e : p ≡ l.static_memory.0). record { place = 0; small = omega arith; there = e })
    (λ (n : p ≡ l.static_memory.0 → ⊥).
    let h₁ = or_off (eqb p l.static_memory.0) (eqb p l.calldata.0 || (eqb p l.bootloader_heap.0 || eqb p l.bootloader_aux.0)) (ne_eqb p l.static_memory.0 n) h in
    ⊎_elim
    (λ (e : p ≡ l.calldata.0). record { place = 1; small = omega arith; there = e })
    (λ (n₁ : p ≡ l.calldata.0 → ⊥).
    let h₂ = or_off (eqb p l.calldata.0) (eqb p l.bootloader_heap.0 || eqb p l.bootloader_aux.0) (ne_eqb p l.calldata.0 n₁) h₁ in
    ⊎_elim
    (λ (e : p ≡ l.bootloader_heap.0). record { place = 2; small = omega arith; there = e })
    (λ (n₂ : p ≡ l.bootloader_heap.0 → ⊥). record { place = 3; small = omega arith; there = eqb-true p l.bootloader_aux.0 (or_off (eqb p l.bootloader_heap.0) (eqb p l.bootloader_aux.0) (ne_eqb p l.bootloader_heap.0 n₂) h₂) })
    (same_or_not p l.bootloader_heap.0))
    (same_or_not p l.calldata.0))
    (same_or_not p l.static_memory.0)

-- the fixed ids stand at the head of the words
pub fixed_id_lem : (w : List ℕ) (e : ℕ) → e < 4 → fixed_id (layout_of w) e ≡ get_or w e 0
fixed_id_lem w zero h = refl
fixed_id_lem w (suc zero) h = refl
fixed_id_lem w (suc (suc zero)) h = refl
fixed_id_lem w (suc (suc (suc zero))) h = refl
fixed_id_lem w (suc (suc (suc (suc e)))) h = absurd (omega arith)

pub place_lt : (j : ℕ) → j < journal_count → journal_place j < 4
place_lt zero l = omega arith
place_lt (suc zero) l = omega arith
place_lt (suc (suc j)) l = absurd (omega arith)

-- an entry past the fixed ones
module _ (l : Layout) (d x p : ℕ) (e : x ≡ p + 1) where
  less : x - 1 ≡ p
  less = omega arith

  abbrev Q₂ : Bool
  Q₂ = dynamic l (x - 1) && ltb (group l (x - 1)) d

  abbrev Q₁ : Bool
  Q₁ = leb x 4294967296 && Q₂

  pub page_means : eqb x 0 || Q₁ ≡ true → (p ≤ 4294967295) × (dynamic l p ≡ true) × (group l p < d)
  page_means h =
      let h₁ = or_off (eqb x 0) Q₁ (ne_eqb x 0 (λ z. omega arith)) h in
      let h₂ = and_right (leb x 4294967296) Q₂ h₁ in
      let g = leb-true x 4294967296 (and_left (leb x 4294967296) Q₂ h₁) in (
        omega arith,
        sym (ap (dynamic l) less) ∙ and_left (dynamic l (x - 1)) (ltb (group l (x - 1)) d) h₂,
        subst (λ (y : ℕ). group l y < d) less (ltb-true (group l (x - 1)) d (and_right (dynamic l (x - 1)) (ltb (group l (x - 1)) d) h₂)),
      )

  pub page_test : p ≤ 4294967295 → dynamic l p ≡ true → group l p < d → eqb x 0 || Q₁ ≡ true
  page_test h y g =
      or_on (eqb x 0) Q₁ (and_both (leb x 4294967296) Q₂ (le-leb x 4294967296 (omega arith))
      (and_both (dynamic l (x - 1)) (ltb (group l (x - 1)) d) (ap (dynamic l) less ∙ y) (lt-ltb (group l (x - 1)) d (subst (λ (y : ℕ). group l y < d) (sym less) g))))

-- what a fixed entry is compared with
pub less_one : (x y : ℕ) → (x ≡ 0 → ⊥) → eqb (x - 1) y ≡ eqb x (y + 1)
less_one x y n =
    ⊎_elim
    (λ (e : x - 1 ≡ y). eq-eqb (x - 1) y e ∙ sym (eq-eqb x (y + 1) (omega arith)))
    (λ (m : x - 1 ≡ y → ⊥). ne_eqb (x - 1) y m ∙ sym (ne_eqb x (y + 1) (λ e. m (omega arith))))
    (same_or_not (x - 1) y)
