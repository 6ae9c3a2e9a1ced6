-- The words of the pool, as the test reads them.
-- Assumes nothing.
use mathlib.Core.Path.{◌≡◌, sym, ap, ◌∙◌, fun_ext}
use mathlib.Core.Logic.{◌⊎◌, inl, inr, ⊎_elim}
use mathlib.Core.Bool.{Bool, true, false, ◌&&◌, ◌||◌, false≢true}
use mathlib.Core.List.{List}
use Prim.Native.Nat.{ℕ, ◌+◌, ◌*◌, ◌-◌, ◌≤◌, ◌<◌, min}
use native.Mathlib.Omega.{arith}
use lib.Dec.{eqb, leb}
use lib.ListN.{length, get_or, take, drop}
use borrow.Author.Tests.{eq-eqb, eqb-true}
use Rattle.index.specs.Index.{all, used_count, free_count}
use Rattle.index.proofs.All.{all_at, all_intro}
use Rattle.index.proofs.Counts.{used_free}
use Rattle.index.proofs.Logic.{lt_or_ge}
use Rattle.bits.specs.Bits.{ones_of, free_bits, free_word}
use Rattle.bits.proofs.Free.{free_short}
use Rattle.bits.proofs.Words.{Bits, ones_free, same_words}
use Rattle.store.specs.Mem.{slot_count, held_now, pool_length, pool_place, pool_word, pool_words, pool_skip}
use Rattle.store.proofs.Parts.{rest_part}
use Rattle.store.proofs.Pool.{pool_at, pool_long}
use Rattle.formed.specs.Formed.{pool_right}
use Rattle.formed.proofs.Bools.{and_stop, and_pass, refute, or_on, or_either}

-- n is how many slots have their bits in word i
module _ (hs : List ℕ) (i n : ℕ) (l : 64 * i ≤ length hs) (e : n ≡ min 64 (length hs - 64 * i)) where
  pub in_word : (n ≤ 64) × (64 * i + n ≤ length hs) × (free_bits hs (64 * i) n ≡ free_word hs i)
  in_word =
      ⊎_elim
      (λ (h : length hs - 64 * i < 64). (omega arith, omega arith, sym (free_short hs (64 * i) n 64 (omega arith) (omega arith))))
      (λ (h : 64 ≤ length hs - 64 * i). let q : n ≡ 64 = omega arith in (omega arith, omega arith, ap (free_bits hs (64 * i)) q))
      (lt_or_ge (length hs - 64 * i) 64)

-- ---- the test, in the order of the code
module _ (hs w : List ℕ) (room : pool_length (slot_count w) ≤ length w) where
  abbrev n : ℕ
  n = pool_length (slot_count w)

  abbrev P₁ : ℕ → Bool
  P₁ i = eqb (pool_word w i) (free_word hs i)

  -- .. or it is 0
  abbrev P₀ : ℕ → Bool
  P₀ i = eqb (pool_word w i) 0 || eqb (pool_word w i) (free_word hs i)

  abbrev P₂ : ℕ → Bool
  P₂ i = eqb (pool_word w i) 0

  same_all : (p q : ℕ → Bool) (k : ℕ) → ((i : ℕ) → p i ≡ q i) → all p k ≡ all q k
  same_all p q k h = ap (λ (x : ℕ → Bool). all x k) (fun_ext h)

  -- `&words[at..]`
  module _ (at : ℕ) (here : at ≡ pool_place w) where
    abbrev lent : List ℕ
    lent = take (length w - at) (drop at w)

    part : lent ≡ pool_words w
    part = rest_part w at ∙ ap (λ (x : ℕ). drop x w) here

    part_at : (i : ℕ) → get_or lent i 0 ≡ pool_word w i
    part_at i = ap (λ (x : List ℕ). get_or x i 0) part ∙ pool_at w i

    pub lent_long : length lent ≡ n
    lent_long = ap length part ∙ pool_long w room

    pub lent_count : ones_of lent ≡ ones_of (pool_words w)
    lent_count = ap ones_of part

    pub lent_bits : all (λ i. eqb (get_or lent i 0) 0 || eqb (get_or lent i 0) (free_word hs i)) (length lent) ≡ all P₀ n
    lent_bits =
        ap (all (λ i. eqb (get_or lent i 0) 0 || eqb (get_or lent i 0) (free_word hs i))) lent_long
        ∙ same_all (λ i. eqb (get_or lent i 0) 0 || eqb (get_or lent i 0) (free_word hs i)) P₀ n (λ i. ap (λ (x : ℕ). eqb x 0 || eqb x (free_word hs i)) (part_at i))

    pub lent_skipped : all (λ i. eqb (get_or lent i 0) 0) (pool_skip w) ≡ all P₂ (pool_skip w)
    lent_skipped = same_all (λ i. eqb (get_or lent i 0) 0) P₂ (pool_skip w) (λ i. ap (λ (x : ℕ). eqb x 0) (part_at i))

  -- as many bits are set as slots are free; then each word is right if it is 0 or right
  module _ (long : length hs ≡ slot_count w) (used : used_count hs ≡ held_now w) where
    free : free_count hs ≡ slot_count w - held_now w
    free = let u = used_free hs in omega arith

    pub held_most : held_now w ≤ slot_count w
    held_most = let u = used_free hs in omega arith

    right_word : all P₁ n ≡ true → (i : ℕ) → i < n → pool_word w i ≡ free_word hs i
    right_word e i l = eqb-true (pool_word w i) (free_word hs i) (all_at P₁ n i e l)

    bits_of : ((i : ℕ) → i < n → pool_word w i ≡ free_word hs i) → Bits hs (pool_words w)
    bits_of h i l = let q = pool_long w room in pool_at w i ∙ h i (omega arith)

    pub stop_count : (ones_of (pool_words w) ≡ slot_count w - held_now w → ⊥) → false ≡ pool_right hs w
    unfolding pool_right
    stop_count ne =
        and_stop (all P₁ n) (leb (pool_skip w) n && all P₂ (pool_skip w))
        (sym (refute (all P₁ n) (λ e. ne (ones_free hs (pool_words w) (bits_of (right_word e)) (let q = pool_long w room in omega arith) ∙ free))))

    pub stop_bits : all P₀ n ≡ false → false ≡ pool_right hs w
    unfolding pool_right
    stop_bits f =
        and_stop (all P₁ n) (leb (pool_skip w) n && all P₂ (pool_skip w))
        (sym (refute (all P₁ n) (λ e. false≢true (sym f ∙ all_intro P₀ n (λ i l. or_on (eqb (pool_word w i) 0) (P₁ i) (all_at P₁ n i e l))))))

    pub right_bits : ones_of (pool_words w) ≡ slot_count w - held_now w → all P₀ n ≡ true → all P₁ n ≡ true
    right_bits count e =
        let q = pool_long w room in
        let same = same_words hs (pool_words w) (omega arith) (count ∙ sym free) (λ i l. either i (all_at P₀ n i e (omega arith))) in
        all_intro P₁ n (λ i l. eq-eqb (pool_word w i) (free_word hs i) (sym (pool_at w i) ∙ same i (omega arith)))
      where
        either : (i : ℕ) → P₀ i ≡ true → (get_or (pool_words w) i 0 ≡ 0) ⊎ (get_or (pool_words w) i 0 ≡ free_word hs i)
        either i h =
            ⊎_elim
            (λ (z : eqb (pool_word w i) 0 ≡ true). inl (pool_at w i ∙ eqb-true (pool_word w i) 0 z))
            (λ (z : P₁ i ≡ true). inr (pool_at w i ∙ eqb-true (pool_word w i) (free_word hs i) z))
            (or_either (eqb (pool_word w i) 0) (P₁ i) h)

  pub stop_skip : all P₁ n ≡ true → leb (pool_skip w) n ≡ false → false ≡ pool_right hs w
  unfolding pool_right
  stop_skip e f = and_stop (leb (pool_skip w) n) (all P₂ (pool_skip w)) f ∙ and_pass (all P₁ n) (leb (pool_skip w) n && all P₂ (pool_skip w)) e

  pub at_skipped : all P₁ n ≡ true → leb (pool_skip w) n ≡ true → all P₂ (pool_skip w) ≡ pool_right hs w
  unfolding pool_right
  at_skipped e f = and_pass (leb (pool_skip w) n) (all P₂ (pool_skip w)) f ∙ and_pass (all P₁ n) (leb (pool_skip w) n && all P₂ (pool_skip w)) e
