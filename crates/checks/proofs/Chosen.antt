-- The number that the tests give, from what each of them told.
-- Assumes nothing.
use mathlib.Core.Path.{◌≡◌, sym, ap, ◌∙◌}
use mathlib.Core.Bool.{Bool, true, false}
use mathlib.Core.List.{List, ◌∷◌}
use Prim.Native.Nat.{ℕ, zero, suc, ◌+◌, ◌-◌, ◌/◌, ◌^◌, ◌<◌, ◌≤◌}
use native.Mathlib.Omega.{arith}
use lib.Dec.{ltb}
use lib.ListN.{length}
use borrow.Author.Tests.{lt-ltb, le-ltb}
use Rattle.view.proofs.Refused.{first_holds, first_fails}
use Rattle.outcome.specs.Outcome.{refused}
use Rattle.page_ids.specs.Decode.{Page, decoded, is_none, is_fixed}
use Rattle.store.specs.Keys.{last_chunk}
use Rattle.store.specs.Mem.{Mem, head_length}
use Rattle.formed.specs.Pages.{fixed}
use Rattle.formed.specs.Formed.{narrow}
use Rattle.formed.specs.WellFormed.{WellFormed}
use Rattle.formed.proofs.Sizes.{narrow_test}
use Rattle.view.specs.View.{View, Setting}
use Rattle.view.specs.Steps.{touched_count, aligned_count}
use Rattle.view.specs.Checks.{Check, undecodable, capacity_checks_at, byte_write_checks, allocate_checks, capacity_checks}
use Rattle.view.specs.Calls.{Value, first_refusal}

-- ---- what reading the layout asks
pub layout_asks : (m : Mem) → WellFormed m → (head_length ≤ length m.words) × (narrow m.words ≡ true)
layout_asks m f = let h = f.lengths.in_words in (omega arith, narrow_test m.words f.encoded.layout_width f.encoded.length_width)

-- ---- none of the chunks that n bytes at address a touch lies past the last
pub touched_top : (a n : ℕ) → a + n ≤ 4294967327 → a / 256 + touched_count a n ≤ last_chunk + 1
touched_top a zero l = omega arith
touched_top a (suc n) l = omega arith

-- ---- room for n bytes at address a, from the counts of chunks and of journal words as computed
module _ (a n k : ℕ) (is : k ≡ touched_count a n) where
  pub room_chosen : (s : Setting) (v : View) (p w x r : ℕ) → x ≡ w → r ≡ first_refusal (capacity_checks s v p (a / 256) k x) → r ≡ first_refusal (capacity_checks_at s v p a n w)
  room_chosen s v p w x r e q = q ∙ ap (λ (y : ℕ). first_refusal (capacity_checks s v p (a / 256) y x)) is ∙ ap (λ (y : ℕ). first_refusal (capacity_checks s v p (a / 256) (touched_count a n) y)) e

pub words_fit : (a n w : ℕ) → w ≡ aligned_count a n → a + n ≤ 2 ^ 32 → w ≤ 2 ^ 60
words_fit a n w e l = let h = small n l in omega arith
  where
    small : (n : ℕ) → a + n ≤ 2 ^ 32 → aligned_count a n ≤ 2 ^ 60
    small zero l = omega arith
    small (suc n) l = omega arith

-- ---- 4 and what comes after it; d is the page as decoded
module _ (s : Setting) (v : View) (p : ℕ) (d : Page) (is : d ≡ decoded s.layout p) where
  pub none_is : {b : Bool} → is_none d ≡ b → undecodable s p ≡ b
  unfolding undecodable
  none_is e = sym (ap is_none is) ∙ e

  pub fixed_is : {b : Bool} → is_fixed d ≡ b → fixed s.layout p ≡ b
  unfolding fixed
  fixed_is e = sym (ap is_fixed is) ∙ e

  module _ (rest : List (Check Value)) where
    pub chosen_4 : is_none d ≡ true → 4 ≡ first_refusal ((undecodable s p, refused 4) ∷ rest)
    chosen_4 e = first_holds (undecodable s p) 4 rest (none_is e)

    pub past_4 : is_none d ≡ false → (r : ℕ) → r ≡ first_refusal rest → r ≡ first_refusal ((undecodable s p, refused 4) ∷ rest)
    past_4 e r q = q ∙ first_fails (undecodable s p) (refused 4) rest (none_is e)

  -- a byte write
  module _ (a n : ℕ) (e : is_none d ≡ false) (fits : a < 2 ^ 32) where
    pub bytes_8 : 4294967296 - a < n → 8 ≡ first_refusal (byte_write_checks s v p a n)
    bytes_8 l =
        past_4 ((ltb (2 ^ 32) (a + n), refused 8) ∷ capacity_checks_at s v p a n (aligned_count a n)) e 8
        (first_holds (ltb (2 ^ 32) (a + n)) 8 (capacity_checks_at s v p a n (aligned_count a n)) (lt-ltb (2 ^ 32) (a + n) (omega arith)))

    pub bytes_room : n ≤ 4294967296 - a → (r : ℕ) → r ≡ first_refusal (capacity_checks_at s v p a n (aligned_count a n)) → r ≡ first_refusal (byte_write_checks s v p a n)
    bytes_room l r q =
        past_4 ((ltb (2 ^ 32) (a + n), refused 8) ∷ capacity_checks_at s v p a n (aligned_count a n)) e r
        (q ∙ first_fails (ltb (2 ^ 32) (a + n)) (refused 8) (capacity_checks_at s v p a n (aligned_count a n)) (le-ltb (2 ^ 32) (a + n) (omega arith)))

  -- an allocation
  module _ (n : ℕ) (e : is_none d ≡ false) where
    pub allocate_5 : is_fixed d ≡ true → 5 ≡ first_refusal (allocate_checks s v p n)
    allocate_5 f =
        past_4 ((fixed s.layout p, refused 5) ∷ (v.allocated p, refused 6) ∷ capacity_checks_at s v p 0 n 0) e 5
        (first_holds (fixed s.layout p) 5 ((v.allocated p, refused 6) ∷ capacity_checks_at s v p 0 n 0) (fixed_is f))

    past_5 : is_fixed d ≡ false → (r : ℕ) → r ≡ first_refusal ((v.allocated p, refused 6) ∷ capacity_checks_at s v p 0 n 0) → r ≡ first_refusal (allocate_checks s v p n)
    past_5 f r q =
        past_4 ((fixed s.layout p, refused 5) ∷ (v.allocated p, refused 6) ∷ capacity_checks_at s v p 0 n 0) e r
        (q ∙ first_fails (fixed s.layout p) (refused 5) ((v.allocated p, refused 6) ∷ capacity_checks_at s v p 0 n 0) (fixed_is f))

    pub allocate_6 : is_fixed d ≡ false → v.allocated p ≡ true → 6 ≡ first_refusal (allocate_checks s v p n)
    allocate_6 f g = past_5 f 6 (first_holds (v.allocated p) 6 (capacity_checks_at s v p 0 n 0) g)

    pub allocate_room : is_fixed d ≡ false → v.allocated p ≡ false → (r : ℕ) → r ≡ first_refusal (capacity_checks_at s v p 0 n 0) → r ≡ first_refusal (allocate_checks s v p n)
    allocate_room f g r q = past_5 f r (q ∙ first_fails (v.allocated p) (refused 6) (capacity_checks_at s v p 0 n 0) g)
