-- A covering page by page and byte by byte; two coverings make an equality.
-- Assumes nothing.
use mathlib.Core.Path.{◌≡◌, refl, sym, ◌∙◌}
use mathlib.Core.Logic.{◌⊎◌, inl, inr, ⊎_elim}
use mathlib.Core.Bool.{Bool, true, false, not, ◌&&◌, ◌||◌, false≢true}
use Prim.Native.Nat.{ℕ, ◌/◌, ◌<◌}
use lib.Dec.{eqb}
use borrow.Author.Tests.{eq-eqb, ne_eqb, eqb-true}
use Rattle.index.specs.Index.{all}
use Rattle.index.proofs.Logic.{and_left, and_right, and_both, and_false_right, both_ways}
use Rattle.index.proofs.All.{all_at, all_intro, all_fails}
use Rattle.store.specs.Mem.{Mem}
use Rattle.formed.specs.Parts.{allocated, holds, byte_at}
use Rattle.formed.specs.WellFormed.{WellFormed}
use Rattle.formed.proofs.Bools.{and_stop, and_pass}
use Rattle.formed.proofs.Sense.{unheld_byte}
use Rattle.view.specs.View.{View, view_of}
use Rattle.view.specs.Steps.{same_bool, alike}
use Rattle.compare.specs.Covers.{covers_page, covers}

-- ---- tests
true_or_false : (a : Bool) → (a ≡ true) ⊎ (a ≡ false)
true_or_false true = inl refl
true_or_false false = inr refl

-- `not a || b` says that b follows from a
implies : (a b : Bool) → not a || b ≡ true → a ≡ true → b ≡ true
implies true b h e = h
implies false b h e = absurd (false≢true e)

implied : (a b : Bool) → (a ≡ true → b ≡ true) → not a || b ≡ true
implied true b h = h refl
implied false b h = refl

not_implied : (a b : Bool) → a ≡ true → b ≡ false → not a || b ≡ false
not_implied a b e f = rw (e, f)

same_if : (a b : Bool) → (a ≡ true → b ≡ true) → (b ≡ true → a ≡ true) → same_bool a b ≡ true
same_if true b f g = f refl
same_if false true f g = g refl
same_if false false f g = refl

same_left : (a b : Bool) → same_bool a b ≡ true → a ≡ true → b ≡ true
same_left true b h e = h
same_left false b h e = absurd (false≢true e)

same_right : (a b : Bool) → same_bool a b ≡ true → b ≡ true → a ≡ true
same_right true b h e = refl
same_right false true h e = h
same_right false false h e = e

-- ---- a covering, by pages and bytes
module _ (v w : View) where
  abbrev page_kept : ℕ → Bool
  page_kept p = not (v.allocated p) || w.allocated p

  abbrev byte_kept : ℕ → ℕ → Bool
  byte_kept p a = not (v.held p (a / 256)) || eqb (v.bytes p a) (w.bytes p a)

  abbrev bytes_kept : ℕ → Bool
  bytes_kept p = all (byte_kept p) 4294967327

  pub covers_by : ((p : ℕ) → v.allocated p ≡ true → w.allocated p ≡ true) → ((p a : ℕ) → v.held p (a / 256) ≡ true → v.bytes p a ≡ w.bytes p a) → covers v w ≡ true
  unfolding covers
  covers_by pages bytes =
      all_intro (covers_page v w) 4294967296 (λ p _.
      and_both (page_kept p) (bytes_kept p) (implied (v.allocated p) (w.allocated p) (pages p))
      (all_intro (byte_kept p) 4294967327 (λ a _. implied (v.held p (a / 256)) (eqb (v.bytes p a) (w.bytes p a)) (λ h. eq-eqb (v.bytes p a) (w.bytes p a) (bytes p a h)))))

  page_covered : (p : ℕ) → p < 4294967296 → covers v w ≡ true → covers_page v w p ≡ true
  unfolding covers
  page_covered p l c = all_at (covers_page v w) 4294967296 p c l

  pub covers_page_lem : (p : ℕ) → p < 4294967296 → covers v w ≡ true → v.allocated p ≡ true → w.allocated p ≡ true
  covers_page_lem p l c = implies (v.allocated p) (w.allocated p) (and_left (page_kept p) (bytes_kept p) (page_covered p l c))

  pub covers_byte : (p a : ℕ) → p < 4294967296 → a < 4294967327 → covers v w ≡ true → v.held p (a / 256) ≡ true → v.bytes p a ≡ w.bytes p a
  covers_byte p a l u c h =
      eqb-true (v.bytes p a) (w.bytes p a)
      (implies (v.held p (a / 256)) (eqb (v.bytes p a) (w.bytes p a)) (all_at (byte_kept p) 4294967327 a (and_right (page_kept p) (bytes_kept p) (page_covered p l c)) u) h)

  -- a difference
  pub page_lost : (p : ℕ) → p < 4294967296 → v.allocated p ≡ true → w.allocated p ≡ false → covers v w ≡ false
  unfolding covers
  page_lost p l y n = all_fails (covers_page v w) 4294967296 p l (rw (not_implied (v.allocated p) (w.allocated p) y n))

  pub byte_lost : (p a : ℕ) → p < 4294967296 → a < 4294967327 → v.held p (a / 256) ≡ true → (v.bytes p a ≡ w.bytes p a → ⊥) → covers v w ≡ false
  unfolding covers
  byte_lost p a l u h n =
      all_fails (covers_page v w) 4294967296 p l
      (and_false_right (page_kept p) (bytes_kept p)
      (all_fails (byte_kept p) 4294967327 a u (not_implied (v.held p (a / 256)) (eqb (v.bytes p a) (w.bytes p a)) h (ne_eqb (v.bytes p a) (w.bytes p a) n))))

  -- ---- an equality, the same way
  abbrev bytes_same : ℕ → Bool
  bytes_same p = all (λ a. eqb (v.bytes p a) (w.bytes p a)) 4294967327

  abbrev page_same : ℕ → Bool
  page_same p = same_bool (v.allocated p) (w.allocated p) && bytes_same p

  pub alike_by : ((p : ℕ) → p < 4294967296 → same_bool (v.allocated p) (w.allocated p) ≡ true) → ((p a : ℕ) → p < 4294967296 → a < 4294967327 → v.bytes p a ≡ w.bytes p a) → alike v w ≡ true
  unfolding alike
  alike_by pages bytes =
      all_intro page_same 4294967296 (λ p l.
      and_both (same_bool (v.allocated p) (w.allocated p)) (bytes_same p) (pages p l)
      (all_intro (λ a. eqb (v.bytes p a) (w.bytes p a)) 4294967327 (λ a u. eq-eqb (v.bytes p a) (w.bytes p a) (bytes p a l u))))

  page_alike : (p : ℕ) → p < 4294967296 → alike v w ≡ true → page_same p ≡ true
  unfolding alike
  page_alike p l e = all_at page_same 4294967296 p e l

  pub alike_page : (p : ℕ) → p < 4294967296 → alike v w ≡ true → same_bool (v.allocated p) (w.allocated p) ≡ true
  alike_page p l e = and_left (same_bool (v.allocated p) (w.allocated p)) (bytes_same p) (page_alike p l e)

  pub alike_byte : (p a : ℕ) → p < 4294967296 → a < 4294967327 → alike v w ≡ true → v.bytes p a ≡ w.bytes p a
  alike_byte p a l u e =
      eqb-true (v.bytes p a) (w.bytes p a) (all_at (λ b. eqb (v.bytes p b) (w.bytes p b)) 4294967327 a (and_right (same_bool (v.allocated p) (w.allocated p)) (bytes_same p) (page_alike p l e)) u)

  alike_covers : alike v w ≡ true → covers v w ≡ true
  unfolding covers
  alike_covers e =
      all_intro (covers_page v w) 4294967296 (λ p l.
      and_both (page_kept p) (bytes_kept p) (implied (v.allocated p) (w.allocated p) (same_left (v.allocated p) (w.allocated p) (alike_page p l e)))
      (all_intro (byte_kept p) 4294967327 (λ a u. implied (v.held p (a / 256)) (eqb (v.bytes p a) (w.bytes p a)) (λ _. eq-eqb (v.bytes p a) (w.bytes p a) (alike_byte p a l u e)))))

alike_sym : (v w : View) → alike v w ≡ true → alike w v ≡ true
alike_sym v w e =
    alike_by w v
    (λ p l. same_if (w.allocated p) (v.allocated p) (same_right (v.allocated p) (w.allocated p) (alike_page v w p l e)) (same_left (v.allocated p) (w.allocated p) (alike_page v w p l e)))
    (λ p a l u. sym (alike_byte v w p a l u e))

-- ---- TWO MEMORIES ARE ALIKE WHERE EACH COVERS THE OTHER: a byte that neither holds is zero in both
module _ (m n : Mem) (f : WellFormed m) (g : WellFormed n) where
  byte_alike : covers (view_of m) (view_of n) ≡ true → covers (view_of n) (view_of m) ≡ true → (p a : ℕ) → p < 4294967296 → a < 4294967327 → byte_at m p a ≡ byte_at n p a
  byte_alike c d p a l u =
      ⊎_elim
      (λ (h : holds m p (a / 256) ≡ true). covers_byte (view_of m) (view_of n) p a l u c h)
      (λ (x : holds m p (a / 256) ≡ false).
      ⊎_elim
      (λ (h : holds n p (a / 256) ≡ true). sym (covers_byte (view_of n) (view_of m) p a l u d h))
      (λ (y : holds n p (a / 256) ≡ false). unheld_byte m f p a x ∙ sym (unheld_byte n g p a y))
      (true_or_false (holds n p (a / 256))))
      (true_or_false (holds m p (a / 256)))

  pub covers_both : (covers (view_of m) (view_of n) && covers (view_of n) (view_of m)) ≡ alike (view_of m) (view_of n)
  covers_both =
      both_ways (covers (view_of m) (view_of n) && covers (view_of n) (view_of m)) (alike (view_of m) (view_of n))
      (λ e.
      let c = and_left (covers (view_of m) (view_of n)) (covers (view_of n) (view_of m)) e in
      let d = and_right (covers (view_of m) (view_of n)) (covers (view_of n) (view_of m)) e in
      alike_by (view_of m) (view_of n)
      (λ p l. same_if (allocated m p) (allocated n p) (covers_page_lem (view_of m) (view_of n) p l c) (covers_page_lem (view_of n) (view_of m) p l d))
      (byte_alike c d))
      (λ e.
      and_both (covers (view_of m) (view_of n)) (covers (view_of n) (view_of m)) (alike_covers (view_of m) (view_of n) e)
      (alike_covers (view_of n) (view_of m) (alike_sym (view_of m) (view_of n) e)))

  -- where the first half holds, the second decides
  pub second_half : covers (view_of m) (view_of n) ≡ true → covers (view_of n) (view_of m) ≡ alike (view_of m) (view_of n)
  second_half c = and_pass (covers (view_of m) (view_of n)) (covers (view_of n) (view_of m)) c ∙ covers_both

  pub first_fails : covers (view_of m) (view_of n) ≡ false → false ≡ alike (view_of m) (view_of n)
  first_fails c = and_stop (covers (view_of m) (view_of n)) (covers (view_of n) (view_of m)) c ∙ covers_both
