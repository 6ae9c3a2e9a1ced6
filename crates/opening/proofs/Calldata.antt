-- Calldata is put on its page.
-- Assumes nothing.
use mathlib.Core.Path.{◌≡◌, refl, sym, ap, ◌∙◌, subst}
use mathlib.Core.Bool.{Bool, true, false, cond, ◌&&◌, ◌||◌}
use mathlib.Core.List.{List, [], ◌++◌}
use Prim.Native.Nat.{ℕ, zero, suc, ◌+◌, ◌-◌, ◌/◌, ◌≤◌, ◌<◌, zero-le, max}
use native.Mathlib.Omega.{arith}
use lib.Dec.{leb, ltb, eqb}
use lib.ListN.{length}
use borrow.Author.Tests.{lt-ltb, le-ltb, le-leb, eq-eqb, eqb-true}
use Rattle.page_ids.specs.declared.Layout.{Layout}
use Rattle.store.specs.Mem.{Mem, layout_of, slot_count}
use Rattle.formed.specs.Pages.{LayoutRule, fixed, group, journal_count, journal_page}
use Rattle.formed.specs.Parts.{Note}
use Rattle.formed.proofs.Pages.{is_fixed_lem}
use Rattle.view.specs.View.{View, Setting, view_of, setting_of}
use Rattle.view.specs.Steps.{over, touches, touched_count, missing, journalled, written, empty_view, opened}
use Rattle.view.specs.Inner.{holding, putting, HoldAsks, PutAsks}
use Rattle.view.specs.Does.{Shows}
use Rattle.view.proofs.Equal.{view_by}
use Rattle.view.proofs.Compose.{plain_write}
use Rattle.view.proofs.Counts.{fixed_only}
use Rattle.opening.specs.Opening.{CalldataAsks}
use Rattle.opening.proofs.Refusals.{touched_is}

missing_le : (f : ℕ → Bool) (k n : ℕ) → missing f k n ≤ n
unfolding missing
missing_le f k zero = zero-le
missing_le f k (suc n) = let h = missing_le f k n in go (f (k + n)) h
  where
    go : (b : Bool) → missing f k n ≤ n → missing f k n + cond b 0 1 ≤ suc n
    go true h = omega arith
    go false h = omega arith

either : {A : Type 0} (b : Bool) (x : A) → cond b x x ≡ x
either true x = refl
either false x = refl

-- in a new memory a write of no bytes to a fixed page changes nothing
module _ (s : Setting) (p : ℕ) (f : fixed s.layout p ≡ true) where
  no_bytes : (q b : ℕ) → over p 0 [] (λ _ _. 0) q b ≡ 0
  unfolding over
  no_bytes q b = either (eqb q p && (leb 0 b && ltb b (0 + 0))) 0

  none_held : (q k : ℕ) → ((eqb q p && touches 0 0 k) || false) ≡ false
  none_held q k = rw (le-leb (0 / 256) k zero-le, le-ltb k (0 / 256 + 0) zero-le) (go (eqb q p))
    where
      go : (b : Bool) → ((b && false) || false) ≡ false
      go true = refl
      go false = refl

  pool_kept : s.chunks - missing (λ _. false) (0 / 256) 0 ≡ s.chunks
  unfolding missing
  pool_kept = less s.chunks
    where
      less : (n : ℕ) → n - 0 ≡ n
      less n = omega arith

  fixed_kept : (q : ℕ) → (eqb q p || fixed s.layout q) ≡ fixed s.layout q
  fixed_kept q = go (eqb q p) (λ e. ap (fixed s.layout) (eqb-true q p e) ∙ f)
    where
      go : (b : Bool) → (b ≡ true → fixed s.layout q ≡ true) → (b || fixed s.layout q) ≡ fixed s.layout q
      go true h = sym (h refl)
      go false h = refl

  no_notes : (j : ℕ) → ◌≡◌ {A = List Note} (cond (journalled s.layout p j) ([] ++ []) []) []
  no_notes j = either (journalled s.layout p j) []

  fresh_listed : written s.layout p 0 [] [] (empty_view s) ≡ empty_view s
  fresh_listed =
      view_by (written s.layout p 0 [] [] (empty_view s)) (empty_view s) no_bytes none_held pool_kept fixed_kept
      (ap (λ (b : Bool). cond b s.pages (s.pages - 1)) f)
      (ap (λ (b : Bool). cond b (max 0 (group s.layout p + 1)) 0) (fixed_only s.layout p f))
      no_notes

-- the calldata page has no journal
calldata_plain : (l : Layout) → LayoutRule l → (j : ℕ) → j < journal_count → l.calldata.0 ≡ journal_page l j → ⊥
calldata_plain l r zero h e = r.distinct 1 2 (omega arith) (omega arith) e
calldata_plain l r (suc zero) h e = r.distinct 1 3 (omega arith) (omega arith) e
calldata_plain l r (suc (suc j)) h e = omega arith

module _ (m : Mem) (p n : ℕ) (asks : CalldataAsks m p n) where
  few : slot_count m.words ≤ 65536
  few = asks.started.formed.lengths.chunks_hi

  is_fixed_page : fixed (layout_of m.words) p ≡ true
  is_fixed_page = is_fixed_lem (layout_of m.words) p 1 (omega arith) asks.page

  pub hold_asks : HoldAsks m p 0 ((n + 255) / 256)
  hold_asks =
      let r = asks.room in
      let f = few in
      record {
        formed = asks.started.formed;
        listed = ap (λ (v : View). v.allocated p) asks.started.view ∙ is_fixed_page;
        top = omega arith;
        room =
            let a = missing_le ((view_of m).held p) 0 ((n + 255) / 256) in
            let b : (view_of m).pool ≡ slot_count m.words = ap (λ (v : View). v.pool) asks.started.view in
            omega arith;
      }

  module _ (m₁ : Mem) (h : Shows (setting_of m) (holding p 0 ((n + 255) / 256) (view_of m)) m₁) where
    all_held : (k : ℕ) → k < (n + 255) / 256 → (view_of m₁).held p k ≡ true
    all_held k l =
        ap (λ (v : View). v.held p k) h.view
        ∙ go (eqb p p) (leb 0 k) (ltb k (0 + (n + 255) / 256)) ((view_of m).held p k) (eq-eqb p p refl) (le-leb 0 k zero-le) (lt-ltb k (0 + (n + 255) / 256) (omega arith))
      where
        go : (a b c d : Bool) → a ≡ true → b ≡ true → c ≡ true → ((a && (b && c)) || d) ≡ true
        go a b c d x y z = rw (x, y, z) refl

    pub put_asks : PutAsks m₁ p 0 n
    put_asks =
        let r = asks.room in
        let f = few in
        record { formed = h.formed; held = λ x l. all_held ((0 + x) / 256) (omega arith); top = omega arith }

    module _ (calldata : List ℕ) (long : n ≡ length calldata) where
      view_is : putting p 0 calldata (view_of m₁) ≡ opened (setting_of m) calldata
      view_is =
          ap (putting p 0 calldata)
          (h.view ∙ ap (holding p 0 ((n + 255) / 256)) (asks.started.view ∙ sym (fresh_listed (setting_of m) p is_fixed_page))
          ∙ ap (λ (k : ℕ). holding p 0 k (written (layout_of m.words) p 0 [] [] (empty_view (setting_of m)))) (touched_is n ∙ ap (touched_count 0) long))
          ∙ subst (λ (q : ℕ). putting q 0 calldata (holding q 0 (touched_count 0 (length calldata)) (written (layout_of m.words) q 0 [] [] (empty_view (setting_of m)))) ≡ opened (setting_of m) calldata) (sym asks.page)
          (plain_write (layout_of m.words) (layout_of m.words).calldata.0 (empty_view (setting_of m)) 0 calldata [] (calldata_plain (layout_of m.words) asks.started.formed.layout))

      pub calldata_put : (m₂ : Mem) → Shows (setting_of m₁) (putting p 0 calldata (view_of m₁)) m₂ → Shows (setting_of m) (opened (setting_of m) calldata) m₂
      calldata_put m₂ g = record { formed = g.formed; setting = g.setting ∙ h.setting; view = g.view ∙ view_is }
