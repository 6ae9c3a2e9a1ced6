-- Aligned words that are noted one after another.
-- Assumes nothing.
use mathlib.Core.Path.{◌≡◌, refl, sym, ap, ◌∙◌, subst}
use mathlib.Core.Bool.{Bool, true, false, cond}
use mathlib.Core.List.{List, [], ◌∷◌, ◌++◌, append-nil, append_assoc}
use Prim.Native.Nat.{ℕ, ◌+◌, ◌*◌, ◌/◌, ◌≤◌, ◌<◌}
use native.Mathlib.Numerals.{add-one}
use native.Mathlib.Omega.{arith}
use lib.Dec.{eqb}
use lib.ListN.{length, length-append}
use borrow.Author.Tests.{eq-eqb}
use Rattle.formed.proofs.Same.{tab_long}
use Rattle.page_ids.specs.declared.Layout.{Layout}
use Rattle.store.specs.Mem.{Mem, layout_of, journal_words}
use Rattle.formed.specs.Pages.{journal_page}
use Rattle.formed.specs.Parts.{Note, tab}
use Rattle.view.specs.View.{View, Setting, setting_of, view_of}
use Rattle.view.specs.Does.{Shows}
use Rattle.view.specs.Inner.{noting, NoteAsks}
use Rattle.view.proofs.Equal.{view_by}
use Rattle.view.specs.Steps.{word_now}
use Rattle.journal.specs.Steps.{aligned_from, AlignedAsks}
use Rattle.journal.proofs.Lists.{tab_snoc}
use Rattle.journal.proofs.Shown.{shows_then, shows_same}

module _ (m₀ : Mem) (j first n : ℕ) (asks : AlignedAsks m₀ j first n) where
  abbrev v : View
  v = view_of m₀

  abbrev page : ℕ
  page = journal_page (layout_of m₀.words) j

  abbrev notes : ℕ → List Note
  notes i = aligned_from v page first i

  -- no word yet
  pub aligned_none : Shows (setting_of m₀) (noting j (notes 0) v) m₀
  unfolding tab
  aligned_none = record {
    formed = asks.formed;
    setting = refl;
    view = view_by v (noting j [] v) (λ p a. refl) (λ p k. refl) refl (λ p. refl) refl refl (λ k. go (eqb k j) (v.journal k));
  }
    where
      go : (b : Bool) (ns : List Note) → ns ≡ cond b (ns ++ []) ns
      go true ns = sym (append-nil ns)
      go false ns = refl

  module _ (m₁ : Mem) (i : ℕ) (l : i < n) (a : Shows (setting_of m₀) (noting j (notes i) v) m₁) where
    same_layout : layout_of m₁.words ≡ layout_of m₀.words
    same_layout = ap (λ (x : Setting). x.layout) a.setting

    long : length ((view_of m₁).journal j) ≡ length (v.journal j) + i
    long =
        ap (λ (x : View). length (x.journal j)) a.view
        ∙ ap (λ (b : Bool). length (cond b (v.journal j ++ notes i) (v.journal j))) (eq-eqb j j refl)
        ∙ length-append (v.journal j) (notes i)
        ∙ ap (λ (x : ℕ). length (v.journal j) + x) (tab_long i (λ k. word_now v page (32 * (first + k))))

    held : (x : ℕ) → x < 32 → (view_of m₁).held (journal_page (layout_of m₁.words) j) ((32 * (first + i) + x) / 256) ≡ true
    held x lx =
        ap (λ (z : Layout). (view_of m₁).held (journal_page z j) ((32 * (first + i) + x) / 256)) same_layout
        ∙ ap (λ (z : View). z.held page ((32 * (first + i) + x) / 256)) a.view
        ∙ ap (v.held page) (let e : (32 * (first + i) + x) / 256 ≡ 32 * (first + i) / 256 = omega arith in e)
        ∙ asks.held i l

    pub aligned_asks : NoteAsks m₁ j (32 * (first + i))
    aligned_asks = record {
      formed = a.formed;
      which = asks.which;
      address = let t = asks.top in omega arith;
      held = held;
      room = let r : journal_words m₁.words ≡ journal_words m₀.words = ap (λ (x : Setting). x.journal_words) a.setting in let k = long in let h = asks.room in omega arith;
    }

    abbrev newest : Note
    newest = word_now v page (32 * (first + i))

    -- one word more
    pub aligned_more : (m₂ : Mem) → Shows (setting_of m₁) (noting j (word_now (view_of m₁) (journal_page (layout_of m₁.words) j) (32 * (first + i)) ∷ []) (view_of m₁)) m₂ → Shows (setting_of m₀) (noting j (notes (i + 1)) v) m₂
    aligned_more m₂ b =
        shows_same (setting_of m₀) (noting j (newest ∷ []) (noting j (notes i) v)) (noting j (notes (i + 1)) v) m₂
        (view_by (noting j (newest ∷ []) (noting j (notes i) v)) (noting j (notes (i + 1)) v) (λ p x. refl) (λ p k. refl) refl (λ p. refl) refl refl (λ k. go (eqb k j) (v.journal k)))
        (shows_then (setting_of m₀) (noting j (notes i) v) m₁ m₂ (λ z. noting j (word_now z page (32 * (first + i)) ∷ []) z) a
        (subst (λ (z : Layout). Shows (setting_of m₁) (noting j (word_now (view_of m₁) (journal_page z j) (32 * (first + i)) ∷ []) (view_of m₁)) m₂) same_layout b))
      where
        go : (b : Bool) (ns : List Note) → cond b (cond b (ns ++ notes i) ns ++ (newest ∷ [])) (cond b (ns ++ notes i) ns) ≡ cond b (ns ++ notes (i + 1)) ns
        go true ns = append_assoc ns (notes i) (newest ∷ []) ∙ ap (λ (x : List Note). ns ++ x) (sym (ap notes (add-one i) ∙ tab_snoc i (λ k. word_now v page (32 * (first + k)))))
        go false ns = refl

  -- all of them
  pub aligned_done : (i : ℕ) (m₁ : Mem) → i ≤ n → n ≤ i → Shows (setting_of m₀) (noting j (notes i) v) m₁ → Shows (setting_of m₀) (noting j (notes n) v) m₁
  aligned_done i m₁ l m a = let e : i ≡ n = omega arith in subst (λ (x : ℕ). Shows (setting_of m₀) (noting j (notes x) v) m₁) e a
