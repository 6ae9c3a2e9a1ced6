-- The steps of a write, one after another: what a word needs whose chunks are held.
-- Assumes nothing.
use mathlib.Core.Path.{◌≡◌, refl, sym, ap, ◌∙◌, subst}
use mathlib.Core.Bool.{true, false}
use mathlib.Core.List.{List, [], ◌∷◌}
use Prim.Native.Nat.{ℕ, ◌+◌, ◌/◌, ◌<◌, ◌≤◌}
use native.Mathlib.Omega.{arith}
use lib.ListN.{length}
use Rattle.page_ids.specs.declared.Layout.{Layout}
use Rattle.store.specs.Mem.{Mem, layout_of}
use Rattle.formed.specs.Pages.{journal_count, journal_page}
use Rattle.formed.specs.Parts.{Note}
use Rattle.formed.specs.WellFormed.{WellFormed}
use Rattle.formed.proofs.Same.{tab_same}
use Rattle.view.specs.View.{View, Setting, setting_of, view_of}
use Rattle.view.specs.Steps.{run, touched_count, word_notes, written}
use Rattle.view.specs.Checks.{undecodable, word_write_checks}
use Rattle.view.specs.Calls.{first_refusal}
use Rattle.view.specs.Does.{Shows}
use Rattle.view.specs.Inner.{listing, holding, noting, journalling, putting, NoteAsks}
use Rattle.view.proofs.Compose.{over_none, written_is, own_journal, unjournalled}
use Rattle.bodies.proofs.Puts.{shows_view}
use Rattle.checks.proofs.Passed.{RoomAt, word_passed}
use Rattle.word_steps.specs.Asks.{JournalAsks}

-- ---- a call that passed its tests: k is the count of chunks that its n bytes at address a touch, as computed
pub record Cleared (m : Mem) (p a n w k : ℕ) : Type 0 where
  pub formed : WellFormed m
  pub page : p ≤ 4294967295
  pub known : undecodable (setting_of m) p ≡ false
  pub room : RoomAt (setting_of m) (view_of m) p a n w
  pub end : a + n ≤ 4294967327
  pub count : k ≡ touched_count a n

module _ (m : Mem) (p a k : ℕ) (page : p ≤ 4294967295) where
  pub word_cleared : a ≤ 4294967295 → (WellFormed m) × (first_refusal (word_write_checks (setting_of m) (view_of m) p a) ≡ 0) → k ≡ touched_count a 32 → (n : ℕ) → n ≡ 32 → Cleared m p a n 1 k
  word_cleared small asks e n is =
      let h = word_passed (setting_of m) (view_of m) p a asks.1 in
      subst (λ (x : ℕ). Cleared m p a x 1 k) (sym is) record { formed = asks.0; page = page; known = h.0; room = h.1; end = omega arith; count = e }

-- ---- the page is allocated, and its chunks held
module _ (m : Mem) (p a n w k : ℕ) (c : Cleared m p a n w k) (m₂ : Mem) (done : Shows (setting_of m) (holding p (a / 256) k (listing m p)) m₂) where
  pub ready : Shows (setting_of m) (holding p (a / 256) (touched_count a n) (listing m p)) m₂
  ready = subst (λ (i : ℕ). Shows (setting_of m) (holding p (a / 256) i (listing m p)) m₂) c.count done

-- ---- the words are journalled
module _ (m : Mem) (p a n w : ℕ) (asks : JournalAsks m p a n w) (f : ℕ → List Note) where
  abbrev l : Layout
  l = layout_of m.words

  pub journal_own : (j : ℕ) → j < journal_count → p ≡ journal_page l j → (m' : Mem) → Shows (setting_of m) (noting j (f (journal_page l j)) (view_of m)) m' → Shows (setting_of m) (journalling l p (f p) (view_of m)) m'
  journal_own j k own m' shown =
      shows_view shown (ap (λ (q : ℕ). noting j (f q) (view_of m)) (sym own) ∙ own_journal l p (f p) (view_of m) asks.formed.layout j k own)

  pub journal_none : ((j : ℕ) → j < journal_count → p ≡ journal_page l j → ⊥) → Shows (setting_of m) (journalling l p (f p) (view_of m)) m
  journal_none none = record { formed = asks.formed; setting = refl; view = sym (unjournalled l p (f p) (view_of m) none) }

pub note_asks : (m : Mem) (p a : ℕ) → a ≤ 4294967295 → JournalAsks m p a 32 1 → (j : ℕ) → j < journal_count → p ≡ journal_page (layout_of m.words) j → NoteAsks m j a
note_asks m p a small asks j k own = record {
  formed = asks.formed;
  which = k;
  address = small;
  held = λ x l. subst (λ (q : ℕ). (view_of m).held q ((a + x) / 256) ≡ true) own (asks.held x l);
  room = let h = asks.room j k own in omega arith;
}

-- ---- the notes are those of the memory before
pub run_same : (v w : View) (p x n : ℕ) → ((b : ℕ) → v.bytes p b ≡ w.bytes p b) → run v p x n ≡ run w p x n
run_same v w p x n h = tab_same n _ _ (λ i. h (x + i))

pub word_notes_same : (v w : View) (p a : ℕ) → ((b : ℕ) → v.bytes p b ≡ w.bytes p b) → word_notes v p a ≡ word_notes w p a
word_notes_same v w p a h = ap (λ (o : List ℕ). record { address = a; old = o } ∷ []) (run_same v w p a 32 h)

-- ---- the bytes are put
module _ (m : Mem) (p a : ℕ) (bs : List ℕ) (w k : ℕ) (c : Cleared m p a (length bs) w k) (m₂ : Mem) (done : Shows (setting_of m) (holding p (a / 256) k (listing m p)) m₂) where
  now : Shows (setting_of m) (holding p (a / 256) (touched_count a (length bs)) (listing m p)) m₂
  now = ready m p a (length bs) w k c m₂ done

  module _ (notes : View → List Note) (same : (v w : View) → ((b : ℕ) → v.bytes p b ≡ w.bytes p b) → notes v ≡ notes w) where
    pub write_done : (m₄ : Mem) → Shows (setting_of m₂) (putting p a bs (journalling (layout_of m₂.words) p (notes (view_of m₂)) (view_of m₂))) m₄ → Shows (setting_of m) (written (layout_of m.words) p a bs (notes (view_of m)) (view_of m)) m₄
    write_done m₄ put =
        let L = layout_of m.words in
        let H : View = holding p (a / 256) (touched_count a (length bs)) (listing m p) in
        let e : layout_of m₂.words ≡ L = ap (λ (s : Setting). s.layout) now.setting in
        let q : notes (view_of m₂) ≡ notes (view_of m) = ap notes now.view ∙ same H (view_of m) (λ b. over_none p 0 (view_of m).bytes p b) in
        let v : journalling (layout_of m₂.words) p (notes (view_of m₂)) (view_of m₂) ≡ journalling L p (notes (view_of m)) H =
        ap (λ (t : Layout). journalling t p (notes (view_of m₂)) (view_of m₂)) e ∙ ap (λ (ns : List Note). journalling L p ns (view_of m₂)) q ∙ ap (journalling L p (notes (view_of m))) now.view in
        record {
          formed = put.formed;
          setting = put.setting ∙ now.setting;
          view = put.view ∙ ap (putting p a bs) v ∙ written_is L p (view_of m) a bs (notes (view_of m));
        }
