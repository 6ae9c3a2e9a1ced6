-- A journal that is cut.
-- Assumes nothing.
use mathlib.Core.Path.{◌≡◌, refl, sym, ap, ◌∙◌}
use mathlib.Core.Bool.{Bool, cond}
use mathlib.Core.List.{List, []}
use mathlib.Core.Logic.{⊎_elim}
use Prim.Native.Nat.{ℕ, zero, suc, ◌+◌, ◌≤◌, ◌<◌}
use native.Mathlib.Omega.{arith}
use lib.Dec.{eqb}
use lib.ListN.{length, get_or, take, set, length-set}
use lib.Seq.{get_or-set_same, get_or-set_other}
use borrow.Author.Tests.{eq-eqb, ne_eqb}
use Rattle.index.proofs.Logic.{same_or_not, lt_or_ge}
use Rattle.store.specs.Mem.{Mem, mem, slot_count, journal_words, journal_length}
use Rattle.formed.specs.Pages.{journal_count}
use Rattle.formed.specs.Parts.{tab, journal, note_address, note_first, note_last, note_place}
use Rattle.formed.specs.WellFormed.{WellFormed, NotedRight}
use Rattle.formed.proofs.Facts.{Facts}
use Rattle.formed.proofs.Meaning.{facts_of, formed_by}
use Rattle.view.specs.View.{setting_of, view_of}
use Rattle.view.specs.Steps.{forgotten}
use Rattle.view.specs.Does.{Shows}
use Rattle.view.proofs.Equal.{view_by}
use Rattle.journal.specs.Steps.{cutting}
use Rattle.formed.proofs.Same.{tab_upto}
use Rattle.journal.proofs.Lists.{tab_take}
use Rattle.journal.proofs.Kept.{JournalsAlone, note_in, note_same, same_setting, same_view, same_facts, journal_is, journal_same, noted_by}
use Rattle.journal.proofs.Shown.{shows_then, shows_same, journal_at, journal_none}

module _ (bytes keys order words : List ℕ) (w : WellFormed (mem bytes keys order words)) (j n : ℕ) (which : j < journal_count) (mark : n ≤ journal_length words j) where
  abbrev m : Mem
  m = mem bytes keys order words

  abbrev words' : List ℕ
  words' = set words (12 + j) n

  abbrev m' : Mem
  m' = mem bytes keys order words'

  f : Facts m
  f = facts_of m w

  long : length words' ≡ length words
  long = length-set words (12 + j) n

  other : (x : ℕ) → (x ≡ 12 + j → ⊥) → get_or words' x 0 ≡ get_or words x 0
  other x = get_or-set_other words (12 + j) x n 0

  alone : JournalsAlone words words'
  alone = record {
    head = λ i l. other i (λ e. omega arith);
    skip = other 15 (λ e. omega arith);
    pool = λ i l. let h = f.lengths.in_words in other i (λ e. omega arith);
  }

  length_here : (k : ℕ) → k ≡ j → journal_length words' k ≡ n
  length_here k e = ap (λ (x : ℕ). get_or words' (12 + x) 0) e ∙ get_or-set_same words (12 + j) n 0 (let h = f.lengths.in_words in omega arith)

  length_other : (k : ℕ) → (k ≡ j → ⊥) → journal_length words' k ≡ journal_length words k
  length_other k ne = other (12 + k) (λ e. ne (omega arith))

  shorter : (k : ℕ) → journal_length words' k ≤ journal_length words k
  shorter k =
      ⊎_elim
      (λ (e : k ≡ j). let a = length_here k e in let b : journal_length words k ≡ journal_length words j = ap (λ (x : ℕ). get_or words (12 + x) 0) e in omega arith)
      (λ (ne : k ≡ j → ⊥). let a = length_other k ne in omega arith)
      (same_or_not k j)

  kept_note : (k i : ℕ) → note_in bytes words' (slot_count words) (journal_words words) k i ≡ note_in bytes words (slot_count words) (journal_words words) k i
  kept_note k i = note_same _ _ _ _ (other (note_place words k i) (λ e. omega arith)) (λ x l. refl)

  notes : (k i : ℕ) → k < journal_count → i < journal_length words' k → NotedRight m' k i
  notes k i l li =
      let le = shorter k in
      let h = f.notes k i l (omega arith) in
      noted_by bytes keys order words bytes words' f refl long alone (λ b lb. refl) k i (note_address m k i) (note_first m k i) (note_last m k i)
      (other (note_place words k i) (λ e. omega arith)) (other (note_place words k i + 1) (λ e. omega arith)) (other (note_place words k i + 2) (λ e. omega arith)) h.address h.first h.last

  pub cut_formed : WellFormed m'
  cut_formed = formed_by m' (same_facts bytes keys order words bytes words' f refl long alone (λ b lb. refl) (λ k l. let a = shorter k in let b = f.in_capacity k l in omega arith) notes)

  journal_cut : (k : ℕ) → k ≡ j → journal m' k ≡ take n (journal m k)
  unfolding journal
  journal_cut k e =
      journal_is bytes keys order words bytes words' f refl long alone (λ b lb. refl) k
      ∙ ap (λ (x : ℕ). tab x (note_in bytes words' (slot_count words) (journal_words words) k)) (length_here k e)
      ∙ tab_upto n (note_in bytes words' (slot_count words) (journal_words words) k) (note_in bytes words (slot_count words) (journal_words words) k) (λ i l. kept_note k i)
      ∙ sym (tab_take n (journal_length words k) (note_in bytes words (slot_count words) (journal_words words) k) (let b : journal_length words k ≡ journal_length words j = ap (λ (x : ℕ). get_or words (12 + x) 0) e in omega arith))

  view_cut : (k : ℕ) → (view_of m').journal k ≡ (cutting j n (view_of m)).journal k
  view_cut k =
      ⊎_elim
      (λ (l : k < journal_count).
      ⊎_elim
      (λ (e : k ≡ j). journal_at m' k l ∙ journal_cut k e ∙ ap (take n) (sym (journal_at m k l)) ∙ sym (ap (λ (b : Bool). cond b (take n ((view_of m).journal k)) ((view_of m).journal k)) (eq-eqb k j e)))
      (λ (ne : k ≡ j → ⊥).
      journal_at m' k l
      ∙ journal_same bytes keys order words bytes words' f refl long alone (λ b lb. refl) k (length_other k ne) (λ i li. kept_note k i)
      ∙ sym (journal_at m k l)
      ∙ sym (ap (λ (b : Bool). cond b (take n ((view_of m).journal k)) ((view_of m).journal k)) (ne_eqb k j ne)))
      (same_or_not k j))
      (λ (l : journal_count ≤ k). journal_none m' k l ∙ sym (journal_none m k l) ∙ sym (ap (λ (b : Bool). cond b (take n ((view_of m).journal k)) ((view_of m).journal k)) (ne_eqb k j (λ e. omega arith))))
      (lt_or_ge k journal_count)

  pub cut_shows : Shows (setting_of m) (cutting j n (view_of m)) m'
  cut_shows = record {
    formed = cut_formed;
    setting = same_setting bytes keys order words bytes words' f refl long alone (λ b lb. refl);
    view = same_view bytes keys order words bytes words' f refl long alone (λ b lb. refl) (cutting j n (view_of m)) (λ p a. refl) (λ p k. refl) refl (λ p. refl) refl refl view_cut;
  }

-- all journals, emptied one after another
module _ (bytes keys order words : List ℕ) (w : WellFormed (mem bytes keys order words)) where
  abbrev m₀ : Mem
  m₀ = mem bytes keys order words

  abbrev m₁ : Mem
  m₁ = mem bytes keys order (set words 12 0)

  abbrev m₂ : Mem
  m₂ = mem bytes keys order (set (set words 12 0) 13 0)

  first : Shows (setting_of m₀) (cutting 0 0 (view_of m₀)) m₁
  first = cut_shows bytes keys order words w 0 0 (omega arith) (omega arith)

  both : Shows (setting_of m₀) (cutting 1 0 (cutting 0 0 (view_of m₀))) m₂
  both = shows_then (setting_of m₀) (cutting 0 0 (view_of m₀)) m₁ m₂ (cutting 1 0) first (cut_shows bytes keys order (set words 12 0) first.formed 1 0 (omega arith) (omega arith))

  empty : (k : ℕ) → (cutting 1 0 (cutting 0 0 (view_of m₀))).journal k ≡ []
  empty zero = refl
  empty (suc zero) = refl
  empty (suc (suc k)) =
      ap (λ (b : Bool). cond b [] (cond (eqb (suc (suc k)) 0) [] ((view_of m₀).journal (suc (suc k))))) (ne_eqb (suc (suc k)) 1 (λ e. omega arith))
      ∙ ap (λ (b : Bool). cond b [] ((view_of m₀).journal (suc (suc k)))) (ne_eqb (suc (suc k)) 0 (λ e. omega arith))
      ∙ journal_none m₀ (suc (suc k)) (omega arith)

  pub forget_shows : Shows (setting_of m₀) (forgotten (view_of m₀)) m₂
  forget_shows =
      shows_same (setting_of m₀) (cutting 1 0 (cutting 0 0 (view_of m₀))) (forgotten (view_of m₀)) m₂
      (view_by (cutting 1 0 (cutting 0 0 (view_of m₀))) (forgotten (view_of m₀)) (λ p a. refl) (λ p k. refl) refl (λ p. refl) refl refl empty) both
