-- Words that are put back.
-- Assumes nothing.
use mathlib.Core.Path.{◌≡◌, refl, sym, ap, ◌∙◌, subst}
use mathlib.Core.Bool.{Bool, cond}
use mathlib.Core.List.{List, [], ◌∷◌}
use Prim.Native.Nat.{ℕ, zero, suc, ◌+◌, ◌*◌, ◌%◌, ◌≤◌, ◌<◌}
use native.Mathlib.Numerals.{add-one}
use native.Mathlib.Omega.{arith}
use lib.Dec.{eqb}
use lib.ListN.{length, get_or, set, take, drop}
use borrow.Author.Tests.{ne_eqb, le-ltb}
use Rattle.page_ids.specs.declared.Layout.{Layout}
use Rattle.store.specs.Mem.{Mem, mem, layout_of, slot_count, journal_words, journal_length, holders}
use Rattle.formed.specs.Pages.{journal_count, journal_page}
use Rattle.formed.specs.Parts.{Note, journal, note_address, note_first, note_last, word_number, note_place, old_place}
use Rattle.formed.specs.WellFormed.{WellFormed}
use Rattle.formed.proofs.Sizes.{holders_long}
use Rattle.formed.proofs.Keys.{in_table}
use Rattle.view.specs.View.{View, Setting, setting_of, view_of}
use Rattle.view.specs.Steps.{undone, rolled_count, rolled_bytes, marks, rolled_back}
use Rattle.view.specs.Does.{Shows}
use Rattle.view.specs.Inner.{putting}
use Rattle.view.proofs.Equal.{view_by}
use Rattle.bodies.specs.Words.{place_in, Spread, InSlots}
use Rattle.journal.specs.Words.{BackAsks, PutBack}
use Rattle.journal.specs.Steps.{cutting, restoring, undoing, UndoAsks, RollBackAsks}
use Rattle.journal.proofs.Lists.{tab_drop, tab_end}
use Rattle.bodies.proofs.Copies.{spread_same}
use Rattle.bodies.proofs.Words.{put_shows}
use Rattle.journal.proofs.Kept.{note_in}
use Rattle.journal.proofs.Shown.{shows_then, shows_same, journal_at, journal_long}
use Rattle.journal.proofs.Cuts.{cut_shows}
use Rattle.journal.proofs.Places.{held_by}

-- what `put_back` asks of its slots; n is the number that it computed
pub back_slots : (bytes words : List ℕ) (j i n : ℕ) → BackAsks bytes words j i → n ≡ word_number words j i
    → InSlots bytes (get_or words (16 + 3 * n + 1) 0) (get_or words (16 + 3 * n + 2) 0) (get_or words (16 + 3 * n) 0 % 256)
back_slots bytes words j i n asks e =
    let f = asks.first in
    let g = asks.last in
    let b = asks.long.in_bytes in
    let c = asks.long.chunks_hi in
    subst (λ (x : ℕ). InSlots bytes (get_or words (16 + 3 * x + 1) 0) (get_or words (16 + 3 * x + 2) 0) (get_or words (16 + 3 * x) 0 % 256)) (sym e)
    record { offset = omega arith; first_few = omega arith; last_few = omega arith; first = omega arith; last = omega arith }

-- what it leaves
pub put_back : (bytes words : List ℕ) (j i n : ℕ) (zs old bytes' : List ℕ) → n ≡ word_number words j i
    → Spread (λ k. 0 + k) (λ k. get_or bytes (256 * slot_count words + 32 * n + k) 0) 32 zs old
    → Spread (place_in (get_or words (16 + 3 * n + 1) 0) (get_or words (16 + 3 * n + 2) 0) (get_or words (16 + 3 * n) 0 % 256)) (λ k. get_or old k 0) 32 bytes bytes'
    → PutBack bytes words j i bytes'
put_back bytes words j i n zs old bytes' e c p =
    let p' = subst (λ (x : ℕ). Spread (place_in (get_or words (16 + 3 * x + 1) 0) (get_or words (16 + 3 * x + 2) 0) (get_or words (16 + 3 * x) 0 % 256)) (λ k. get_or old k 0) 32 bytes bytes') e p in
    spread_same (place_in (get_or words (note_place words j i + 1) 0) (get_or words (note_place words j i + 2) 0) (get_or words (note_place words j i) 0 % 256)) (λ k. get_or old k 0)
    (place_in (get_or words (note_place words j i + 1) 0) (get_or words (note_place words j i + 2) 0) (get_or words (note_place words j i) 0 % 256)) (λ k. get_or bytes (old_place words j i + k) 0) 32 bytes bytes'
    (λ k l. (refl, ap (λ (x : ℕ). get_or bytes (256 * slot_count words + 32 * x + k) 0) (sym e) ∙ sym (c.on k l) ∙ ap (λ (x : ℕ). get_or old x 0) (let z : 0 + k ≡ k = omega arith in z))) p'

-- one word
module _ (bytes keys order words : List ℕ) (w : WellFormed (mem bytes keys order words)) (j i : ℕ) (which : j < journal_count) (inside : i < journal_length words j) where
  abbrev m : Mem
  m = mem bytes keys order words

  abbrev page : ℕ
  page = journal_page (layout_of words) j

  pub back_asks : BackAsks bytes words j i
  back_asks =
      let r = w.encoded.notes j i which inside in
      let f = r.first in
      let g = r.last in
      let h = holders_long m w.lengths in
      record {
        long = record { in_bytes = w.lengths.in_bytes; in_words = w.lengths.in_words; chunks_hi = w.lengths.chunks_hi; journal_hi = w.lengths.journal_hi };
        which = which;
        inside = let c = w.in_capacity j which in omega arith;
        first = let l = in_table (holders m) (note_first m j i) (omega arith) in omega arith;
        last = let l = in_table (holders m) (note_last m j i) (omega arith) in omega arith;
      }

  module _ (bytes' : List ℕ) (lb : length bytes' ≡ length bytes) (p : PutBack bytes words j i bytes') where
    abbrev m' : Mem
    m' = mem bytes' keys order words

    abbrev note : Note
    note = note_in bytes words (slot_count words) (journal_words words) j i

    back_shows : Shows (setting_of m) (putting page note.address note.old (view_of m)) m'
    back_shows =
        let r = w.encoded.notes j i which inside in
        let l = r.address in
        put_shows m w page (note_address m j i) (note_first m j i) (note_last m j i) l (held_by m w j which _ _ (omega arith) r.first) (held_by m w j which _ _ (omega arith) r.last) (λ k. get_or bytes (old_place words j i + k) 0) bytes' lb p

    newest : drop i ((view_of m).journal j) ≡ note ∷ drop (suc i) ((view_of m).journal j)
    unfolding journal
    newest =
        ap (drop i) (journal_at m j which)
        ∙ tab_drop i (journal_length words j) (note_in bytes words (slot_count words) (journal_words words) j) inside
        ∙ ap (λ (x : List Note). note ∷ drop (suc i) x) (sym (journal_at m j which))

    -- .. after those from n = i + 1 on
    pub back_more : (s : Setting) (v : View) (n : ℕ) → n ≡ i + 1 → Shows s (restoring page j n v) m → Shows s (restoring page j i v) m'
    unfolding undone
    back_more s v n e a =
        let same : (view_of m).journal j ≡ v.journal j = ap (λ (x : View). x.journal j) a.view in
        let more : drop i (v.journal j) ≡ note ∷ drop n (v.journal j) = ap (drop i) (sym same) ∙ newest ∙ ap (λ (x : List Note). note ∷ drop (suc i) x) same ∙ ap (λ (x : ℕ). note ∷ drop x (v.journal j)) (sym (e ∙ add-one i)) in
        shows_same s (putting page note.address note.old (restoring page j n v)) (restoring page j i v) m'
        (view_by (putting page note.address note.old (restoring page j n v)) (restoring page j i v) (λ p x. ap (λ (ns : List Note). undone page ns v.bytes p x) (sym more)) (λ p k. refl) refl (λ p. refl) refl refl (λ k. refl))
        (shows_then s (restoring page j n v) m m' (putting page note.address note.old) a back_shows)

-- no word yet
pub back_none : (m : Mem) (w : WellFormed m) (p j : ℕ) → j < journal_count → Shows (setting_of m) (restoring p j (journal_length m.words j) (view_of m)) m
unfolding undone journal
back_none m w p j which =
    let none : drop (journal_length m.words j) ((view_of m).journal j) ≡ [] = ap (drop (journal_length m.words j)) (journal_at m j which) ∙ tab_end (journal_length m.words j) (note_in m.bytes m.words (slot_count m.words) (journal_words m.words) j) in
    record {
      formed = w;
      setting = refl;
      view = view_by (view_of m) (restoring p j (journal_length m.words j) (view_of m)) (λ q x. ap (λ (ns : List Note). undone p ns (view_of m).bytes q x) (sym none)) (λ q k. refl) refl (λ q. refl) refl refl (λ k. refl);
    }

-- the journal is cut at last
pub undo_shows : (bytes keys order words bytes' : List ℕ) (j n i : ℕ) → UndoAsks (mem bytes keys order words) j n → n ≤ i → i ≤ n
    → Shows (setting_of (mem bytes keys order words)) (restoring (journal_page (layout_of words) j) j i (view_of (mem bytes keys order words))) (mem bytes' keys order words)
    → Shows (setting_of (mem bytes keys order words)) (undoing (layout_of words) j n (view_of (mem bytes keys order words))) (mem bytes' keys order (set words (12 + j) n))
undo_shows bytes keys order words bytes' j n i asks lo hi a =
    let e : i ≡ n = omega arith in
    let b = subst (λ (x : ℕ). Shows (setting_of (mem bytes keys order words)) (restoring (journal_page (layout_of words) j) j x (view_of (mem bytes keys order words))) (mem bytes' keys order words)) e a in
    shows_then (setting_of (mem bytes keys order words)) (restoring (journal_page (layout_of words) j) j n (view_of (mem bytes keys order words))) (mem bytes' keys order words) (mem bytes' keys order (set words (12 + j) n)) (cutting j n) b
    (cut_shows bytes' keys order words b.formed j n asks.which asks.mark)

-- journal after journal
module _ (bytes keys order words : List ℕ) (heap aux : ℕ) (asks : RollBackAsks (mem bytes keys order words) heap aux) where
  abbrev m₀ : Mem
  m₀ = mem bytes keys order words

  pub heap_asks : UndoAsks m₀ 0 heap
  heap_asks = record { formed = asks.formed; which = omega arith; mark = let h = journal_long m₀ 0 (omega arith) in let g = asks.heap_mark in omega arith }

  module _ (bytes₁ words₁ : List ℕ) (a : Shows (setting_of m₀) (undoing (layout_of words) 0 heap (view_of m₀)) (mem bytes₁ keys order words₁)) where
    abbrev m₁ : Mem
    m₁ = mem bytes₁ keys order words₁

    same_length : journal_length words₁ 1 ≡ length ((view_of m₀).journal 1)
    same_length = sym (journal_long m₁ 1 (omega arith)) ∙ ap (λ (x : View). length (x.journal 1)) a.view

    pub aux_asks : UndoAsks m₁ 1 aux
    aux_asks = record { formed = a.formed; which = omega arith; mark = let h = same_length in let g = asks.aux_mark in omega arith }

    module _ (bytes₂ words₂ : List ℕ) (b : Shows (setting_of m₁) (undoing (layout_of words₁) 1 aux (view_of m₁)) (mem bytes₂ keys order words₂)) where
      both : Shows (setting_of m₀) (undoing (layout_of words) 1 aux (undoing (layout_of words) 0 heap (view_of m₀))) (mem bytes₂ keys order words₂)
      both =
          shows_then (setting_of m₀) (undoing (layout_of words) 0 heap (view_of m₀)) m₁ (mem bytes₂ keys order words₂) (undoing (layout_of words) 1 aux) a
          (subst (λ (l : Layout). Shows (setting_of m₁) (undoing l 1 aux (view_of m₁)) (mem bytes₂ keys order words₂)) (ap (λ (x : Setting). x.layout) a.setting) b)

      each : (k : ℕ) → (undoing (layout_of words) 1 aux (undoing (layout_of words) 0 heap (view_of m₀))).journal k ≡ (rolled_back (layout_of words) (marks heap aux) (view_of m₀)).journal k
      each zero = refl
      each (suc zero) = refl
      each (suc (suc k)) =
          ap (λ (x : Bool). cond x (take aux (cond (eqb (suc (suc k)) 0) (take heap ((view_of m₀).journal (suc (suc k)))) ((view_of m₀).journal (suc (suc k))))) (cond (eqb (suc (suc k)) 0) (take heap ((view_of m₀).journal (suc (suc k)))) ((view_of m₀).journal (suc (suc k))))) (ne_eqb (suc (suc k)) 1 (λ e. omega arith))
          ∙ ap (λ (x : Bool). cond x (take heap ((view_of m₀).journal (suc (suc k)))) ((view_of m₀).journal (suc (suc k)))) (ne_eqb (suc (suc k)) 0 (λ e. omega arith))
          ∙ sym (ap (λ (x : Bool). cond x (take 0 ((view_of m₀).journal (suc (suc k)))) ((view_of m₀).journal (suc (suc k)))) (le-ltb (suc (suc k)) rolled_count (omega arith)))

      pub rolled : Shows (setting_of m₀) (rolled_back (layout_of words) (marks heap aux) (view_of m₀)) (mem bytes₂ keys order words₂)
      unfolding rolled_bytes
      rolled =
          shows_same (setting_of m₀) (undoing (layout_of words) 1 aux (undoing (layout_of words) 0 heap (view_of m₀))) (rolled_back (layout_of words) (marks heap aux) (view_of m₀)) (mem bytes₂ keys order words₂)
          (view_by (undoing (layout_of words) 1 aux (undoing (layout_of words) 0 heap (view_of m₀))) (rolled_back (layout_of words) (marks heap aux) (view_of m₀)) (λ p x. refl) (λ p k. refl) refl (λ p. refl) refl refl each) both
