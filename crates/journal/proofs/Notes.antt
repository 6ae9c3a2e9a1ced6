-- A word that is noted.
-- Assumes nothing.
use mathlib.Core.Path.{◌≡◌, refl, sym, ap, ◌∙◌, subst}
use mathlib.Core.Bool.{Bool, true, cond}
use mathlib.Core.List.{List, [], ◌∷◌, ◌++◌}
use mathlib.Core.Logic.{⊎_elim}
use Prim.Native.Nat.{ℕ, ◌+◌, ◌*◌, ◌/◌, ◌%◌, ◌≤◌, ◌<◌}
use native.Mathlib.Numerals.{add-one}
use native.Mathlib.Omega.{arith}
use lib.ListN.{length, get_or}
use borrow.Author.Tests.{eq-eqb, ne_eqb}
use Rattle.store.specs.Find.{slot_at_entry}
use Rattle.index.proofs.Logic.{same_or_not, lt_or_ge}
use Rattle.store.specs.Mem.{Mem, mem, layout_of, slot_count, journal_words, journal_length, pool_place}
use Rattle.formed.specs.Pages.{journal_count, journal_place, journal_page}
use Rattle.formed.specs.Parts.{Note, tab, holds, journal, note_address, note_first, note_last, word_number, old_place}
use Rattle.formed.specs.WellFormed.{WellFormed, NotedRight}
use Rattle.formed.proofs.Facts.{Facts}
use Rattle.formed.proofs.Meaning.{facts_of, formed_by}
use Rattle.view.specs.View.{setting_of, view_of}
use Rattle.view.specs.Does.{Shows}
use Rattle.view.specs.Inner.{noting, NoteAsks}
use Rattle.bodies.specs.Words.{place_in, Spread}
use Rattle.bodies.proofs.WordBytes.{word_byte}
use Rattle.journal.specs.Words.{note_set, NoteRoom, NotedAt}
use Rattle.view.specs.Steps.{word_now}
use Rattle.journal.specs.Steps.{NoteSlots}
use Rattle.formed.proofs.Same.{tab_upto}
use Rattle.journal.proofs.Lists.{tab_snoc}
use Rattle.formed.proofs.Numbers.{number_lt, number_apart}
use Rattle.journal.proofs.NoteSets.{set_long, set_other, set_length, set_address, set_first, set_last}
use Rattle.journal.proofs.Kept.{JournalsAlone, note_in, note_same, same_setting, same_view, same_facts, journal_is, journal_same, noted_by}
use Rattle.journal.proofs.Shown.{journal_at, journal_none, journal_long}
use Rattle.journal.proofs.Places.{slot_there, slot_in, slot_key}

-- the slots that two searches find, e being the entry of the journal's page
pub note_slots : (bytes keys order words : List ℕ) (j a : ℕ) → NoteAsks (mem bytes keys order words) j a
    → (e : ℕ) → e ≡ journal_place j → (s t : ℕ)
    → s ≡ slot_at_entry keys words e (a / 256)
    → t ≡ slot_at_entry keys words e ((a + 31) / 256)
    → NoteSlots (mem bytes keys order words) j a s t
note_slots bytes keys order words j a asks e is s t first last =
    let m = mem bytes keys order words in
    let small = asks.address in
    record {
      first = slot_there m asks.formed j asks.which (a / 256) (omega arith) s (first ∙ ap (λ (x : ℕ). slot_at_entry keys words x (a / 256)) is);
      last = slot_there m asks.formed j asks.which ((a + 31) / 256) (omega arith) t (last ∙ ap (λ (x : ℕ). slot_at_entry keys words x ((a + 31) / 256)) is);
    }

module _ (bytes keys order words : List ℕ) (j a : ℕ) (asks : NoteAsks (mem bytes keys order words) j a)
    (s t : ℕ) (slots : NoteSlots (mem bytes keys order words) j a s t) where
  abbrev m : Mem
  m = mem bytes keys order words

  abbrev page : ℕ
  page = journal_page (layout_of words) j

  w : WellFormed m
  w = asks.formed

  first_held : holds m page (a / 256) ≡ true
  first_held = ap (holds m page) (let e : a / 256 ≡ (a + 0) / 256 = omega arith in e) ∙ asks.held 0 (omega arith)

  last_held : holds m page ((a + 31) / 256) ≡ true
  last_held = asks.held 31 (omega arith)

  ns : a / 256 ≤ 16777216
  ns = let h = asks.address in omega arith

  nt : (a + 31) / 256 ≤ 16777216
  nt = let h = asks.address in omega arith

  ls : s < slot_count words
  ls = slot_in m w j asks.which (a / 256) ns s slots.first first_held

  lt : t < slot_count words
  lt = slot_in m w j asks.which ((a + 31) / 256) nt t slots.last last_held

  room : journal_length words j < journal_words words
  room = let h = asks.room in let e = journal_long m j asks.which in omega arith

  -- what `note_at` asks
  pub note_room : NoteRoom bytes words j s t
  note_room = record {
    long = record { in_bytes = w.lengths.in_bytes; in_words = w.lengths.in_words; chunks_hi = w.lengths.chunks_hi; journal_hi = w.lengths.journal_hi };
    which = asks.which;
    room = room;
    first = ls;
    last = lt;
  }

  f : Facts m
  f = facts_of m w

  -- the number of the new note
  abbrev N : ℕ
  N = word_number words j (journal_length words j)

  abbrev words' : List ℕ
  words' = note_set words (12 + j) N a s t

  small : 12 + j < 16
  small = let h = asks.which in omega arith

  inside : 16 + 3 * N + 2 < length words
  inside = let h = w.lengths.in_words in let g = number_lt (journal_words words) j (journal_length words j) journal_count asks.which room in omega arith

  long : length words' ≡ length words
  long = set_long words (12 + j) N a s t small inside

  -- its three numbers lie before the pool
  before : 16 + 3 * N + 3 ≤ pool_place words
  before = let h = w.lengths.in_words in let g = number_lt (journal_words words) j (journal_length words j) journal_count asks.which room in omega arith

  alone : JournalsAlone words words'
  alone = record {
    head = λ i l. set_other words (12 + j) N a s t small inside i (λ e. omega arith) (λ e. omega arith) (λ e. omega arith) (λ e. omega arith);
    skip = set_other words (12 + j) N a s t small inside 15 (λ e. omega arith) (λ e. omega arith) (λ e. omega arith) (λ e. let h = asks.which in omega arith);
    pool = λ i l.
        let b = before in
        let h = small in
        set_other words (12 + j) N a s t small inside i (λ e. omega arith) (λ e. omega arith) (λ e. omega arith) (λ e. omega arith);
  }

  length_here : (k : ℕ) → k ≡ j → journal_length words' k ≡ journal_length words k + 1
  length_here k e = ap (λ (x : ℕ). get_or words' (12 + x) 0) e ∙ set_length words (12 + j) N a s t small inside ∙ ap (λ (x : ℕ). get_or words (12 + x) 0 + 1) (sym e)

  length_other : (k : ℕ) → k < journal_count → (k ≡ j → ⊥) → journal_length words' k ≡ journal_length words k
  length_other k l ne = set_other words (12 + j) N a s t small inside (12 + k) (λ e. omega arith) (λ e. omega arith) (λ e. omega arith) (λ e. ne (omega arith))

  -- another number than the new one
  kept_address : (u : ℕ) → (u ≡ N → ⊥) → get_or words' (16 + 3 * u) 0 ≡ get_or words (16 + 3 * u) 0
  kept_address u ne = set_other words (12 + j) N a s t small inside (16 + 3 * u) (λ e. ne (omega arith)) (λ e. omega arith) (λ e. omega arith) (λ e. let h = small in omega arith)

  kept_first : (u : ℕ) → (u ≡ N → ⊥) → get_or words' (16 + 3 * u + 1) 0 ≡ get_or words (16 + 3 * u + 1) 0
  kept_first u ne = set_other words (12 + j) N a s t small inside (16 + 3 * u + 1) (λ e. omega arith) (λ e. ne (omega arith)) (λ e. omega arith) (λ e. let h = small in omega arith)

  kept_last : (u : ℕ) → (u ≡ N → ⊥) → get_or words' (16 + 3 * u + 2) 0 ≡ get_or words (16 + 3 * u + 2) 0
  kept_last u ne = set_other words (12 + j) N a s t small inside (16 + 3 * u + 2) (λ e. omega arith) (λ e. omega arith) (λ e. ne (omega arith)) (λ e. let h = small in omega arith)

  -- an older word, or one of another journal
  old_number : (k i : ℕ) → k < journal_count → i < journal_length words k → word_number words k i ≡ N → ⊥
  old_number k i l li e =
      let c = f.in_capacity k l in
      let r = room in
      let q = number_apart (journal_words words) k j i (journal_length words j) (omega arith) r e in
      let g : journal_length words k ≡ journal_length words j = ap (λ (x : ℕ). get_or words (12 + x) 0) q.0 in
      let h = q.1 in
      omega arith

  module _ (bytes' : List ℕ) (lb : length bytes' ≡ length bytes)
      (old : Spread (λ k. old_place words j (journal_length words j) + k) (λ k. get_or bytes (place_in s t (a % 256) k) 0) 32 bytes bytes') where
    abbrev m' : Mem
    m' = mem bytes' keys order words'

    body : (b : ℕ) → b < 256 * slot_count words → get_or bytes' b 0 ≡ get_or bytes b 0
    body b l = old.off b (λ i li e. omega arith)

    cap : (k : ℕ) → k < journal_count → journal_length words' k ≤ journal_words words
    cap k l =
        let c = f.in_capacity k l in
        let r = room in
        ⊎_elim
        (λ (e : k ≡ j). let h = length_here k e in let g : journal_length words k ≡ journal_length words j = ap (λ (x : ℕ). get_or words (12 + x) 0) e in omega arith)
        (λ (ne : k ≡ j → ⊥). let h = length_other k l ne in omega arith)
        (same_or_not k j)

    kept_right : (k i : ℕ) → k < journal_count → i < journal_length words k → NotedRight m' k i
    kept_right k i l li =
        let h = f.notes k i l li in
        noted_by bytes keys order words bytes' words' f lb long alone body k i (note_address m k i) (note_first m k i) (note_last m k i)
        (kept_address (word_number words k i) (old_number k i l li)) (kept_first (word_number words k i) (old_number k i l li)) (kept_last (word_number words k i) (old_number k i l li)) h.address h.first h.last

    new_right : NotedRight m' j (journal_length words j)
    new_right =
        noted_by bytes keys order words bytes' words' f lb long alone body j (journal_length words j) a s t
        (set_address words (12 + j) N a s t small inside) (set_first words (12 + j) N a s t small inside) (set_last words (12 + j) N a s t small inside) asks.address
        (slot_key m w j asks.which (a / 256) ns s slots.first first_held) (slot_key m w j asks.which ((a + 31) / 256) nt t slots.last last_held)

    notes : (k i : ℕ) → k < journal_count → i < journal_length words' k → NotedRight m' k i
    notes k i l li =
        ⊎_elim
        (λ (lo : i < journal_length words k). kept_right k i l lo)
        (λ (hi : journal_length words k ≤ i).
        ⊎_elim
        (λ (e : k ≡ j).
        let h = length_here k e in
        let q : i ≡ journal_length words k = omega arith in
        subst (λ (x : ℕ). NotedRight m' k x) (sym (q ∙ ap (λ (x : ℕ). get_or words (12 + x) 0) e)) (subst (λ (x : ℕ). NotedRight m' x (journal_length words j)) (sym e) new_right))
        (λ (ne : k ≡ j → ⊥). let h = length_other k l ne in absurd (omega arith))
        (same_or_not k j))
        (lt_or_ge i (journal_length words k))

    kept_byte : (u k : ℕ) → (u ≡ N → ⊥) → k < 32 → get_or bytes' (256 * slot_count words + 32 * u + k) 0 ≡ get_or bytes (256 * slot_count words + 32 * u + k) 0
    kept_byte u k ne l = old.off (256 * slot_count words + 32 * u + k) (λ i li e. ne (omega arith))

    kept_note : (k i : ℕ) → k < journal_count → i < journal_length words k → note_in bytes' words' (slot_count words) (journal_words words) k i ≡ note_in bytes words (slot_count words) (journal_words words) k i
    kept_note k i l li = note_same _ _ _ _ (kept_address (word_number words k i) (old_number k i l li)) (λ x lx. kept_byte (word_number words k i) x (old_number k i l li) lx)

    abbrev newest : Note
    newest = word_now (view_of m) page a

    new_note : note_in bytes' words' (slot_count words) (journal_words words) j (journal_length words j) ≡ newest
    new_note =
        note_same _ _ _ _ (set_address words (12 + j) N a s t small inside)
        (λ k l. old.on k l ∙ word_byte m page a s t ls lt slots.first slots.last k l)

    journal_more : (k : ℕ) → k < journal_count → k ≡ j → journal m' k ≡ journal m k ++ (newest ∷ [])
    unfolding journal
    journal_more k l e =
        journal_is bytes keys order words bytes' words' f lb long alone body k
        ∙ ap (λ (x : ℕ). tab x (note_in bytes' words' (slot_count words) (journal_words words) k)) (length_here k e ∙ add-one (journal_length words k))
        ∙ tab_snoc (journal_length words k) (note_in bytes' words' (slot_count words) (journal_words words) k)
        ∙ ap (λ (x : List Note). x ++ (note_in bytes' words' (slot_count words) (journal_words words) k (journal_length words k) ∷ []))
        (tab_upto (journal_length words k) (note_in bytes' words' (slot_count words) (journal_words words) k) (note_in bytes words (slot_count words) (journal_words words) k) (λ i li. kept_note k i l li))
        ∙ ap (λ (x : ℕ). tab (journal_length words k) (note_in bytes words (slot_count words) (journal_words words) k) ++ (note_in bytes' words' (slot_count words) (journal_words words) x (journal_length words x) ∷ [])) e
        ∙ ap (λ (x : Note). tab (journal_length words k) (note_in bytes words (slot_count words) (journal_words words) k) ++ (x ∷ [])) new_note

    view_noted : (k : ℕ) → (view_of m').journal k ≡ (noting j (newest ∷ []) (view_of m)).journal k
    view_noted k =
        ⊎_elim
        (λ (l : k < journal_count).
        ⊎_elim
        (λ (e : k ≡ j). journal_at m' k l ∙ journal_more k l e ∙ ap (λ (x : List Note). x ++ (newest ∷ [])) (sym (journal_at m k l)) ∙ sym (ap (λ (b : Bool). cond b ((view_of m).journal k ++ (newest ∷ [])) ((view_of m).journal k)) (eq-eqb k j e)))
        (λ (ne : k ≡ j → ⊥).
        journal_at m' k l
        ∙ journal_same bytes keys order words bytes' words' f lb long alone body k (length_other k l ne) (λ i li. kept_note k i l li)
        ∙ sym (journal_at m k l)
        ∙ sym (ap (λ (b : Bool). cond b ((view_of m).journal k ++ (newest ∷ [])) ((view_of m).journal k)) (ne_eqb k j ne)))
        (same_or_not k j))
        (λ (l : journal_count ≤ k).
        journal_none m' k l ∙ sym (journal_none m k l) ∙ sym (ap (λ (b : Bool). cond b ((view_of m).journal k ++ (newest ∷ [])) ((view_of m).journal k)) (ne_eqb k j (λ e. let h = asks.which in omega arith))))
        (lt_or_ge k journal_count)

    noted_shows : Shows (setting_of m) (noting j (newest ∷ []) (view_of m)) m'
    noted_shows = record {
      formed = formed_by m' (same_facts bytes keys order words bytes' words' f lb long alone body cap notes);
      setting = same_setting bytes keys order words bytes' words' f lb long alone body;
      view = same_view bytes keys order words bytes' words' f lb long alone body (noting j (newest ∷ []) (view_of m)) (λ p x. refl) (λ p k. refl) refl (λ p. refl) refl refl view_noted;
    }

  -- what `note` leaves
  pub note_shows : (bytes' words'' : List ℕ) → length bytes' ≡ length bytes → NotedAt bytes words j a s t bytes' words''
      → Shows (setting_of m) (noting j (word_now (view_of m) page a ∷ []) (view_of m)) (mem bytes' keys order words'')
  note_shows bytes' words'' lb d =
      subst (λ (x : List ℕ). Shows (setting_of m) (noting j (word_now (view_of m) page a ∷ []) (view_of m)) (mem bytes' keys order x)) (sym d.words_are) (noted_shows bytes' lb d.old)
