-- A word whose chunks are held already: nothing is left to do before it is journalled and put, and of its refusals only 11 is left.
-- Assumes nothing.
use mathlib.Core.Path.{◌≡◌, refl, sym, ap, ◌∙◌, subst}
use mathlib.Core.Bool.{Bool, true, false, not, ◌&&◌, ◌||◌, false≢true}
use mathlib.Core.List.{List, [], ◌∷◌}
use mathlib.Core.Logic.{⊎_elim}
use Prim.Native.Nat.{ℕ, zero, suc, ◌+◌, ◌-◌, ◌/◌, ◌≤◌, ◌<◌}
use native.Mathlib.Omega.{arith}
use lib.Dec.{leb, ltb, eqb}
use lib.ListN.{length}
use borrow.Author.Tests.{le-leb, lt-leb, lt-ltb, le-ltb, eq-eqb, ne_eqb}
use Rattle.std.specs.Prelude.{Option, Some, None, is_some, Result, ⊤}
use Rattle.outcome.specs.declared.Refusal.{Refusal}
use Rattle.outcome.specs.Outcome.{Outcome, refused, answered, answer_outcome}
use Rattle.word.specs.Value.{word_bytes}
use Rattle.word.proofs.Digits.{digits_long}
use Rattle.page_ids.specs.Decode.{Page, none, page, decoded, is_none, is_fixed, is_dynamic}
use Rattle.store.specs.Keys.{key_entry}
use Rattle.index.proofs.Logic.{same_or_not, lt_or_ge}
use Rattle.index.proofs.Places.{seek_upto}
use Rattle.store.specs.Mem.{Mem, layout_of, slot_count, page_count, entries}
use Rattle.store.specs.Find.{slot_for}
use Rattle.formed.specs.Pages.{fixed, dynamic, journal_count}
use Rattle.formed.specs.Parts.{entry_of, holds}
use Rattle.formed.specs.WellFormed.{HeldAt, WellFormed, ListedPage, holder}
use Rattle.formed.proofs.Sizes.{entries_long}
use Rattle.formed.proofs.Keys.{in_table}
use Rattle.formed.proofs.Hints.{slot_found}
use Rattle.formed.proofs.Sense.{held_holds, in_table_allocated}
use Rattle.view.specs.View.{View, setting_of, view_of}
use Rattle.view.specs.Steps.{touched_count, missing, word_notes}
use Rattle.view.specs.Checks.{undecodable, overfull, capacity_checks_at, word_write_checks}
use Rattle.view.specs.Calls.{Value, WriteWord, nothing, next_of, first_refusal, CallDoes}
use Rattle.view.specs.Does.{Shows}
use Rattle.view.specs.Inner.{listing, holding}
use Rattle.view.proofs.Compose.{listed_held}
use Rattle.view.proofs.Equal.{view_by}
use Rattle.view.proofs.Refused.{next, first_holds, first_fails, refused_does, done_does}
use Rattle.checks.proofs.Numbers.{room_rest}
use Rattle.checks.proofs.Passed.{decodable, room_refusals}
use Rattle.pages.proofs.Listing.{listed_already}
use Rattle.bodies.proofs.Pieces.{held_here}
use Rattle.bodies.proofs.Puts.{shows_view}
use Rattle.word_steps.specs.Asks.{WordFound, WordAsks, word_put, WrittenOrLeft}
use Rattle.word_steps.proofs.Chains.{Cleared, word_cleared, word_notes_same, write_done}

-- chunks that are held already
module _ (p k n : ℕ) (v : View) (all : (i : ℕ) → k ≤ i → i < k + n → v.held p i ≡ true) where
  none_missing : (j : ℕ) → j ≤ n → missing (v.held p) k j ≡ 0
  unfolding missing
  none_missing zero l = refl
  none_missing (suc j) l = rw (none_missing j (omega arith), all (k + j) (omega arith) (omega arith)) refl

  held_same : (q j : ℕ) → v.held q j ≡ ((eqb q p && (leb k j && ltb j (k + n))) || v.held q j)
  held_same q j =
      ⊎_elim
      (λ (e : q ≡ p).
      ⊎_elim
      (λ (l : j < k). rw (eq-eqb q p e, lt-leb k j l) refl)
      (λ (l : k ≤ j).
      ⊎_elim
      (λ (h : j < k + n). rw (eq-eqb q p e, le-leb k j l, lt-ltb j (k + n) h) (ap (λ (x : ℕ). v.held x j) e ∙ all j l h))
      (λ (h : k + n ≤ j). rw (eq-eqb q p e, le-leb k j l, le-ltb j (k + n) h) refl)
      (lt_or_ge j (k + n)))
      (lt_or_ge j k))
      (λ (ne : q ≡ p → ⊥). rw (ne_eqb q p ne) refl)
      (same_or_not q p)

  pub holding_same : v ≡ holding p k n v
  holding_same =
      let z = none_missing n (omega arith) in
      view_by v (holding p k n v) (λ q b. refl) held_same (let e : v.pool ≡ v.pool - missing (v.held p) k n = omega arith in e) (λ q. refl) refl refl (λ j. refl)

-- a page that holds a chunk has an entry
entry_there : (m : Mem) → WellFormed m → (s p k : ℕ) → HeldAt m s p k → entry_of m p < page_count m.words + 4
entry_there m f s p k h =
    let q = h.page in
    let i = in_table (entries m) (key_entry (holder m s)) (omega arith) in
    let u = seek_upto (entries m) (p + 1) (key_entry (holder m s)) i q in
    let l = entries_long m f.lengths in
    omega arith

-- and is decodable
not_none_fixed : (d : Page) → is_fixed d ≡ true → is_none d ≡ false
not_none_fixed none e = absurd (false≢true e)
not_none_fixed (page k g) e = refl

not_none_dynamic : (d : Page) → is_dynamic d ≡ true → is_none d ≡ false
not_none_dynamic none e = absurd (false≢true e)
not_none_dynamic (page k g) e = refl

-- what a lookup finds are the slots of the first and the last chunk
pub slots_found : (m : Mem) → WellFormed m → (p a : ℕ) → a ≤ 4294967295 → (s t : ℕ) → s < slot_count m.words → t < slot_count m.words
    → s ≡ slot_for m.keys m.words p (a / 256) → t ≡ slot_for m.keys m.words p ((a + 31) / 256) → WordFound m p a s t
slots_found m f p a small s t ls lt first last = record {
  formed = f;
  first = sym (first ∙ slot_found m f p (a / 256) (omega arith));
  last = sym (last ∙ slot_found m f p ((a + 31) / 256) (omega arith));
  first_in = ls;
  last_in = lt;
}

-- the slots s and t hold the first and the last chunk of the word at address a of page p
module _ (m : Mem) (p a s t : ℕ) (w : WordFound m p a s t) (page : p ≤ 4294967295) (small : a ≤ 4294967295) where
  f : WellFormed m
  f = w.formed

  abbrev checks : List (Bool × Outcome Value)
  checks = word_write_checks (setting_of m) (view_of m) p a

  abbrev full : Bool
  full = overfull (setting_of m) (view_of m) p 1 journal_count

  at_first : HeldAt m s p (a / 256)
  at_first = held_here m f s p (a / 256) w.first w.first_in

  at_last : HeldAt m t p ((a + 31) / 256)
  at_last = held_here m f t p ((a + 31) / 256) w.last w.last_in

  each : (i : ℕ) → a / 256 ≤ i → i < a / 256 + touched_count a 32 → holds m p i ≡ true
  each i lo hi =
      ⊎_elim
      (λ (e : i ≡ a / 256). ap (holds m p) e ∙ held_holds m f s p (a / 256) at_first)
      (λ (n : i ≡ a / 256 → ⊥). let e : i ≡ (a + 31) / 256 = omega arith in ap (holds m p) e ∙ held_holds m f t p ((a + 31) / 256) at_last)
      (same_or_not i (a / 256))

  -- ---- its refusals: not 4, 9 or 10
  known : undecodable (setting_of m) p ≡ false
  unfolding undecodable fixed dynamic
  known =
      ⊎_elim
      (λ (e : fixed (layout_of m.words) p ≡ true). not_none_fixed (decoded (layout_of m.words) p) e)
      (λ (e : ListedPage m p). not_none_dynamic (decoded (layout_of m.words) p) (f.pages_dynamic e.entry p e.there))
      (f.holders_known s p (a / 256) at_first)

  no_entry : (not ((view_of m).allocated p) && eqb (view_of m).entries_left 0) ≡ false
  no_entry = rw (in_table_allocated m f _ p at_first.page) refl

  few : ltb (view_of m).pool (missing ((view_of m).held p) (a / 256) (touched_count a 32)) ≡ false
  few =
      let z = none_missing p (a / 256) (touched_count a 32) (view_of m) each (touched_count a 32) (omega arith) in
      le-ltb (view_of m).pool (missing ((view_of m).held p) (a / 256) (touched_count a 32)) (omega arith)

  -- THE LAW: of 4, 9, 10 and 11 only 11 is left
  pub found_number : first_refusal ((full, refused 11) ∷ []) ≡ first_refusal checks
  found_number =
      room_rest (setting_of m) (view_of m) p (a / 256) (touched_count a 32) 1 no_entry few
      ∙ first_fails (undecodable (setting_of m) p) (refused 4) (capacity_checks_at (setting_of m) (view_of m) p a 32 1) known

  pub found_refused : full ≡ true → (n : ℕ) → CallDoes m (WriteWord p a n) (answered 11 nothing) m
  found_refused e n = refused_does m f checks (setting_of m) (next_of (setting_of m) (WriteWord p a n) (view_of m)) 11 (first_holds full 11 [] e ∙ found_number) (λ z. omega arith)

  -- ---- it is written
  module _ (spare : full ≡ false) where
    pub found_free : first_refusal checks ≡ 0
    found_free = sym found_number ∙ sym (first_fails full (refused 11) [] spare)

    cleared : (n : ℕ) → n ≡ 32 → Cleared m p a n 1 (touched_count a 32)
    cleared n e = word_cleared m p a (touched_count a 32) page small (f, found_free) refl n e

    ready : Shows (setting_of m) (holding p (a / 256) (touched_count a 32) (listing m p)) m
    ready =
        shows_view
        (listed_already m p record { formed = f; page = page; decodable = decodable (setting_of m) p known; entry = (cleared 32 refl).room.entry } (entry_there m f s p (a / 256) at_first))
        (holding_same p (a / 256) (touched_count a 32) (listing m p) (λ i lo hi. listed_held (layout_of m.words) p (view_of m) p i ∙ each i lo hi))

    pub found_asks : WordAsks m p a s t
    found_asks = record { found = w; room = (cleared 32 refl).room.words }

    pub found_does : (n : ℕ) (m' : Mem) → Shows (setting_of m) (word_put (layout_of m.words) p a (word_bytes n) (view_of m)) m' → CallDoes m (WriteWord p a n) (answered 0 nothing) m'
    found_does n m' put =
        done_does m f checks (setting_of m) (next_of (setting_of m) (WriteWord p a n) (view_of m)) (next (room_refusals (setting_of m) (view_of m) p a 32 1)) found_free
        (write_done m p a (word_bytes n) 1 (touched_count a 32) (cleared (length (word_bytes n)) (digits_long 32 n)) m ready (λ (v : View). word_notes v p a) (λ v w. word_notes_same v w p a) m' put)

-- ---- a write that hints may know
module _ (m : Mem) (p a n : ℕ) where
  pub known_left : WrittenOrLeft m p a n None m
  known_left = record { left = λ e. refl; written = λ x e. absurd (false≢true (ap is_some e)) }

  -- a write that was refused or carried out
  pub known_done : (r : Result ⊤ Refusal) (m' : Mem) → CallDoes m (WriteWord p a n) (answer_outcome nothing r) m' → WrittenOrLeft m p a n (Some r) m'
  known_done r m' d = record {
    left = λ e. absurd (false≢true (sym (ap is_some e)));
    written = λ x e. subst (λ (y : Result ⊤ Refusal). CallDoes m (WriteWord p a n) (answer_outcome nothing y) m') (ap (inside r) e) d;
  }
    where
      inside : Result ⊤ Refusal → Option (Result ⊤ Refusal) → Result ⊤ Refusal
      inside d None = d
      inside d (Some x) = x
