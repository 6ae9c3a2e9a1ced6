-- The plain map shows what the contracts say: the view of the map after a call is the call's view of the map before it.
-- Assumes nothing.
use mathlib.Core.Path.{◌≡◌, refl, sym, ap, ◌∙◌}
use mathlib.Core.Logic.{⊎_elim}
use mathlib.Core.List.{List, [], ◌++◌}
use mathlib.Core.Bool.{Bool, true, false, not, ◌&&◌, ◌||◌, and-false, or-true, or-false, true≢false, false≢true}
use Prim.Native.Nat.{ℕ, zero, suc, ◌-◌, ◌/◌, ◌≤◌, ◌<◌, zero-le}
use native.Mathlib.Omega.{arith}
use lib.Dec.{eqb}
use lib.ListN.{length}
use borrow.Author.Tests.{lt-ltb, le-ltb, le-leb, lt-leb, eq-eqb, ne_eqb, ltb-false, eqb-false}
use Rattle.index.proofs.Logic.{same_or_not, lt_or_ge}
use Rattle.outcome.specs.Outcome.{carried_out}
use Rattle.word.specs.Value.{word_bytes}
use Rattle.word.proofs.Digits.{digits_long}
use Rattle.registers.specs.declared.StorePlaces.{StorePlaces}
use Rattle.registers.specs.Registers.{Registers, register_number, source_of, value_of, store_takes}
use Rattle.page_ids.specs.declared.Layout.{Layout}
use Rattle.state.specs.declared.Frame.{Frame}
use Rattle.state.specs.declared.Area.{Area}
use Rattle.page_ids.specs.Decode.{Page, none, page, decoded, is_none, is_dynamic, is_fixed}
use Rattle.formed.specs.Pages.{fixed_id, fixed, dynamic}
use Rattle.formed.specs.Parts.{Note}
use Rattle.view.specs.View.{View, Setting}
use Rattle.view.specs.Steps.{touched_count, needs, written, count, pairs, without, shortened, opened, empty_view, from_group}
use Rattle.view.specs.Checks.{Check, undecodable, word_write_checks, byte_write_checks, allocate_checks, free_checks}
use Rattle.view.specs.Instructions.{Hook, heap_of, static_of, hook_checks, store_checks, stored, static_store_checks, static_stored, place_checks, stored_into, panicked_into}
use Rattle.view.specs.Calls.{Call, Open, Allocate, ReadWord, ReadPartial, ReadRange, ReadByte, DynamicLength, WriteWord, WriteBytes, Lookup, LookupCheck, Free, Window, Truncate, CompareLeft, CompareRight, CompareBoth, Snapshot, Rollback, DeleteHistory, Load, Store, LoadPointer, LoadStatic, StoreStatic, Value, nothing, executed, outcome_of, next_of}
use Rattle.view.proofs.Counts.{fixed_only}
use Rattle.plain.specs.Plain.{Plain, has, member, put, put_word, plain_without, follow, fresh_plain, seen}
use Rattle.plain.proofs.Tests.{Clear, clear}
use Rattle.plain.proofs.Held.{has_hold, length_hold, missing_le, has_list, length_list, list_fits}
use Rattle.plain.proofs.Others.{length_others, has_others, allocated_others, pairs_left, listed_dynamic, pages_left}

-- ---- pages
-- a decodable page is fixed or dynamic, and not both
one_kind : (d : Page) → is_none d ≡ false → is_dynamic d ≡ not (is_fixed d)
one_kind none e = absurd (true≢false e)
one_kind (page kind group) e =
    ⊎_elim (λ (l : kind < 3). rw (lt-ltb kind 3 l, lt-leb 3 kind l)) (λ (g : 3 ≤ kind). rw (le-ltb kind 3 g, le-leb 3 kind g)) (lt_or_ge kind 3)

decodable : (s : Setting) (p : ℕ) → undecodable s p ≡ false → dynamic s.layout p ≡ not (fixed s.layout p)
unfolding undecodable dynamic fixed
decodable s p e = one_kind (decoded s.layout p) e

-- the fixed pages are fixed
fixed_named : (l : Layout) (p : ℕ) (a b c d : Bool) → eqb p (fixed_id l 0) ≡ a → eqb p (fixed_id l 1) ≡ b → eqb p (fixed_id l 2) ≡ c → eqb p (fixed_id l 3) ≡ d
    → (a || b || c || d) ≡ true → fixed l p ≡ true
unfolding fixed
fixed_named l p true b c d w x y z e = rw w
fixed_named l p false true c d w x y z e = rw (w, x)
fixed_named l p false false true d w x y z e = rw (w, x, y)
fixed_named l p false false false true w x y z e = rw (w, x, y, z)
fixed_named l p false false false false w x y z e = absurd (false≢true e)

pub fixed_id_lem : (l : Layout) (i : ℕ) → i < 4 → fixed l (fixed_id l i) ≡ true
fixed_id_lem l i h = fixed_named l (fixed_id l i) _ _ _ _ refl refl refl refl (one i h)
  where
    one : (i : ℕ) → i < 4 → (eqb (fixed_id l i) (fixed_id l 0) || eqb (fixed_id l i) (fixed_id l 1) || eqb (fixed_id l i) (fixed_id l 2) || eqb (fixed_id l i) (fixed_id l 3)) ≡ true
    one zero h = rw (eq-eqb (fixed_id l 0) (fixed_id l 0) refl)
    one (suc zero) h = simp (eq-eqb (fixed_id l 1) (fixed_id l 1) refl, or-true)
    one (suc (suc zero)) h = simp (eq-eqb (fixed_id l 2) (fixed_id l 2) refl, or-true)
    one (suc (suc (suc zero))) h = simp (eq-eqb (fixed_id l 3) (fixed_id l 3) refl, or-true)
    one (suc (suc (suc (suc i)))) h = absurd (omega arith)

-- and so decodable
not_none : (d : Page) → is_fixed d ≡ true → is_none d ≡ false
not_none none e = absurd (false≢true e)
not_none (page kind group) e = refl

fixed_known : (s : Setting) (p : ℕ) → fixed s.layout p ≡ true → undecodable s p ≡ false
unfolding undecodable fixed
fixed_known s p e = not_none (decoded s.layout p) e

-- ---- no more chunks are held and no more pages listed than there is room for
pub record Fits (s : Setting) (m : Plain) : Type 0 where
  pub chunks : length m.held ≤ s.chunks
  pub pages : length m.pages ≤ s.pages

-- ---- a write
module _ (s : Setting) (p a : ℕ) (bs : List ℕ) (notes : List Note) (m : Plain) where
  seen_put : undecodable s p ≡ false → seen s (put s.layout p a bs notes m) ≡ written s.layout p a bs notes (seen s m)
  seen_put e =
      let k = decodable s p e in
      let h = length_hold p (a / 256) (touched_count a (length bs)) m.held in
      let pool : s.chunks - length (put s.layout p a bs notes m).held ≡ s.chunks - length m.held - needs (seen s m) p a (length bs) = omega arith in
      λ i. record {
        bytes = (put s.layout p a bs notes m).bytes;
        held = λ q j. has_hold p (a / 256) (touched_count a (length bs)) m.held q j i;
        pool = pool i;
        allocated = λ q. has_list s.layout p m.pages k q i;
        entries_left = length_list s.layout p m.pages k s.pages i;
        dynamic_length = (put s.layout p a bs notes m).dynamic_length;
        journal = (put s.layout p a bs notes m).journal;
      }

  -- its checks keep it within the room
  fits_put : Fits s m → undecodable s p ≡ false → needs (seen s m) p a (length bs) ≤ (seen s m).pool
      → ((seen s m).allocated p ≡ false → 0 < (seen s m).entries_left) → Fits s (put s.layout p a bs notes m)
  fits_put f e r n = record {
    chunks = let h = length_hold p (a / 256) (touched_count a (length bs)) m.held in let c = f.chunks in omega arith;
    pages = list_fits s.layout p m.pages (decodable s p e) s.pages f.pages n;
  }

-- ---- a drop
-- the map's pairs and its pages are as many as those that they stand for
pub record Counted (s : Setting) (m : Plain) : Type 0 where
  pub chunks : pairs (has m.held) ≡ length m.held
  pub pages : count (listed_dynamic s.layout m.pages) 4294967296 ≡ length m.pages

module _ (s : Setting) (m : Plain) (d : ℕ → ℕ → Bool) (u : ℕ → Bool) (n : ℕ) where
  -- one that names no fixed page
  seen_drop : Counted s m → ((q : ℕ) → fixed s.layout q ≡ true → u q ≡ false) → seen s (plain_without d u n m) ≡ shortened n (without s d u (seen s m))
  seen_drop c loose = λ i. record {
    bytes = (plain_without d u n m).bytes;
    held = λ q k. has_others d m.held q k i;
    pool = s.chunks - pairs_left d m.held c.chunks i;
    allocated = λ q. allocated_others s.layout u m.pages q (loose q) i;
    entries_left = s.pages - pages_left s.layout u m.pages 4294967296 c.pages i;
    dynamic_length = n;
    journal = m.journal;
  }

  fits_drop : Fits s m → Fits s (plain_without d u n m)
  fits_drop f = record {
    chunks = let h = length_others (λ pair. d pair.0 pair.1) m.held in let c = f.chunks in omega arith;
    pages = let h = length_others u m.pages in let c = f.pages in omega arith;
  }

-- ---- what the checks of a call that is carried out say
record Written (s : Setting) (v : View) (p a n : ℕ) : Type 0 where
  known : undecodable s p ≡ false
  room : needs v p a n ≤ v.pool
  entry : v.allocated p ≡ false → 0 < v.entries_left

entry_left : (a : Bool) (n : ℕ) → (not a && eqb n 0) ≡ false → a ≡ false → 0 < n
entry_left true n e z = absurd (true≢false z)
entry_left false n e z = let ne = eqb-false n 0 e in omega (arith, ne)

module _ (s : Setting) (v : View) (p : ℕ) where
  word_passed : (a n : ℕ) → carried_out (outcome_of s (WriteWord p a n) v) ≡ true → Written s v p a 32
  word_passed a n e =
      let c = clear (word_write_checks s v p a) nothing e in
      record { known = c.0; room = ltb-false v.pool (needs v p a 32) c.1.1.0; entry = entry_left (v.allocated p) v.entries_left c.1.0 }

  bytes_passed : (a : ℕ) (bs : List ℕ) → carried_out (outcome_of s (WriteBytes p a bs) v) ≡ true → Written s v p a (length bs)
  bytes_passed a bs e =
      let c = clear (byte_write_checks s v p a (length bs)) nothing e in
      record { known = c.0; room = ltb-false v.pool (needs v p a (length bs)) c.1.1.1.0; entry = entry_left (v.allocated p) v.entries_left c.1.1.0 }

  allocate_passed : (bs : List ℕ) → carried_out (outcome_of s (Allocate p bs) v) ≡ true → Written s v p 0 (length bs)
  allocate_passed bs e =
      let c = clear (allocate_checks s v p (length bs)) nothing e in
      record { known = c.0; room = ltb-false v.pool (needs v p 0 (length bs)) c.1.1.1.1.0; entry = entry_left (v.allocated p) v.entries_left c.1.1.1.0 }

  pub allocate_dynamic : (bs : List ℕ) → carried_out (outcome_of s (Allocate p bs) v) ≡ true → fixed s.layout p ≡ false
  allocate_dynamic bs e = (clear (allocate_checks s v p (length bs)) nothing e).1.0

  -- a fixed page is not freed
  pub free_loose : carried_out (outcome_of s (Free p) v) ≡ true → (q : ℕ) → fixed s.layout q ≡ true → eqb q p ≡ false
  free_loose e q f = ne_eqb q p (λ z. true≢false (sym f ∙ ap (fixed s.layout) z ∙ (clear (free_checks s v p) nothing e).1.0))

-- a store that is carried out has passed the checks of a word write
module _ (s : Setting) (v : View) where
  write_clear : (p a : ℕ) (rest : List (Check Value)) → Clear (word_write_checks s v p a ++ rest) → Written s v p a 32
  write_clear p a rest c = record { known = c.0; room = ltb-false v.pool (needs v p a 32) c.1.1.0; entry = entry_left (v.allocated p) v.entries_left c.1.0 }

  -- two checks come before those: of the places, and of the access or the address
  store_passed : (area : Area) (f : Frame) (g : Registers) (p : StorePlaces) (kernel : Bool) (h : Hook) → carried_out (outcome_of s (Store area f g p kernel h) v) ≡ true
      → Written s v (heap_of f area) (source_of g p.source).word 32
  store_passed area f g p kernel h e =
      let x = source_of g p.source in
      let n = value_of kernel g (register_number p.value) in
      let c =
      clear (place_checks (store_takes p) ++ store_checks (λ r. executed (panicked_into g p.dst1 r)) s v area f x.word n h) (executed (stored_into g p (stored area f x n h))) e in
      write_clear (heap_of f area) x.word (hook_checks h x.word n) c.1.1

  static_passed : (f : Frame) (g : Registers) (p : StorePlaces) (kernel : Bool) → carried_out (outcome_of s (StoreStatic f g p kernel) v) ≡ true
      → Written s v (static_of s.layout) (source_of g p.source).word 32
  static_passed f g p kernel e =
      let x = source_of g p.source in
      let c =
      clear (place_checks (store_takes p) ++ static_store_checks (λ r. executed (panicked_into g p.dst1 r)) s v f x.word) (executed (stored_into g p (static_stored f x))) e in
      write_clear (static_of s.layout) x.word [] c.1.1

-- a window and a truncation name dynamic pages alone
pub window_loose : (l : Layout) (p q : ℕ) (b : Bool) → fixed l q ≡ true → ((eqb q p && dynamic l p) && b) ≡ false
window_loose l p q b f =
    ⊎_elim
    (λ (e : q ≡ p). rw (ap (dynamic l) (sym e) ∙ fixed_only l q f, and-false (eqb q p)))
    (λ (n : q ≡ p → ⊥). rw (ne_eqb q p n))
    (same_or_not q p)

pub truncate_loose : (l : Layout) (n q : ℕ) → fixed l q ≡ true → from_group l n q ≡ false
truncate_loose l n q f = rw (fixed_only l q f)

-- ---- each call
module _ (s : Setting) (m : Plain) where
  pub seen_follow : (c : Call) → carried_out (outcome_of s c (seen s m)) ≡ true → Counted s m → seen s (follow s.layout c m) ≡ next_of s c (seen s m)
  seen_follow (Open t calldata) e k = refl
  seen_follow (Allocate p bs) e k = seen_put s p 0 bs _ m (allocate_passed s (seen s m) p bs e).known
  seen_follow (ReadWord p a) e k = refl
  seen_follow (ReadPartial p x y) e k = refl
  seen_follow (ReadRange p x y n) e k = refl
  seen_follow (ReadByte p a) e k = refl
  seen_follow DynamicLength e k = refl
  seen_follow (WriteWord p a n) e k = seen_put s p a (word_bytes n) _ m (word_passed s (seen s m) p a n e).known
  seen_follow (WriteBytes p a bs) e k = seen_put s p a bs _ m (bytes_passed s (seen s m) p a bs e).known
  seen_follow (Lookup p j z) e k = refl
  seen_follow (LookupCheck p j z) e k = refl
  seen_follow (Free p) e k = seen_drop s m _ (λ q. eqb q p) m.dynamic_length k (free_loose s (seen s m) p e)
  seen_follow (Window p start n) e k = seen_drop s m _ (λ q. false) m.dynamic_length k (λ q f. refl)
  seen_follow (Truncate n) e k = seen_drop s m _ (from_group s.layout n) n k (truncate_loose s.layout n)
  seen_follow (CompareLeft other) e k = refl
  seen_follow (CompareRight other) e k = refl
  seen_follow CompareBoth e k = refl
  seen_follow Snapshot e k = refl
  seen_follow (Rollback heap aux) e k = refl
  seen_follow DeleteHistory e k = refl
  seen_follow (Load area f g p) e k = refl
  seen_follow (Store area f g p kernel h) e k =
      seen_put s (heap_of f area) (source_of g p.source).word (word_bytes (value_of kernel g (register_number p.value))) _ m
      (store_passed s (seen s m) area f g p kernel h e).known
  seen_follow (LoadPointer f g p) e k = refl
  seen_follow (LoadStatic f g p) e k = refl
  seen_follow (StoreStatic f g p kernel) e k =
      seen_put s (static_of s.layout) (source_of g p.source).word (word_bytes (value_of kernel g (register_number p.value))) _ m
      (static_passed s (seen s m) f g p kernel e).known

  fits_word : (p a n : ℕ) → Written s (seen s m) p a 32 → Fits s m → Fits s (put_word s.layout p a n m)
  fits_word p a n w f = fits_put s p a (word_bytes n) _ m f w.known (rw (digits_long 32 n) w.room) w.entry

  pub fits_follow : (c : Call) → carried_out (outcome_of s c (seen s m)) ≡ true → Fits s m → Fits s (follow s.layout c m)
  fits_follow (Open t calldata) e f = f
  fits_follow (Allocate p bs) e f = let w = allocate_passed s (seen s m) p bs e in fits_put s p 0 bs [] m f w.known w.room w.entry
  fits_follow (ReadWord p a) e f = f
  fits_follow (ReadPartial p x y) e f = f
  fits_follow (ReadRange p x y n) e f = f
  fits_follow (ReadByte p a) e f = f
  fits_follow DynamicLength e f = f
  fits_follow (WriteWord p a n) e f = fits_word p a n (word_passed s (seen s m) p a n e) f
  fits_follow (WriteBytes p a bs) e f = let w = bytes_passed s (seen s m) p a bs e in fits_put s p a bs _ m f w.known w.room w.entry
  fits_follow (Lookup p k z) e f = f
  fits_follow (LookupCheck p k z) e f = f
  fits_follow (Free p) e f = fits_drop s m _ _ m.dynamic_length f
  fits_follow (Window p start n) e f = fits_drop s m _ _ m.dynamic_length f
  fits_follow (Truncate n) e f = fits_drop s m _ _ n f
  fits_follow (CompareLeft other) e f = f
  fits_follow (CompareRight other) e f = f
  fits_follow CompareBoth e f = f
  fits_follow Snapshot e f = f
  fits_follow (Rollback heap aux) e f = record { chunks = f.chunks; pages = f.pages }
  fits_follow DeleteHistory e f = record { chunks = f.chunks; pages = f.pages }
  fits_follow (Load area frame g p) e f = f
  fits_follow (Store area frame g p kernel h) e f =
      fits_word (heap_of frame area) (source_of g p.source).word (value_of kernel g (register_number p.value)) (store_passed s (seen s m) area frame g p kernel h e) f
  fits_follow (LoadPointer frame g p) e f = f
  fits_follow (LoadStatic frame g p) e f = f
  fits_follow (StoreStatic frame g p kernel) e f =
      fits_word (static_of s.layout) (source_of g p.source).word (value_of kernel g (register_number p.value)) (static_passed s (seen s m) frame g p kernel e) f

-- ---- an opening: it puts calldata on an empty map
abbrev empty : Plain
empty = record { bytes = λ p a. 0; held = []; pages = []; dynamic_length = 0; journal = λ j. [] }

seen_empty : (s : Setting) → seen s empty ≡ empty_view s
unfolding has member
seen_empty s =
    let pool : s.chunks - 0 ≡ s.chunks = omega arith in
    let entries : s.pages - 0 ≡ s.pages = omega arith in
    λ i. record {
      bytes = λ p a. 0;
      held = λ p k. false;
      pool = pool i;
      allocated = λ p. or-false (fixed s.layout p) i;
      entries_left = entries i;
      dynamic_length = 0;
      journal = λ j. [];
    }

module _ (s : Setting) (calldata : List ℕ) where
  pub seen_fresh : seen s (fresh_plain s calldata) ≡ opened s calldata
  seen_fresh =
      seen_put s (fixed_id s.layout 1) 0 calldata [] empty (fixed_known s (fixed_id s.layout 1) (fixed_id_lem s.layout 1 (omega arith)))
      ∙ ap (written s.layout (fixed_id s.layout 1) 0 calldata []) (seen_empty s)

  pub fits_fresh : touched_count 0 (length calldata) ≤ s.chunks → Fits s (fresh_plain s calldata)
  fits_fresh r =
      let y = fixed_id_lem s.layout 1 (omega arith) in
      record {
        chunks =
            let h = length_hold s.layout.calldata.0 0 (touched_count 0 (length calldata)) [] in
            let k = missing_le (has [] s.layout.calldata.0) 0 (touched_count 0 (length calldata)) in
            omega arith;
        pages = list_fits s.layout s.layout.calldata.0 [] (decodable s _ (fixed_known s _ y)) s.pages zero-le (λ e. absurd (true≢false (sym (rw y) ∙ e)));
      }
