-- The snapshot's invariant, of the plain map alone, and that every call that the clause allows in between keeps it.
-- Assumes nothing.
use mathlib.Core.Path.{◌≡◌, refl, sym, ap, ◌∙◌, subst}
use mathlib.Core.Logic.{⊎_elim}
use mathlib.Core.List.{List, [], ◌++◌}
use mathlib.Core.Bool.{Bool, true, false, cond, not, true≢false}
use Prim.Native.Nat.{ℕ, zero, suc, ◌+◌, ◌*◌, ◌/◌, ◌≤◌, ◌<◌}
use native.Mathlib.Omega.{arith}
use native.Mathlib.Nat.{not-suc-le-zero}
use lib.Dec.{ltb}
use lib.ListN.{length, take, drop, length-append, length-take, drop_of_length-le}
use lib.Seq.{drop-append-le}
use borrow.Author.Tests.{lt-ltb, eq-eqb, ne_eqb}
use Rattle.index.proofs.Logic.{same_or_not, and_false_right}
use Rattle.outcome.specs.Outcome.{Outcome, carried_out}
use Rattle.word.specs.Value.{word_bytes}
use Rattle.word.proofs.Digits.{digits_long}
use Rattle.registers.specs.Registers.{register_number, source_of, value_of}
use Rattle.page_ids.specs.declared.Layout.{Layout}
use Rattle.formed.specs.Pages.{LayoutRule, fixed, journal_count, journal_place, journal_page}
use Rattle.formed.specs.Parts.{Note, tab}
use Rattle.view.specs.View.{Setting}
use Rattle.view.specs.Steps.{over, touches, undone, rolled_count, rolled_bytes, marks, aligned_count}
use Rattle.view.specs.Instructions.{heap_of, static_of}
use Rattle.view.specs.Calls.{Call, Value, Open, Allocate, ReadWord, ReadPartial, ReadRange, ReadByte, DynamicLength, WriteWord, WriteBytes, Lookup, LookupCheck, Free, Window, Truncate, CompareLeft, CompareRight, CompareBoth, Snapshot, Rollback, DeleteHistory, Load, Store, LoadPointer, LoadStatic, StoreStatic, outcome_of}
use Rattle.plain.specs.Plain.{Plain, put, put_word, plain_without, follow, seen}
use Rattle.plain.specs.Claim.{Keeps}
use Rattle.plain.proofs.Undone.{over_page, undone_at, undone_append, undone_write, word_covered, aligned_covered, rolled_own, drop_cut}
use Rattle.formed.proofs.Pages.{place_lt}
use Rattle.plain.proofs.Seen.{fixed_id_lem, allocate_dynamic, free_loose, window_loose, truncate_loose}

-- were a rollback to the numbers `to` the next call, it would be carried out, and the journals' pages would have the bytes f
pub record Since (l : Layout) (to : ℕ → ℕ) (f : ℕ → ℕ → ℕ) (p : Plain) : Type 0 where
  pub long : (j : ℕ) → j < journal_count → to j ≤ length (p.journal j)
  pub page : (j b : ℕ) → j < journal_count → rolled_bytes l to p.journal journal_count p.bytes (journal_page l j) b ≡ f (journal_page l j) b

-- the journals have different pages
apart : {l : Layout} → LayoutRule l → (i j : ℕ) → i < j → j < journal_count → journal_page l i ≡ journal_page l j → ⊥
apart r zero zero x y = absurd (not-suc-le-zero x)
apart r zero (suc zero) x y = r.distinct 2 3 (omega arith) (omega arith)
apart r zero (suc (suc j)) x y = absurd (omega arith)
apart r (suc i) zero x y = absurd (not-suc-le-zero x)
apart r (suc i) (suc j) x y = absurd (omega arith)

-- byte b of the page of journal j, with the words of this journal from number `to j` on put back
abbrev rewound : Layout → (ℕ → ℕ) → Plain → ℕ → ℕ → ℕ
rewound l to p j b = undone (journal_page l j) (drop (to j) (p.journal j)) p.bytes (journal_page l j) b

module _ (l : Layout) (r : LayoutRule l) (to : ℕ → ℕ) where
  -- a rollback does no more to that page
  own : (p : Plain) (j b : ℕ) → j < journal_count → rolled_bytes l to p.journal journal_count p.bytes (journal_page l j) b ≡ rewound l to p j b
  own p j b h = rolled_own l to p.journal journal_count p.bytes j b (apart r) h

  -- ---- the snapshot itself
  pub since_start : (p : Plain) → ((j : ℕ) → j < journal_count → to j ≡ length (p.journal j)) → Since l to p.bytes p
  unfolding undone
  since_start p e = record {
    long = λ j k. let z = e j k in omega arith;
    page = λ j b k.
        let z : length (p.journal j) ≤ to j = let y = e j k in omega arith in
        own p j b k ∙ ap (λ (n : List Note). undone (journal_page l j) n p.bytes (journal_page l j) b) (drop_of_length-le (p.journal j) z);
  }

  module _ (f : ℕ → ℕ → ℕ) where
    -- it is enough to look at each journal and its page
    since_own : (p p' : Plain) → ((j : ℕ) → j < journal_count → to j ≤ length (p'.journal j))
        → ((j b : ℕ) → j < journal_count → rewound l to p' j b ≡ rewound l to p j b) → Since l to f p → Since l to f p'
    since_own p p' n e h = record { long = n; page = λ j b k. own p' j b k ∙ e j b k ∙ sym (own p j b k) ∙ h.page j b k }

    -- ---- a write whose notes undo it on a journal's page
    module _ (q a : ℕ) (bs : List ℕ) (notes : List Note) (p : Plain) (h : Since l to f p)
        (undo : (j : ℕ) → j < journal_count → q ≡ journal_page l j → (b : ℕ) → undone q notes (over q a bs p.bytes) q b ≡ p.bytes q b) where
      journal_own : (j : ℕ) → j < journal_count → q ≡ journal_page l j → (put l q a bs notes p).journal j ≡ p.journal j ++ notes
      journal_own j k e = rw (lt-ltb j journal_count k, eq-eqb q (journal_page l j) e)

      journal_other : (j : ℕ) → (q ≡ journal_page l j → ⊥) → (put l q a bs notes p).journal j ≡ p.journal j
      journal_other j ne = rw (ne_eqb q (journal_page l j) ne, and_false_right (ltb j journal_count) false refl)

      put_long : (j : ℕ) → j < journal_count → to j ≤ length ((put l q a bs notes p).journal j)
      put_long j k =
          let z = h.long j k in
          ⊎_elim
          (λ e. subst (λ (n : List Note). to j ≤ length n) (sym (journal_own j k e)) (simp length-append (omega arith)))
          (λ ne. subst (λ (n : List Note). to j ≤ length n) (sym (journal_other j ne)) z)
          (same_or_not q (journal_page l j))

      put_page : (j b : ℕ) → j < journal_count → rewound l to (put l q a bs notes p) j b ≡ rewound l to p j b
      put_page j b k = ⊎_elim same other (same_or_not q (journal_page l j))
        where
          page : ℕ
          page = journal_page l j

          after : ℕ → ℕ → ℕ
          after = over q a bs p.bytes

          same : q ≡ journal_page l j → rewound l to (put l q a bs notes p) j b ≡ rewound l to p j b
          same e =
              ap (λ (n : List Note). undone page (drop (to j) n) after page b) (journal_own j k e)
              ∙ ap (λ (n : List Note). undone page n after page b) (drop-append-le (to j) (p.journal j) notes (h.long j k))
              ∙ ap (λ (g : ℕ → ℕ → ℕ). g page b) (undone_append page (drop (to j) (p.journal j)) notes after)
              ∙ undone_at page (drop (to j) (p.journal j)) (undone page notes after) p.bytes page b
              (subst (λ (n : ℕ). undone n notes after n b ≡ p.bytes n b) e (undo j k e b))

          other : (q ≡ journal_page l j → ⊥) → rewound l to (put l q a bs notes p) j b ≡ rewound l to p j b
          other ne =
              ap (λ (n : List Note). undone page (drop (to j) n) after page b) (journal_other j ne)
              ∙ undone_at page (drop (to j) (p.journal j)) after p.bytes page b (over_page q a bs p.bytes page b (λ e. ne (sym e)))

      since_put : Since l to f (put l q a bs notes p)
      since_put = since_own p (put l q a bs notes p) put_long put_page h

    -- ---- a drop that names no chunk of a fixed page, as the journals' are
    since_drop : (d : ℕ → ℕ → Bool) (u : ℕ → Bool) (n : ℕ) (p : Plain) → ((q k : ℕ) → fixed l q ≡ true → d q k ≡ false) → Since l to f p
        → Since l to f (plain_without d u n p)
    since_drop d u n p loose h =
        since_own p (plain_without d u n p) h.long
        (λ j b k.
        undone_at (journal_page l j) (drop (to j) (p.journal j)) (plain_without d u n p).bytes p.bytes (journal_page l j) b
        (ap (λ (t : Bool). cond t 0 (p.bytes (journal_page l j) b)) (loose (journal_page l j) (b / 256) (fixed_id_lem l (journal_place j) (place_lt j k)))))
        h

    -- ---- a rollback to numbers that are no smaller
    module _ (heap aux : ℕ) (p : Plain) (h : Since l to f p) (up : (j : ℕ) → j < journal_count → to j ≤ marks heap aux j) where
      back_cut : (j : ℕ) → j < journal_count → (follow l (Rollback heap aux) p).journal j ≡ take (marks heap aux j) (p.journal j)
      back_cut j k = rw (lt-ltb j rolled_count k) refl

      back_long : (j : ℕ) → j < journal_count → to j ≤ length ((follow l (Rollback heap aux) p).journal j)
      back_long j k = rw (back_cut j k) (simp length-take (let x = h.long j k in let y = up j k in omega arith))

      back_page : (j b : ℕ) → j < journal_count → rewound l to (follow l (Rollback heap aux) p) j b ≡ rewound l to p j b
      back_page j b k =
          let stays : List Note = drop (to j) (take (marks heap aux j) (p.journal j)) in
          let goes : List Note = drop (marks heap aux j) (p.journal j) in
          ap (λ (n : List Note). undone (journal_page l j) (drop (to j) n) (follow l (Rollback heap aux) p).bytes (journal_page l j) b) (back_cut j k)
          ∙ undone_at (journal_page l j) stays (follow l (Rollback heap aux) p).bytes (undone (journal_page l j) goes p.bytes) (journal_page l j) b
          (rolled_own l (marks heap aux) p.journal journal_count p.bytes j b (apart r) k)
          ∙ ap (λ (g : ℕ → ℕ → ℕ). g (journal_page l j) b) (sym (undone_append (journal_page l j) stays goes p.bytes))
          ∙ ap (λ (n : List Note). undone (journal_page l j) n p.bytes (journal_page l j) b) (drop_cut (to j) (marks heap aux j) (p.journal j) (up j k))

      since_back : Since l to f (follow l (Rollback heap aux) p)
      since_back = since_own p (follow l (Rollback heap aux) p) back_long back_page h

-- numbers that are no smaller in both places
marks_le : (x y x' y' : ℕ) → x ≤ x' → y ≤ y' → (j : ℕ) → j < journal_count → marks x y j ≤ marks x' y' j
marks_le x y x' y' h k zero l = h
marks_le x y x' y' h k (suc zero) l = k
marks_le x y x' y' h k (suc (suc j)) l = absurd (omega arith)

-- ---- each call that is carried out
module _ (s : Setting) (r : LayoutRule s.layout) (heap aux : ℕ) (f : ℕ → ℕ → ℕ) (p : Plain) (o : Outcome Value) (t : carried_out o ≡ true) where
  since_word : (q a n : ℕ) → Since s.layout (marks heap aux) f p → Since s.layout (marks heap aux) f (put_word s.layout q a n p)
  since_word q a n h =
      since_put s.layout r (marks heap aux) f q a (word_bytes n) _ p h
      (λ j x w. unfold tab in undone_write q p.bytes a (word_bytes n) 1 (λ i. a) (word_covered a (length (word_bytes n)) (digits_long 32 n)))

  pub since_follow : (c : Call) → carried_out (outcome_of s c (seen s p)) ≡ true → Keeps heap aux c o → Since s.layout (marks heap aux) f p
      → Since s.layout (marks heap aux) f (follow s.layout c p)
  since_follow (Open u calldata) e k h = h
  -- a fixed page is not allocated, and the journals' are fixed
  since_follow (Allocate q bs) e k h =
      since_put s.layout r (marks heap aux) f q 0 bs [] p h
      (λ j x w. absurd (true≢false (sym (fixed_id_lem s.layout (journal_place j) (place_lt j x)) ∙ ap (fixed s.layout) (sym w) ∙ allocate_dynamic s (seen s p) q bs e)))
  since_follow (ReadWord q a) e k h = h
  since_follow (ReadPartial q x y) e k h = h
  since_follow (ReadRange q x y n) e k h = h
  since_follow (ReadByte q a) e k h = h
  since_follow DynamicLength e k h = h
  since_follow (WriteWord q a n) e k h = since_word q a n h
  since_follow (WriteBytes q a bs) e k h =
      since_put s.layout r (marks heap aux) f q a bs _ p h
      (λ j x w. undone_write q p.bytes a bs (aligned_count a (length bs)) (λ i. 32 * (a / 32 + i)) (aligned_covered a (length bs)))
  since_follow (Lookup q n z) e k h = h
  since_follow (LookupCheck q n z) e k h = h
  since_follow (Free q) e k h = since_drop s.layout r (marks heap aux) f _ _ p.dynamic_length p (λ j i y. free_loose s (seen s p) q e j y) h
  since_follow (Window q a n) e k h =
      since_drop s.layout r (marks heap aux) f _ _ p.dynamic_length p (λ j i y. window_loose s.layout q j (not (touches a n i)) y) h
  since_follow (Truncate n) e k h = since_drop s.layout r (marks heap aux) f _ _ n p (λ j i y. truncate_loose s.layout n j y) h
  since_follow (CompareLeft other) e k h = h
  since_follow (CompareRight other) e k h = h
  since_follow CompareBoth e k h = h
  since_follow Snapshot e k h = h
  since_follow (Rollback x y) e k h =
      let u = k.1 x y refl t in
      since_back s.layout r (marks heap aux) f x y p h (marks_le heap aux x y u.0 u.1)
  since_follow DeleteHistory e k h = absurd (true≢false (sym t ∙ k.0 refl))
  since_follow (Load area frame g places) e k h = h
  since_follow (Store area frame g places kernel hook) e k h =
      since_word (heap_of frame area) (source_of g places.source).word (value_of kernel g (register_number places.value)) h
  since_follow (LoadPointer frame g places) e k h = h
  since_follow (LoadStatic frame g places) e k h = h
  since_follow (StoreStatic frame g places kernel) e k h =
      since_word (static_of s.layout) (source_of g places.source).word (value_of kernel g (register_number places.value)) h
