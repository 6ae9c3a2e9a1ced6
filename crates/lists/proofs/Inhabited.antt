-- There are steps: every call on every memory has one, with the outcome that the definition gives. So the claim does not hold for want of
-- steps, and no `requires` narrows it. The steps of frees, windows and truncations are in Frees, those of comparisons in Comparing.
-- Assumes nothing.
use mathlib.Core.Path.{◌≡◌, refl, sym, ap, ◌∙◌, subst}
use mathlib.Core.Bool.{Bool, true, false, cond, not, ◌&&◌, true≢false}
use mathlib.Core.List.{List, [], ◌∷◌}
use Prim.Native.Nat.{ℕ, zero, suc, ◌+◌, ◌*◌, ◌-◌, ◌/◌, ◌%◌, ◌^◌, ◌≤◌}
use native.Mathlib.Omega.{arith}
use lib.Dec.{ltb, eqb}
use lib.ListN.{length, set}
use borrow.Author.Tests.{eqb-true}
use denote.Ref.{Bor, MutBor}
use Rattle.view.proofs.Refused.{Refusals, end, next, ill_does, refused_does, done_does}
use Rattle.formed.proofs.Same.{tab_long}
use Rattle.std.specs.Prelude.{Result, Ok, Err, ⊤}
use Rattle.outcome.specs.Outcome.{Outcome, refused, panicked, done, carried_out, answered, refusal_number, number_of, result_outcome, answer_outcome, unit_outcome}
use Rattle.outcome.specs.declared.Refusal.{Refusal}
use Rattle.outcome.specs.declared.Refusal.TheVariants as because
use Rattle.outcome.specs.Nonzero.{number_nonzero}
use Rattle.word.specs.declared.Word.{Word}
use Rattle.word.specs.Value.{value, big_endian}
use Rattle.store.specs.Mem.{Mem, mem, slot_count, page_count, journal_words}
use Rattle.formed.specs.Formed.{well_formed, zeros}
use Rattle.formed.specs.WellFormed.{WellFormed}
use Rattle.view.specs.View.{View, view_of, Setting, setting_of}
use Rattle.view.specs.Steps.{run, padded, touched_count, aligned_count}
use Rattle.view.specs.Checks.{on_memory, rollback_checks, partial_checks, range_checks, lookup_checks, counts_right, lengths_right, opening_checks, capacity_checks_at, Check, word_write_checks, byte_write_checks, allocate_checks}
use Rattle.view.specs.Calls.{Call, Value, ReadWord, ReadPartial, ReadRange, ReadByte, DynamicLength, Lookup, LookupCheck, Snapshot, bytes, shown, answer_of, Open, Rollback, DeleteHistory, nothing, CallDoes, OpenDoes, Allocate, WriteWord, WriteBytes, next_of, first_refusal}
use Rattle.reads.specs.declared.PartialWord.{PartialWord}
use Rattle.reads.specs.declared.Marks.{Marks}
use Rattle.reads.specs.Calls.{word_outcome, word_and_count, partial_outcome, byte_outcome, length_outcome, snapshot_outcome, RangeDoes}
use Rattle.reads.proofs.Calls.{word_call, partial_call, range_call, byte_call, length_call, check_call, marks_call}
use Rattle.view.specs.Does.{Shows, Does}
use Rattle.formed.proofs.Meaning.{well_formed_means}
use Rattle.page_ids.specs.Decode.{bad_layout}
use Rattle.opening.specs.Opening.{opening_outcome, OpenAsks}
use Rattle.opening.proofs.Starts.{head_width}
use Rattle.opening.proofs.Refusals.{open_asks, calldata_asks, open_refused, open_done}
use Rattle.journal.proofs.Cuts.{forget_shows}
use Rattle.history.proofs.History.{rollback_refusals, rollback_asks}
use Rattle.checks.proofs.Passed.{room_refusals}
use Rattle.lists.proofs.Writing.{word_there, bytes_there, contents_there}
use Rattle.lists.proofs.Reach.{Reached, started_there, calldata_there, rolled_there}
use Rattle.lists.specs.Steps.{PublicStep, did_read_word, did_read_partial, did_read_range, did_read_byte, did_dynamic_length, did_lookup, did_lookup_check, did_snapshot, did_open, did_write_word, did_write_bytes, did_allocate, did_allocate_with, did_rollback, did_delete_history}
use Rattle.lists.specs.Goes.{Goes, Narrow}

-- every memory has a step of c, which leaves it as it is
abbrev pub Answers : Call → Type 0
Answers c = (m : Mem) → PublicStep m c (answer_of m c) m

abbrev pub ref : List ℕ → Bor (List ℕ)
ref l = record { ref_ptr = (0, 0); now = l }

abbrev pub ref_mut : List ℕ → MutBor (List ℕ)
ref_mut l = record { ref_ptr = (0, 0); ghost_name = 0; now = l }

-- ---- answers that tell an outcome whose refusals have a number of 01's table; a read does not panic
abbrev Right : {A : Type 0} → Outcome A → Type 0
Right (refused n) = (e : Refusal) × (number_of e ≡ n)
Right (panicked a) = ⊥
Right (done a) = Unit {0}

module _ {A : Type 0} (m : Mem) (a : A) where
  right_plain : Right (on_memory m [] a)
  right_plain = go (well_formed m)
    where
      go : (b : Bool) → Right (cond (not b) (refused 3) (done a))
      go true = tt
      go false = (because.NotFormed, refl)

  right_check : (t : Bool) → Right (on_memory m ((t, refused 8) ∷ []) a)
  right_check t = go (well_formed m) t
    where
      go : (b c : Bool) → Right (cond (not b) (refused 3) (cond c (refused 8) (done a)))
      go true true = (because.Range, refl)
      go true false = tt
      go false c = (because.NotFormed, refl)

-- its value is made by g
abbrev answer_to : {A B : Type 0} → (A → B) → (o : Outcome A) → Right o → Result B Refusal
answer_to g (refused n) r = Err r.0
answer_to g (panicked a) r = absurd r
answer_to g (done a) r = Ok (g a)

told_to : {A B : Type 0} (f : B → A) (g : A → B) → ((a : A) → f (g a) ≡ a) → (o : Outcome A) (r : Right o) → result_outcome f (answer_to g o r) ≡ o
told_to f g back (refused n) r = ap refused r.1
told_to f g back (panicked a) r = absurd r
told_to f g back (done a) r = ap done (back a)

-- the number n in four limbs of 64 bits, the lowest first; what is past 256 bits stays in the highest
abbrev B : ℕ
B = 2 ^ 64

unfoldable pub limbs : ℕ → List ℕ
limbs n = n % B ∷ n / B % B ∷ n / B / B % B ∷ n / B / B / B ∷ []

limb : (n : ℕ) → n % B + B * (n / B) ≡ n
limb n = omega arith

pub value_is : (n : ℕ) → value (limbs n) ≡ n
unfolding value limbs
value_is n = ap (λ (x : ℕ). n % B + B * (n / B % B + B * x)) (limb (n / B / B)) ∙ (ap (λ (x : ℕ). n % B + B * x) (limb (n / B)) ∙ limb n)

-- ---- the reads
abbrev word : ℕ → Word
word n = record { limbs = limbs n }

abbrev part : ℕ × ℕ → PartialWord
part x = record { word = word x.0; bytes_read = x.1 }

abbrev marks : ℕ × ℕ → Marks
marks x = record { heap = x.0; aux = x.1 }

pub can_read_word : (p a : ℕ) → Answers (ReadWord p a)
can_read_word p a m =
    subst (λ (o : Outcome Value). PublicStep m (ReadWord p a) o m) (word_call m p a (word_outcome (answer_to (word) out right)) told).answer
    (did_read_word
    (record {
      lifetimes = ([], ([], ([], ([], tt))));
      args = (ref m.bytes, (ref m.keys, (ref m.order, (ref m.words, (record { 0 = p }, (record { 0 = a }, tt))))));
      result = answer_to (word) out right;
      last = (tt, (tt, (tt, (tt, (tt, (tt, tt))))));
      asked = tt;
      kept = (tt, (tt, (tt, (tt, (tt, (tt, tt))))));
      ensures = told;
    }))
  where
    out : Outcome ℕ
    out = on_memory m [] (big_endian (run (view_of m) p a 32))

    right : Right out
    right = right_plain m (big_endian (run (view_of m) p a 32))

    told : word_outcome (answer_to (word) out right) ≡ out
    told = told_to (λ w. value w.limbs) (word) (value_is) out right

pub can_read_partial : (p x y : ℕ) → Answers (ReadPartial p x y)
can_read_partial p x y m =
    subst (λ (o : Outcome Value). PublicStep m (ReadPartial p x y) o m) (partial_call m p x y (partial_outcome (answer_to (part) out right)) told).answer
    (did_read_partial
    (record {
      lifetimes = ([], ([], ([], ([], tt))));
      args = (ref m.bytes, (ref m.keys, (ref m.order, (ref m.words, (record { 0 = p }, (record { 0 = x }, (record { 0 = y }, tt)))))));
      result = answer_to (part) out right;
      last = (tt, (tt, (tt, (tt, (tt, (tt, (tt, tt)))))));
      asked = tt;
      kept = (tt, (tt, (tt, (tt, (tt, (tt, (tt, tt)))))));
      ensures = told;
    }))
  where
    out : Outcome (ℕ × ℕ)
    out = on_memory m (partial_checks x y) (big_endian (padded (run (view_of m) p x (y - x))), y - x)

    right : Right out
    right = right_check m (big_endian (padded (run (view_of m) p x (y - x))), y - x) (ltb 32 (y - x))

    told : partial_outcome (answer_to (part) out right) ≡ out
    told = told_to (word_and_count) (part) (λ a i. (value_is a.0 i, a.1)) out right

-- an output that takes the bytes
abbrev taken : Outcome (Unit {0}) → List ℕ → List ℕ → List ℕ
taken (refused n) l bs = l
taken (panicked u) l bs = l
taken (done u) l bs = bs

-- a call without a value
abbrev unit_to : (o : Outcome (Unit {0})) → Right o → Result ⊤ Refusal
unit_to o r = answer_to (λ u. u) o r

unit_told : (o : Outcome (Unit {0})) (r : Right o) → unit_outcome (unit_to o r) ≡ o
unit_told o r = told_to (λ u. tt) (λ u. u) (λ u. refl) o r

range_does : (o : Outcome (Unit {0})) (l bs : List ℕ) (r : Right o) → RangeDoes o (unit_outcome (unit_to o r)) bs l (taken o l bs)
range_does (panicked u) l bs r = absurd r
range_does (refused n) l bs r = record { answer = unit_told (refused n) r; kept = λ _. refl; read = λ e. absurd (true≢false (sym e)) }
range_does (done tt) l bs r = record { answer = refl; kept = λ e. absurd (true≢false e); read = λ _. refl }

-- it is as long as before
taken_long : (m : Mem) (p x y : ℕ) (l : List ℕ) → length (taken (on_memory m (range_checks x y (length l)) tt) l (run (view_of m) p x (y - x))) ≡ length l
taken_long m p x y l = go (well_formed m) (eqb (length l) (y - x)) refl
  where
    go : (b c : Bool) → eqb (length l) (y - x) ≡ c → length (taken (cond (not b) (refused 3) (cond (not c) (refused 8) (done tt))) l (run (view_of m) p x (y - x))) ≡ length l
    go false c e = refl
    go true false e = refl
    go true true e = tab_long (y - x) (λ i. (view_of m).bytes p (x + i)) ∙ sym (eqb-true (length l) (y - x) e)

pub can_read_range : (p x y : ℕ) (l : List ℕ) → Answers (ReadRange p x y (length l))
can_read_range p x y l m =
    subst (λ (o : Outcome Value). PublicStep m (ReadRange p x y (length l)) o m) (range_call m p x y l (taken out l bs) (unit_outcome (unit_to out right)) (range_does out l bs right)).answer
    (did_read_range
    (record {
      lifetimes = ([], ([], ([], ([], ([], tt)))));
      args = (ref m.bytes, (ref m.keys, (ref m.order, (ref m.words, (record { 0 = p }, (record { 0 = x }, (record { 0 = y }, (ref_mut l, tt))))))));
      result = unit_to out right;
      last = (tt, (tt, (tt, (tt, (tt, (tt, (tt, (taken out l bs, tt))))))));
      asked = tt;
      kept = (tt, (tt, (tt, (tt, (tt, (tt, (tt, (taken_long m p x y l, tt))))))));
      ensures = range_does out l bs right;
    }))
  where
    bs : List ℕ
    bs = run (view_of m) p x (y - x)

    out : Outcome (Unit {0})
    out = on_memory m (range_checks x y (length l)) tt

    right : Right out
    right = right_check m tt (not (eqb (length l) (y - x)))

pub can_read_byte : (p a : ℕ) → Answers (ReadByte p a)
can_read_byte p a m =
    subst (λ (o : Outcome Value). PublicStep m (ReadByte p a) o m) (byte_call m p a (byte_outcome (answer_to (λ b. b) out right)) told).answer
    (did_read_byte
    (record {
      lifetimes = ([], ([], ([], ([], tt))));
      args = (ref m.bytes, (ref m.keys, (ref m.order, (ref m.words, (record { 0 = p }, (record { 0 = a }, tt))))));
      result = answer_to (λ b. b) out right;
      last = (tt, (tt, (tt, (tt, (tt, (tt, tt))))));
      asked = tt;
      kept = (tt, (tt, (tt, (tt, (tt, (tt, tt))))));
      ensures = told;
    }))
  where
    out : Outcome ℕ
    out = on_memory m [] ((view_of m).bytes p a)

    right : Right out
    right = right_plain m ((view_of m).bytes p a)

    told : byte_outcome (answer_to (λ b. b) out right) ≡ out
    told = told_to (λ b. b) (λ b. b) (λ b. refl) out right

pub can_tell_length : Answers DynamicLength
can_tell_length m =
    subst (λ (o : Outcome Value). PublicStep m DynamicLength o m) (length_call m (length_outcome (answer_to (λ n. n) out right)) told).answer
    (did_dynamic_length
    (record {
      lifetimes = ([], ([], ([], ([], tt))));
      args = (ref m.bytes, (ref m.keys, (ref m.order, (ref m.words, tt))));
      result = answer_to (λ n. n) out right;
      last = (tt, (tt, (tt, (tt, tt))));
      asked = tt;
      kept = (tt, (tt, (tt, (tt, tt))));
      ensures = told;
    }))
  where
    out : Outcome ℕ
    out = on_memory m [] (view_of m).dynamic_length

    right : Right out
    right = right_plain m (view_of m).dynamic_length

    told : length_outcome (answer_to (λ n. n) out right) ≡ out
    told = told_to (λ n. n) (λ n. n) (λ n. refl) out right

pub can_snapshot : Answers Snapshot
can_snapshot m =
    subst (λ (o : Outcome Value). PublicStep m Snapshot o m) (marks_call m (snapshot_outcome (answer_to (marks) out right)) told).answer
    (did_snapshot
    (record {
      lifetimes = ([], ([], ([], ([], tt))));
      args = (ref m.bytes, (ref m.keys, (ref m.order, (ref m.words, tt))));
      result = answer_to (marks) out right;
      last = (tt, (tt, (tt, (tt, tt))));
      asked = tt;
      kept = (tt, (tt, (tt, (tt, tt))));
      ensures = told;
    }))
  where
    out : Outcome (ℕ × ℕ)
    out = on_memory m [] (length ((view_of m).journal 0), length ((view_of m).journal 1))

    right : Right out
    right = right_plain m (length ((view_of m).journal 0), length ((view_of m).journal 1))

    told : snapshot_outcome (answer_to (marks) out right) ≡ out
    told = told_to (λ k. (k.heap, k.aux)) (marks) (λ x. refl) out right

pub can_look_up : (p k : ℕ) (z : List ℕ) (m : Mem) → PublicStep m (Lookup p k z) (done (bytes (cond (well_formed m) (shown (view_of m) p k z) []))) m
can_look_up p k z m =
    did_lookup
    (record {
      lifetimes = ([], ([], ([], ([], tt))));
      args = (ref m.bytes, (ref m.keys, (ref m.order, (ref m.words, (record { 0 = p }, (k, (ref z, tt)))))));
      result = ref (cond (well_formed m) (shown (view_of m) p k z) []);
      last = (tt, (tt, (tt, (tt, (tt, (tt, (tt, tt)))))));
      asked = tt;
      kept = (tt, (tt, (tt, (tt, (tt, (tt, (tt, tt)))))));
      ensures = refl;
    })

pub can_check : (p k : ℕ) (z : List ℕ) → Answers (LookupCheck p k z)
can_check p k z m =
    subst (λ (o : Outcome Value). PublicStep m (LookupCheck p k z) o m) (check_call m p k z (unit_outcome (unit_to out right)) (unit_told out right)).answer
    (did_lookup_check
    (record {
      lifetimes = ([], ([], ([], ([], ([], tt)))));
      args = (ref m.bytes, (ref m.keys, (ref m.order, (ref m.words, (record { 0 = p }, (k, (ref z, tt)))))));
      result = unit_to out right;
      last = (tt, (tt, (tt, (tt, (tt, (tt, (tt, tt)))))));
      asked = tt;
      kept = (tt, (tt, (tt, (tt, (tt, (tt, (tt, tt)))))));
      ensures = unit_told out right;
    }))
  where
    out : Outcome (Unit {0})
    out = on_memory m (lookup_checks z) tt

    right : Right out
    right = right_check m tt (not (eqb (length z) 256 && zeros z))

-- ---- calls that change the memory
-- the lent buffers keep their lengths
pub record Same (m m' : Mem) : Type 0 where
  pub bytes : length m'.bytes ≡ length m.bytes
  pub keys : length m'.keys ≡ length m.keys
  pub order : length m'.order ≡ length m.order
  pub words : length m'.words ≡ length m.words

pub same : (m : Mem) → Same m m
same m = record { bytes = refl; keys = refl; order = refl; words = refl }

pub setting_same : {m m' : Mem} {v : View} → WellFormed m → Shows (setting_of m) v m' → Same m m'
setting_same {m} {m'} f h =
    let a = f.lengths in
    let b = h.formed.lengths in
    let c : slot_count m'.words ≡ slot_count m.words = ap (λ (s : Setting). s.chunks) h.setting in
    let p : page_count m'.words ≡ page_count m.words = ap (λ (s : Setting). s.pages) h.setting in
    let r : journal_words m'.words ≡ journal_words m.words = ap (λ (s : Setting). s.journal_words) h.setting in
    let b₁ = b.in_bytes in
    let b₂ = b.in_keys in
    let b₃ = b.in_order in
    let b₄ = b.in_words in
    let a₁ = a.in_bytes in
    let a₂ = a.in_keys in
    let a₃ = a.in_order in
    let a₄ = a.in_words in
    record { bytes = omega arith; keys = omega arith; order = omega arith; words = omega arith }

-- the memory that a call leaves where it is carried out, and the step to it
record Carried (m : Mem) (c : Call) : Type 0 where
  after : Mem
  shows : Shows (setting_of m) (next_of (setting_of m) c (view_of m)) after
  step : CallDoes m c (done nothing) after → PublicStep m c (done nothing) after

-- the checks' outcomes are such
abbrev Named : List (Check Value) → Type 0
Named [] = Unit {0}
Named ((b, o) ∷ rest) = Right o × Named rest

first_named : (checks : List (Check Value)) → Named checks → (n : ℕ) → n ≡ first_refusal checks → (n ≡ 0 → ⊥) → (e : Refusal) × (number_of e ≡ n)
first_named [] t n q z = absurd (z q)
first_named ((true, refused k) ∷ rest) t n q z = (t.0.0, t.0.1 ∙ sym q)
first_named ((true, panicked a) ∷ rest) t n q z = absurd t.0
first_named ((true, done a) ∷ rest) t n q z = absurd (z q)
first_named ((false, o) ∷ rest) t n q z = first_named rest t.1 n q z

-- ---- a call that goes by a list of tests: it is refused where the memory is not well formed or a test holds, else carried out
module _ (m : Mem) (c : Call) (checks : List (Check Value)) (tests : Refusals checks) (named : Named checks) (is : answer_of m c ≡ on_memory m checks nothing)
    (refuse : (e : Refusal) → CallDoes m c (refused (number_of e)) m → PublicStep m c (refused (number_of e)) m) (carry : WellFormed m → first_refusal checks ≡ 0 → Carried m c) where
  ended : {o : Outcome Value} {m' : Mem} → (CallDoes m c o m' → PublicStep m c o m') → CallDoes m c o m' → Goes m c (answer_of m c)
  ended {o} {m'} step d = record { after = m'; step = subst (λ (x : Outcome Value). PublicStep m c x m') d.answer (step d) }

  turned : {m' : Mem} {o : Outcome Value} → Does m (on_memory m checks nothing) (setting_of m) (next_of (setting_of m) c (view_of m)) o m' → CallDoes m c o m'
  turned {m'} {o} d = subst (λ (x : Outcome Value). Does m x (setting_of m) (next_of (setting_of m) c (view_of m)) o m') (sym is) d

  on_formed : WellFormed m → (n : ℕ) → n ≡ first_refusal checks → Goes m c (answer_of m c)
  on_formed f zero e =
      let t = carry f (sym e) in
      ended t.step (turned (done_does m f checks (setting_of m) (next_of (setting_of m) c (view_of m)) tests (sym e) t.shows))
  on_formed f (suc n) e =
      let r = first_named checks named (suc n) e (λ z. omega arith) in
      ended (refuse r.0) (turned (refused_does m f checks (setting_of m) (next_of (setting_of m) c (view_of m)) (number_of r.0) (r.1 ∙ e) (number_nonzero r.0)))

  tested : Goes m c (answer_of m c)
  tested = go (well_formed m) refl
    where
      go : (b : Bool) → well_formed m ≡ b → Goes m c (answer_of m c)
      go true e = on_formed (well_formed_means m e) (first_refusal checks) refl
      go false e = ended (refuse because.NotFormed) (ill_does m c e)

-- ---- history
module _ (heap aux : ℕ) (m : Mem) where
  roll_back : (r : Result ⊤ Refusal) (bs ws : List ℕ) → length bs ≡ length m.bytes → length ws ≡ length m.words → CallDoes m (Rollback heap aux) (answer_outcome nothing r) (mem bs m.keys m.order ws)
      → PublicStep m (Rollback heap aux) (answer_outcome nothing r) (mem bs m.keys m.order ws)
  roll_back r bs ws lb lw d =
      did_rollback
      (record {
        lifetimes = ([], ([], ([], ([], tt))));
        args = (ref_mut m.bytes, (ref m.keys, (ref m.order, (ref_mut m.words, (heap, (aux, tt))))));
        result = r;
        last = (bs, (tt, (tt, (ws, (tt, (tt, tt))))));
        asked = tt;
        kept = (lb, (tt, (tt, (lw, (tt, (tt, tt))))));
        ensures = d;
      })

  pub can_roll_back : Goes m (Rollback heap aux) (answer_of m (Rollback heap aux))
  can_roll_back =
      tested m (Rollback heap aux) (rollback_checks (view_of m) heap aux) (rollback_refusals m heap aux) ((because.BadMark, refl), tt) refl (λ e. roll_back (Err e) m.bytes m.words refl refl)
      (λ f e.
      let t = rolled_there m heap aux (rollback_asks m heap aux f e) in
      let l = setting_same f t.shows in
      record { after = _; shows = t.shows; step = roll_back (Ok tt) t.bytes t.words l.bytes l.words })

delete : (m : Mem) (r : Result ⊤ Refusal) (ws : List ℕ) → length ws ≡ length m.words → CallDoes m DeleteHistory (answer_outcome nothing r) (mem m.bytes m.keys m.order ws) → PublicStep m DeleteHistory (answer_outcome nothing r) (mem m.bytes m.keys m.order ws)
delete m r ws lw d =
    did_delete_history
    (record {
      lifetimes = ([], ([], ([], ([], tt))));
      args = (ref m.bytes, (ref m.keys, (ref m.order, (ref_mut m.words, tt))));
      result = r;
      last = (tt, (tt, (tt, (ws, tt))));
      asked = tt;
      kept = (tt, (tt, (tt, (lw, tt))));
      ensures = d;
    })

pub can_delete : (m : Mem) → Goes m DeleteHistory (answer_of m DeleteHistory)
can_delete m =
    tested m DeleteHistory [] end tt refl (λ e. delete m (Err e) m.words refl)
    (λ f e.
    let h = forget_shows m.bytes m.keys m.order m.words f in
    record { after = _; shows = h; step = delete m (Ok tt) (set (set m.words 12 0) 13 0) (setting_same f h).words })

-- ---- a call that is lent every buffer to change
module _ (m : Mem) (c : Call) (checks : List (Check Value)) (tests : Refusals checks) (named : Named checks) (is : answer_of m c ≡ on_memory m checks nothing)
    (step : (r : Result ⊤ Refusal) (m' : Mem) → Same m m' → CallDoes m c (answer_outcome nothing r) m' → PublicStep m c (answer_outcome nothing r) m')
    (there : (WellFormed m) × (first_refusal checks ≡ 0) → Reached (setting_of m) (next_of (setting_of m) c (view_of m))) where
  pub goes : Goes m c (answer_of m c)
  goes =
      tested m c checks tests named is (λ e. step (Err e) m (same m))
      (λ f e.
      let t = there (f, e) in
      record { after = t.memory; shows = t.shows; step = step (Ok tt) t.memory (setting_same f t.shows) })

-- the last three checks of all writes and allocations
module _ (s : Setting) (v : View) (p a n w : ℕ) where
  room_named : Named (capacity_checks_at s v p a n w)
  room_named = ((because.NoPage, refl), ((because.NoChunk, refl), ((because.NoJournal, refl), tt)))

-- ---- writes and allocations, of a page and an address of 32 bits, as the code's have
module _ (p a : ℕ) (page : p ≤ 4294967295) (address : a ≤ 4294967295) where
  pub can_write_word : (n : ℕ) (m : Mem) → Goes m (WriteWord p a n) (answer_of m (WriteWord p a n))
  can_write_word n m =
      goes m (WriteWord p a n) (word_write_checks (setting_of m) (view_of m) p a) (next (room_refusals (setting_of m) (view_of m) p a 32 1)) ((because.Undecodable, refl), room_named (setting_of m) (view_of m) p a 32 1) refl
      (λ r m' l d.
      subst (λ (x : ℕ). PublicStep m (WriteWord p a x) (answer_outcome nothing r) m') (value_is n)
      (did_write_word
      (record {
        lifetimes = ([], ([], ([], ([], tt))));
        args = (ref_mut m.bytes, (ref_mut m.keys, (ref_mut m.order, (ref_mut m.words, (record { 0 = p }, (record { 0 = a }, (record { limbs = limbs n }, tt)))))));
        result = r;
        last = (m'.bytes, (m'.keys, (m'.order, (m'.words, (tt, (tt, (tt, tt)))))));
        asked = tt;
        kept = (l.bytes, (l.keys, (l.order, (l.words, (tt, (tt, (tt, tt)))))));
        ensures = subst (λ (x : ℕ). CallDoes m (WriteWord p a x) (answer_outcome nothing r) m') (sym (value_is n)) d;
      })))
      (word_there m p a page address n)

  pub can_write_bytes : (bs : List ℕ) (m : Mem) → Goes m (WriteBytes p a bs) (answer_of m (WriteBytes p a bs))
  can_write_bytes bs m =
      goes m (WriteBytes p a bs) (byte_write_checks (setting_of m) (view_of m) p a (length bs)) (next (next (room_refusals (setting_of m) (view_of m) p a (length bs) (aligned_count a (length bs))))) ((because.Undecodable, refl), ((because.Range, refl), room_named (setting_of m) (view_of m) p a (length bs) (aligned_count a (length bs)))) refl
      (λ r m' l d.
      did_write_bytes
      (record {
        lifetimes = ([], ([], ([], ([], ([], tt)))));
        args = (ref_mut m.bytes, (ref_mut m.keys, (ref_mut m.order, (ref_mut m.words, (record { 0 = p }, (record { 0 = a }, (ref bs, tt)))))));
        result = r;
        last = (m'.bytes, (m'.keys, (m'.order, (m'.words, (tt, (tt, (tt, tt)))))));
        asked = tt;
        kept = (l.bytes, (l.keys, (l.order, (l.words, (tt, (tt, (tt, tt)))))));
        ensures = d;
      }))
      (bytes_there m p a page address bs)

module _ (p : ℕ) (page : p ≤ 4294967295) where
  pub can_allocate_with : (bs : List ℕ) (m : Mem) → Goes m (Allocate p bs) (answer_of m (Allocate p bs))
  can_allocate_with bs m =
      goes m (Allocate p bs) (allocate_checks (setting_of m) (view_of m) p (length bs)) (next (next (next (room_refusals (setting_of m) (view_of m) p 0 (length bs) 0)))) ((because.Undecodable, refl), ((because.Fixed, refl), ((because.Allocated, refl), room_named (setting_of m) (view_of m) p 0 (length bs) 0))) refl
      (λ r m' l d.
      did_allocate_with
      (record {
        lifetimes = ([], ([], ([], ([], ([], tt)))));
        args = (ref_mut m.bytes, (ref_mut m.keys, (ref_mut m.order, (ref_mut m.words, (record { 0 = p }, (ref bs, tt))))));
        result = r;
        last = (m'.bytes, (m'.keys, (m'.order, (m'.words, (tt, (tt, tt))))));
        asked = tt;
        kept = (l.bytes, (l.keys, (l.order, (l.words, (tt, (tt, tt))))));
        ensures = d;
      }))
      (contents_there m p page bs)

  -- an empty page
  pub can_allocate : (m : Mem) → Goes m (Allocate p []) (answer_of m (Allocate p []))
  can_allocate m =
      goes m (Allocate p []) (allocate_checks (setting_of m) (view_of m) p 0) (next (next (next (room_refusals (setting_of m) (view_of m) p 0 0 0)))) ((because.Undecodable, refl), ((because.Fixed, refl), ((because.Allocated, refl), room_named (setting_of m) (view_of m) p 0 0 0))) refl
      (λ r m' l d.
      did_allocate
      (record {
        lifetimes = ([], ([], ([], ([], tt))));
        args = (ref_mut m.bytes, (ref_mut m.keys, (ref_mut m.order, (ref_mut m.words, (record { 0 = p }, tt)))));
        result = r;
        last = (m'.bytes, (m'.keys, (m'.order, (m'.words, (tt, tt)))));
        asked = tt;
        kept = (l.bytes, (l.keys, (l.order, (l.words, (tt, tt)))));
        ensures = d;
      }))
      (contents_there m p page [])

-- ---- opening: the numbers of a layout have 32 bits, as the code's have
module _ (s : Setting) (calldata : List ℕ) (narrow : Narrow s) (m : Mem) where
  abbrev result : Outcome Value
  result = opening_outcome s m (length calldata)

  number_is : answered (refusal_number result) nothing ≡ result
  number_is = go (bad_layout s.layout) (counts_right s && lengths_right s m) (ltb s.chunks (touched_count 0 (length calldata)))
    where
      out : Bool → Bool → Bool → Outcome Value
      out x y z = cond x (refused 1) (cond (not y) (refused 2) (cond z (refused 10) (done nothing)))

      go : (x y z : Bool) → answered (refusal_number (out x y z)) nothing ≡ out x y z
      go true y z = refl
      go false false z = refl
      go false true true = refl
      go false true false = refl

  opens : (r : Result ⊤ Refusal) (m' : Mem) → Same m m' → OpenDoes m s calldata (answer_outcome nothing r) m' → PublicStep m (Open s calldata) (answer_outcome nothing r) m'
  opens r m' l d =
      did_open
      (record {
        lifetimes = ([], ([], ([], ([], ([], tt)))));
        args = (ref_mut m.bytes, (ref_mut m.keys, (ref_mut m.order, (ref_mut m.words, (s.layout, (record { chunks = s.chunks; pages = s.pages; journal_words = s.journal_words }, (ref calldata, tt)))))));
        result = r;
        last = (m'.bytes, (m'.keys, (m'.order, (m'.words, (tt, (tt, (tt, tt)))))));
        asked = tt;
        kept = (l.bytes, (l.keys, (l.order, (l.words, (tt, (tt, (tt, tt)))))));
        ensures = d;
      })

  size_same : {v : View} {m' : Mem} → OpenAsks s m → Shows s v m' → Same m m'
  size_same {v} {m'} asks h =
      let b = h.formed.lengths in
      let c : slot_count m'.words ≡ s.chunks = ap (λ (t : Setting). t.chunks) h.setting in
      let p : page_count m'.words ≡ s.pages = ap (λ (t : Setting). t.pages) h.setting in
      let r : journal_words m'.words ≡ s.journal_words = ap (λ (t : Setting). t.journal_words) h.setting in
      let b₁ = b.in_bytes in
      let b₂ = b.in_keys in
      let b₃ = b.in_order in
      let b₄ = b.in_words in
      let a₁ = asks.sizes.in_bytes in
      let a₂ = asks.sizes.in_keys in
      let a₃ = asks.sizes.in_order in
      let a₄ = asks.sizes.in_words in
      record { bytes = omega arith; keys = omega arith; order = omega arith; words = omega arith }

  pub can_open : Goes m (Open s calldata) result
  can_open = go (refusal_number result) refl
    where
      go : (n : ℕ) → n ≡ refusal_number result → Goes m (Open s calldata) result
      go zero q =
          let e = ap (λ (k : ℕ). answered k nothing) q ∙ number_is in
          let asks = open_asks nothing s m (length calldata) 0 e refl in
          let t = started_there s m asks (λ w. head_width s w narrow.statics narrow.calldata narrow.heap narrow.aux narrow.base narrow.stride) in
          let k = calldata_asks nothing s m (length calldata) 0 e refl t.memory t.shows in
          let u = calldata_there t.memory s.layout.calldata.0 calldata k in
          let d = open_done nothing s m calldata 0 e refl t.memory u.memory t.shows u.shows in
          let l = size_same asks (d.changed (ap carried_out (sym d.answer))) in
          record { after = u.memory; step = subst (λ (o : Outcome Value). PublicStep m (Open s calldata) o u.memory) d.answer (opens (Ok tt) u.memory l d) }
      go (suc n) q =
          let r = first_named (opening_checks s (lengths_right s m) (length calldata)) ((because.Layout, refl), ((because.Sizes, refl), ((because.NoChunk, refl), tt))) (suc n) q (λ z. omega arith) in
          let d = open_refused nothing s m calldata (number_of r.0) (ap (λ (k : ℕ). answered k nothing) (r.1 ∙ q) ∙ number_is) (number_nonzero r.0) in
          record { after = m; step = subst (λ (o : Outcome Value). PublicStep m (Open s calldata) o m) d.answer (opens (Err r.0) m (same m) d) }
