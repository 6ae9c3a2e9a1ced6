-- The reads meet the contract that all calls share: a read leaves the memory as it was, and its outcome is that of the view.
-- Assumes nothing.
use mathlib.Core.Path.{◌≡◌, refl, sym, ap, ◌∙◌}
use mathlib.Core.Bool.{Bool, true, false, cond, not, ◌&&◌, false≢true}
use mathlib.Core.List.{List, [], ◌∷◌}
use Prim.Native.Nat.{ℕ, ◌-◌}
use lib.Dec.{ltb, eqb}
use lib.ListN.{length}
use Rattle.outcome.specs.Outcome.{Outcome, refused, done, carried_out, first_of, mapped}
use Rattle.word.specs.Value.{big_endian}
use Rattle.store.specs.Mem.{Mem}
use Rattle.formed.specs.Formed.{zeros, well_formed}
use Rattle.formed.proofs.Meaning.{well_formed_means}
use Rattle.view.specs.View.{setting_of, view_of}
use Rattle.view.specs.Steps.{run, padded}
use Rattle.view.specs.Checks.{on_memory, partial_checks, range_checks, lookup_checks}
use Rattle.view.specs.Calls.{Call, Value, ReadWord, ReadPartial, ReadRange, ReadByte, DynamicLength, Lookup, LookupCheck, Snapshot, nothing, number, bytes, shown, outcome_of, next_of, answer_of, CallDoes}
use Rattle.reads.specs.Calls.{partial_value, lengths_value, RangeDoes}

module _ {A : Type 0} (f : A → Value) (m : Mem) (a : A) where
  valued_plain : mapped f (on_memory m [] a) ≡ first_of ((not (well_formed m), refused 3) ∷ []) (done (f a))
  valued_plain = go (well_formed m)
    where
      go : (b : Bool) → mapped f (cond (not b) (refused 3) (done a)) ≡ cond (not b) (refused 3) (done (f a))
      go true = refl
      go false = refl

  valued_check : (t : Bool) (n : ℕ) → mapped f (on_memory m ((t, refused n) ∷ []) a) ≡ first_of ((not (well_formed m), refused 3) ∷ []) (first_of ((t, refused n) ∷ []) (done (f a)))
  valued_check t n = go (well_formed m) t
    where
      go : (b c : Bool) → mapped f (cond (not b) (refused 3) (cond c (refused n) (done a))) ≡ cond (not b) (refused 3) (cond c (refused n) (done (f a)))
      go true true = refl
      go true false = refl
      go false c = refl

-- a call that leaves the view as it was
pub only_reads : (m : Mem) (c : Call) (o : Outcome Value) → next_of (setting_of m) c (view_of m) ≡ view_of m → o ≡ answer_of m c → CallDoes m c o m
only_reads m c o same e = record {
  answer = e;
  kept = λ _. refl;
  changed = λ q. record { formed = well_formed_means m (go (well_formed m) (outcome_of (setting_of m) c (view_of m)) q); setting = refl; view = sym same };
}
  where
    go : (b : Bool) (w : Outcome Value) → carried_out (cond (not b) (refused 3) w) ≡ true → b ≡ true
    go true w q = refl
    go false w q = absurd (false≢true q)

module _ (m : Mem) where
  module _ (p : ℕ) where
    pub word_call : (a : ℕ) (t : Outcome ℕ) → t ≡ on_memory m [] (big_endian (run (view_of m) p a 32)) → CallDoes m (ReadWord p a) (mapped number t) m
    word_call a t e = only_reads m (ReadWord p a) (mapped number t) refl (ap (mapped number) e ∙ valued_plain number m (big_endian (run (view_of m) p a 32)))

    pub byte_call : (a : ℕ) (t : Outcome ℕ) → t ≡ on_memory m [] ((view_of m).bytes p a) → CallDoes m (ReadByte p a) (mapped number t) m
    byte_call a t e = only_reads m (ReadByte p a) (mapped number t) refl (ap (mapped number) e ∙ valued_plain number m ((view_of m).bytes p a))

    module _ (x y : ℕ) where
      pub partial_call : (t : Outcome (ℕ × ℕ)) → t ≡ on_memory m (partial_checks x y) (big_endian (padded (run (view_of m) p x (y - x))), y - x) → CallDoes m (ReadPartial p x y) (mapped partial_value t) m
      partial_call t e =
          only_reads m (ReadPartial p x y) (mapped partial_value t) refl
          (ap (mapped partial_value) e ∙ valued_check partial_value m (big_endian (padded (run (view_of m) p x (y - x))), y - x) (ltb 32 (y - x)) 8)

      -- the output d is the value
      pub range_call : (l d : List ℕ) (t : Outcome (Unit {0})) → RangeDoes (on_memory m (range_checks x y (length l)) tt) t (run (view_of m) p x (y - x)) l d
          → CallDoes m (ReadRange p x y (length l)) (mapped (λ _. bytes d) t) m
      range_call l d t r =
          only_reads m (ReadRange p x y (length l)) (mapped (λ _. bytes d) t) refl
          (ap (mapped (λ _. bytes d)) r.answer ∙ go (well_formed m) (not (eqb (length l) (y - x))) r.read)
        where
          go : (b c : Bool) → (carried_out {A = Unit {0}} (cond (not b) (refused 3) (cond c (refused 8) (done tt))) ≡ true → d ≡ run (view_of m) p x (y - x))
              → mapped (λ _. bytes d) (cond {A = Outcome (Unit {0})} (not b) (refused 3) (cond c (refused 8) (done tt))) ≡ cond (not b) (refused 3) (cond c (refused 8) (done (bytes (run (view_of m) p x (y - x)))))
          go true true h = refl
          go true false h = ap (λ (b : List ℕ). done (bytes b)) (h refl)
          go false c h = refl

    -- on a well-formed memory the part shown is the value
    module _ (k : ℕ) (z : List ℕ) where
      pub lookup_call : (bs : List ℕ) → well_formed m ≡ true → bs ≡ cond (well_formed m) (shown (view_of m) p k z) [] → CallDoes m (Lookup p k z) (done (bytes bs)) m
      lookup_call bs f e =
          only_reads m (Lookup p k z) (done (bytes bs)) refl
          (ap (λ (b : List ℕ). done (bytes b)) (e ∙ ap (λ (b : Bool). cond b (shown (view_of m) p k z) []) f)
          ∙ sym (ap (λ (b : Bool). cond (not b) (refused 3) (done (bytes (shown (view_of m) p k z)))) f))

      pub check_call : (t : Outcome (Unit {0})) → t ≡ on_memory m (lookup_checks z) tt → CallDoes m (LookupCheck p k z) (mapped (λ _. nothing) t) m
      check_call t e = only_reads m (LookupCheck p k z) (mapped (λ _. nothing) t) refl (ap (mapped (λ _. nothing)) e ∙ valued_check (λ _. nothing) m tt (not (eqb (length z) 256 && zeros z)) 8)

  pub length_call : (t : Outcome ℕ) → t ≡ on_memory m [] (view_of m).dynamic_length → CallDoes m DynamicLength (mapped number t) m
  length_call t e = only_reads m DynamicLength (mapped number t) refl (ap (mapped number) e ∙ valued_plain number m (view_of m).dynamic_length)

  pub marks_call : (t : Outcome (ℕ × ℕ)) → t ≡ on_memory m [] (length ((view_of m).journal 0), length ((view_of m).journal 1)) → CallDoes m Snapshot (mapped lengths_value t) m
  marks_call t e = only_reads m Snapshot (mapped lengths_value t) refl (ap (mapped lengths_value) e ∙ valued_plain lengths_value m (length ((view_of m).journal 0), length ((view_of m).journal 1)))
