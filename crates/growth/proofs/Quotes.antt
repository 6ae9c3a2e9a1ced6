-- A quote is what its loads pay.
-- Assumes nothing.
use mathlib.Core.Path.{◌≡◌, refl, sym, ap, ◌∙◌}
use mathlib.Core.Bool.{Bool, true, false, cond, not, false≢true}
use mathlib.Core.List.{List, ◌∷◌}
use Prim.Native.Nat.{ℕ, suc, ◌+◌, ◌≤◌, ◌<◌}
use native.Mathlib.Omega.{arith}
use lib.ListN.{length}
use borrow.Author.Tests.{le-ltb}
use Rattle.outcome.specs.Outcome.{Outcome, refused, panicked, done}
use Rattle.registers.specs.declared.LoadPlaces.{LoadPlaces}
use Rattle.registers.specs.Registers.{Registers, source_of, load_takes}
use Rattle.state.specs.declared.Frame.{Frame}
use Rattle.state.specs.declared.Growth.{Growth}
use Rattle.state.specs.declared.quote.RunEnd.{RunEnd}
use Rattle.state.specs.declared.Area.{Area}
use Rattle.state.specs.declared.Area.TheVariants.{Heap, Aux}
use Rattle.state.specs.Access.{accessed, bound_of, frame_accessed}
use Rattle.state.specs.Quote.{end_of, walked, quoted}
use Rattle.state.proofs.Laws.{accessed_less, accessed_short}
use Rattle.store.specs.Mem.{Mem}
use Rattle.formed.specs.Formed.{well_formed}
use Rattle.view.specs.View.{view_of}
use Rattle.view.specs.Instructions.{Executed, panic, loaded, loaded_into, panicked_into}
use Rattle.view.specs.Calls.{Value, executed, Load, answer_of}
use Rattle.plain.specs.Claim.{Steps}
use Rattle.growth.specs.Meet.{LoadsAndStoresMeet}
use Rattle.growth.specs.Quotes.{LoadRun, none, more, ends, QuoteOfLoads}
use Rattle.growth.proofs.Carried.{frame_told, load_paid, growth_of, on_frame, paid_is}

-- ---- what a load tells
-- a panic's mark is neither gas nor bound
marks_neither : (area : Area) (f : Frame) (b : Bool) → growth_of area (panic f).frame b ≡ growth_of area f b
marks_neither Heap f b = refl
marks_neither Aux f b = refl

abbrev is_panic : Outcome Value → Bool
is_panic (refused n) = false
is_panic (panicked v) = true
is_panic (done v) = false

module _ (m : Mem) (area : Area) (f : Frame) (g : Registers) (p : LoadPlaces) (r : Executed) where
  abbrev address : ℕ
  address = (source_of g p.source).word

  abbrev after : Frame
  after = (frame_accessed f area address).frame

  -- by whether the memory is well formed, whether the places are taken, and whether the access is paid
  abbrev answer : Bool → Bool → Bool → Outcome Value
  answer b t paid =
      cond (not b) (refused 3)
      (cond (not t) (refused 16)
      (cond (not paid) (panicked (executed (panicked_into g p.dst1 (panic after)))) (done (executed (loaded_into g p (loaded (view_of m) area f (source_of g p.source)))))))

  carried_out_lem : done (executed r) ≡ answer_of m (Load area f g p) → growth_of area r.frame true ≡ accessed f.gas (bound_of f area) address
  carried_out_lem e = paid_is area address f r.frame (load_paid m area f g p r e)

  panics : panicked (executed r) ≡ answer_of m (Load area f g p) → growth_of area r.frame false ≡ accessed f.gas (bound_of f area) address
  panics = go (well_formed m) (load_takes p) (frame_accessed f area address).paid refl
    where
      go : (b t paid : Bool) → (frame_accessed f area address).paid ≡ paid → panicked (executed r) ≡ answer b t paid → growth_of area r.frame false ≡ accessed f.gas (bound_of f area) address
      go false t paid q e = absurd (false≢true (sym (ap is_panic e)))
      go true false paid q e = absurd (false≢true (sym (ap is_panic e)))
      go true true false q e =
          ap (λ (o : Outcome Value). growth_of area (frame_told f o) false) e
          ∙ marks_neither area after false ∙ ap (growth_of area after) (sym q) ∙ sym (on_frame area f address)
      go true true true q e = absurd (false≢true (sym (ap is_panic e)))

-- ---- the run
-- from an access on, by what that access leaves
abbrev from : (gas : ℕ) → List ℕ → ℕ → Growth → RunEnd
from gas list at g = cond g.paid (walked gas list g.gas g.bound (suc at)) (end_of gas g.gas g.bound at)

module _ (S : Steps) (I : LoadsAndStoresMeet S) {area : Area} where
  falls : {f h : Frame} {list : List ℕ} {n : ℕ} → LoadRun S area f list n h → h.gas ≤ f.gas
  falls none = omega arith
  falls {f} (more {m} {g = g} {p = p} {r = r} s rest) =
      let one = accessed_less f.gas (bound_of f area) (source_of g p.source).word f.gas (omega arith) (carried_out_lem m area f g p r (I.loads s).answer) in
      let others = falls rest in
      omega (arith, one, others)
  falls {f} (ends {m} {g = g} {p = p} {r = r} s) =
      let one = accessed_less f.gas (bound_of f area) (source_of g p.source).word f.gas (omega arith) (panics m area f g p r (I.loads s).answer) in
      omega (arith, one)

  empties : {f h : Frame} {list : List ℕ} {n : ℕ} → LoadRun S area f list n h → n < length list → h.gas ≡ 0
  empties none l = absurd (omega arith)
  empties (more s rest) l = empties rest (omega arith)
  empties {f} (ends {m} {g = g} {p = p} {r = r} s) l =
      let e = panics m area f g p r (I.loads s).answer in
      ap (λ (k : Growth). k.gas) (e ∙ accessed_short f.gas (bound_of f area) (source_of g p.source).word (sym (ap (λ (k : Growth). k.paid) e)))

  module _ (gas : ℕ) where
    walks : {f h : Frame} {list : List ℕ} {n : ℕ} → LoadRun S area f list n h → (at : ℕ)
        → walked gas list f.gas (bound_of f area) at ≡ end_of gas h.gas (bound_of h area) (at + n)
    unfolding walked
    walks {f} none at = let e : at ≡ at + 0 = omega arith in ap (end_of gas f.gas (bound_of f area)) e
    walks {f} {h} (more {m} {g = g} {p = p} {r = r} {list = list} {n = n} s rest) at =
        let e : suc at + n ≡ at + suc n = omega arith in
        ap (from gas list at) (sym (carried_out_lem m area f g p r (I.loads s).answer)) ∙ walks rest (suc at) ∙ ap (end_of gas h.gas (bound_of h area)) e
    walks {f} {h} (ends {m} {g = g} {p = p} {r = r} {list = list} s) at =
        let e : at ≡ at + 0 = omega arith in
        let stops : walked gas ((source_of g p.source).word ∷ list) f.gas (bound_of f area) at ≡ end_of gas h.gas (bound_of h area) at =
        ap (from gas list at) (sym (panics m area f g p r (I.loads s).answer)) in
        stops ∙ ap (end_of gas h.gas (bound_of h area)) e

  equals : {f h : Frame} {list : List ℕ} {n : ℕ} → length list ≤ 4096 → LoadRun S area f list n h
      → quoted list f.gas (bound_of f area) ≡ done (end_of f.gas h.gas (bound_of h area) n)
  equals {f} {h} {list} {n} few l =
      let e : 0 + n ≡ n = omega arith in
      rw (le-ltb 4096 (length list) few) (ap (λ (end : RunEnd). done end) (walks f.gas l 0 ∙ ap (end_of f.gas h.gas (bound_of h area)) e))

pub quote_of_loads : (S : Steps) → LoadsAndStoresMeet S → QuoteOfLoads S
quote_of_loads S I = record { equals = λ {area = area} few l. equals S I {area = area} few l; falls = λ {area = area} l. falls S I {area = area} l; empties = λ {area = area} l k. empties S I {area = area} l k }
