-- The run worked out by hand, on the small memory of Next.
-- Assumes nothing.
use mathlib.Core.Path.{◌≡◌, refl, ap, ◌∙◌}
use mathlib.Core.Bool.{true, false}
use mathlib.Core.List.{[]}
use Prim.Native.Nat.{ℕ, ◌≤◌}
use native.Mathlib.Omega.{arith}
use Rattle.outcome.specs.Outcome.{done, carried_out}
use Rattle.word.specs.Value.{digits}
use Rattle.state.specs.declared.Frame.{Frame}
use Rattle.state.specs.declared.Area.{Area}
use Rattle.state.specs.declared.Area.TheVariants.{Heap, Aux}
use Rattle.state.specs.Access.{frame_accessed}
use Rattle.store.specs.Mem.{Mem}
use Rattle.formed.specs.Pages.{fixed, dynamic}
use Rattle.formed.specs.Formed.{well_formed}
use Rattle.formed.proofs.Meaning.{well_formed_passes}
use Rattle.view.specs.Steps.{missing}
use Rattle.view.specs.Checks.{undecodable, overfull}
use Rattle.view.specs.Does.{Shows}
use Rattle.registers.specs.declared.Place.TheVariants.{Register}
use Rattle.registers.specs.Registers.{source_of, value_of}
use Rattle.view.specs.Instructions.{Hook, Executed, heap_of, stored, stored_into}
use Rattle.view.specs.Calls.{Call, Load, Store, executed, outcome_of}
use Rattle.plain.specs.Plain.{Plain, has, hold, member, fresh_plain, follow, seen}
use Rattle.plain.specs.Claim.{Run, Any, none, more}
use Rattle.plain.proofs.Good.{never}
use Rattle.growth.specs.Charges as growth
use Rattle.lists.specs.Steps.{Step, public}
use Rattle.lists.specs.Goes.{Goes}
use Rattle.lists.specs.Worked.{Leaves, registers_at, load_places, store_places, no_hook, hook_at, worked_frame, Worked}
use Rattle.lists.proofs.Leaving.{numbered_at, load_leaves, store_goes, leaves_load, leaves_store}
use Rattle.lists.proofs.Next.{answer_is, small, small_begins}
use Rattle.lists.proofs.Theorem.{theorem}

-- ---- lists on this memory
abbrev pub m₀ : Mem
m₀ = small_begins.start

abbrev p₀ : Plain
p₀ = fresh_plain small []

pub begun : Run Step Any small m₀ p₀ m₀ p₀
begun = none

-- a store of the run, and what it leaves
abbrev store_at : Area → Frame → ℕ → Hook → Call
store_at area f x h = Store area f (registers_at x) store_places false h

abbrev stored_at : Area → Frame → ℕ → Hook → Executed
stored_at area f x h = stored_into (registers_at x) store_places (stored area f (source_of (registers_at x) (Register 1)) (value_of false (registers_at x) 2) h)

module _ {m : Mem} {p : Plain} (r : Run Step Any small m₀ p₀ m p) where
  shows : Shows small (seen small p) m
  shows = (theorem.lists small_begins.started r).shows

  pub formed : well_formed m ≡ true
  formed = well_formed_passes m shows.formed

  loads : (area : Area) (f : Frame) (x : ℕ) → (frame_accessed f area x).paid ≡ true → Leaves m (Load area f (registers_at x) load_places) (frame_accessed f area x).frame m
  loads area f x e = load_leaves m formed area f x e

  stores : (area : Area) (f : Frame) (x : ℕ) (h : Hook) → heap_of f area ≤ 4294967295 → carried_out (outcome_of small (store_at area f x h) (seen small p)) ≡ true
      → Goes m (store_at area f x h) (done (executed (stored_at area f x h)))
  stores area f x h page e = store_goes m area f (registers_at x) store_places false h (numbered_at x) page (ap carried_out (answer_is shows (store_at area f x h)) ∙ e)

abbrev leaves : {m : Mem} {c : Call} {r : Executed} (g : Goes m c (done (executed r))) → Leaves m c r.frame g.after
leaves {r = r} g = record { result = r; step = g.step; frame = refl }

-- ---- the first store
abbrev store_0 : Call
store_0 = store_at Aux (worked_frame 1000 4096 0) 0 no_hook

abbrev p₁ : Plain
p₁ = follow small.layout store_0 p₀

room_0 : carried_out (outcome_of small store_0 (seen small p₀)) ≡ true
unfolding fixed dynamic missing undecodable overfull has hold member
room_0 = refl

stored_0 : Goes m₀ store_0 (done (executed (stored_at Aux (worked_frame 1000 4096 0) 0 no_hook)))
stored_0 = stores begun Aux (worked_frame 1000 4096 0) 0 no_hook (omega arith) room_0

after_0 : Run Step Any small m₀ p₀ stored_0.after p₁
after_0 = more begun (public stored_0.step) (λ t calldata e. absurd (never (cc))) tt

-- ---- the second store
abbrev store_10 : Call
store_10 = store_at Heap (worked_frame 967 4097 32) 10 (hook_at 10)

room_10 : carried_out (outcome_of small store_10 (seen small p₁)) ≡ true
unfolding digits fixed dynamic missing undecodable overfull has hold member
room_10 = refl

stored_10 : Goes stored_0.after store_10 (done (executed (stored_at Heap (worked_frame 967 4097 32) 10 (hook_at 10))))
stored_10 = stores after_0 Heap (worked_frame 967 4097 32) 10 (hook_at 10) (omega arith) room_10

after_10 : Run Step Any small m₀ p₀ stored_10.after (follow small.layout store_10 p₁)
after_10 = more after_0 (public stored_10.step) (λ t calldata e. absurd (never (cc))) tt

-- ---- the run
pub worked : Worked
worked =
    let load_4064 = loads begun Heap (worked_frame 1000 4096 0) 4064 refl in
    let store_0 = leaves stored_0 in
    let load_4065 = loads after_0 Heap (worked_frame 968 4096 32) 4065 refl in
    let store_10 = leaves stored_10 in
    let load_100 = loads after_10 Aux (worked_frame 967 4097 32) 100 refl in
    let load_50 = loads after_10 Aux (worked_frame 867 4097 132) 50 refl in
    record {
      m₀ = m₀;
      m₁ = stored_0.after;
      m₂ = stored_10.after;
      load_4064 = load_4064;
      store_0 = store_0;
      load_4065 = load_4065;
      store_10 = store_10;
      load_100 = load_100;
      load_50 = load_50;
      stops = refl;
      run =
          growth.more (leaves_load 4064 load_4064)
          (growth.more (leaves_store 0 store_0)
          (growth.more (leaves_load 4065 load_4065)
          (growth.more (leaves_store 10 store_10)
          (growth.more (leaves_load 100 load_100)
          (growth.one (leaves_load 50 load_50))))));
    }
