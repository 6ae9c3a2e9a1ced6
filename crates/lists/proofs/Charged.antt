-- What loads and stores pay, of the steps that the code's contracts give.
-- Assumes nothing.
use mathlib.Core.Path.{◌≡◌, refl, ◌∙◌, subst}
use mathlib.Core.Bool.{Bool, true, false, cond}
use mathlib.Core.List.{List, [], ◌∷◌}
use Prim.Native.Nat.{ℕ, suc, ◌≤◌}
use lib.Dec.{ltb}
use lib.ListN.{length}
use Rattle.std.specs.Prelude.{Result, Ok, Err}
use Rattle.outcome.specs.Outcome.{refused, done}
use Rattle.outcome.specs.declared.Refusal.{Refusal}
use Rattle.outcome.specs.declared.Refusal.TheVariants.{Range}
use Rattle.state.specs.declared.Frame.{Frame}
use Rattle.state.specs.declared.Area.{Area}
use Rattle.state.specs.declared.quote.RunEnd.{RunEnd}
use Rattle.state.specs.Access.{bound_of, frame_accessed}
use Rattle.state.specs.Quote.{end_of, walked, quote_outcome, quoted}
use Rattle.state.proofs.quote.quote.Met as quote_met
use Rattle.instructions.proofs.load.Met as load_met
use Rattle.instructions.proofs.store.Met as store_met
use Rattle.store.specs.Mem.{Mem}
use Rattle.formed.specs.Formed.{well_formed}
use Rattle.registers.specs.declared.Place.TheVariants.{Register}
use Rattle.registers.specs.Registers.{source_of}
use Rattle.view.specs.Instructions.{panic}
use Rattle.view.specs.Calls.{Load, answer_of}
use Rattle.plain.proofs.Good.{never}
use Rattle.growth.specs.Meet.{LoadsAndStoresMeet}
use Rattle.growth.specs.Quotes.{LoadRun, none, more, ends, QuoteOfLoads}
use Rattle.growth.proofs.Quotes.{quote_of_loads}
use Rattle.growth.proofs.Charges.{growth_adds_up}
use Rattle.lists.specs.Steps.{Step}
use Rattle.lists.specs.Worked.{registers_at, load_places}
use Rattle.lists.specs.Charged.{Quote, list_of, gas_of, first_bound, LoadsExist, QuoteExists, Charged}
use Rattle.lists.proofs.Contracts.{does}
use Rattle.lists.proofs.Inhabited.{ref}
use Rattle.lists.proofs.Leaving.{word_at, answer, load_is, load_step, load_leaves, store_goes}
use Rattle.lists.proofs.Worked.{m₀, begun, formed, worked}

meet : LoadsAndStoresMeet Step
meet = record {
  loads = λ s. (does s).calls (λ t calldata e. never (cc)) (λ p k z e. absurd (never (cc)));
  stores = λ s. (does s).calls (λ t calldata e. never (cc)) (λ p k z e. absurd (never (cc)));
}

defined : QuoteOfLoads Step
defined = quote_of_loads Step meet

-- ---- the code's quote
quote_equals : (q : Quote) → length (list_of q) ≤ 4096 → {area : Area} {f g : Frame} {n : ℕ} → gas_of q ≡ f.gas → first_bound q ≡ bound_of f area
    → LoadRun Step area f (list_of q) n g → quote_outcome q.result ≡ done (end_of f.gas g.gas (bound_of g area) n)
quote_equals q few {area} {f} {g} {n} d e l =
    q.ensures ∙ (λ i. quoted (list_of q) (d i) (e i)) ∙ defined.equals {area = area} few l

-- ---- there are such loads
module _ (m : Mem) (w : well_formed m ≡ true) (area : Area) where
  pub can_run : (f : Frame) (list : List ℕ) → LoadsExist area f list
  can_run f [] = record { position = 0; last = f; loads = none }
  can_run f (a ∷ list) = go (frame_accessed f area a).paid (load_is m w area f a) (can_run (frame_accessed f area word).frame list)
    where
      -- the address is that of register 1
      word : ℕ
      word = (source_of (registers_at a) (Register 1)).word

      again : LoadsExist area f (word ∷ list) → LoadsExist area f (a ∷ list)
      again = subst (λ (n : ℕ). LoadsExist area f (n ∷ list)) (word_at a)

      go : (p : Bool) → answer_of m (Load area f (registers_at a) load_places) ≡ answer m w area f a p → LoadsExist area (frame_accessed f area word).frame list → LoadsExist area f (a ∷ list)
      go false e rest = again (record { position = 0; last = (panic (frame_accessed f area word).frame).frame; loads = ends {g = registers_at a} {p = load_places} (load_step m w area f a e) })
      go true e rest = again (record { position = suc rest.position; last = rest.last; loads = more {g = registers_at a} {p = load_places} (load_step m w area f a e) rest.loads })

-- ---- there are such quotes
module _ (list : List ℕ) (gas bound : ℕ) where
  answering : (b : Bool) → (r : Result RunEnd Refusal) × (quote_outcome r ≡ cond b (refused 8) (done (walked gas list gas bound 0)))
  answering true = (Err Range, refl)
  answering false = (Ok (walked gas list gas bound 0), refl)

  quote_asked : QuoteExists list gas bound
  quote_asked =
      let a = answering (ltb 4096 (length list)) in
      record {
        quote = record {
          lifetimes = ([], tt);
          args = (ref list, (gas, (bound, tt)));
          result = a.0;
          last = (tt, (tt, (tt, tt)));
          asked = tt;
          kept = (tt, (tt, (tt, tt)));
          ensures = a.1;
        };
        list_is = refl;
        gas_is = refl;
        bound_is = refl;
      }

-- no hypothesis is left
pub charged : Charged
charged = record {
  quote = λ {M}. quote_met.met {M = M};
  load = λ {M}. load_met.met {M = M};
  store = λ {M}. store_met.met {M = M};
  defined = defined;
  equals = λ q few d e l. quote_equals q few d e l;
  loaded = λ area f list. can_run m₀ (formed begun) area f list;
  asked = quote_asked;
  adds_up = growth_adds_up Step meet;
  load_next = λ m w area f x p. load_leaves m w area f x p;
  store_next = λ m area f g p kernel h k page c. store_goes m area f g p kernel h k page c;
  formed = (m₀, formed begun);
  worked = worked;
}
