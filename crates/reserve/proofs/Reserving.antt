-- A page is made to hold chunks: what is asked once it is not refused, and what is left.
-- Assumes nothing.
use mathlib.Core.Path.{◌≡◌, refl, sym, ap, ◌∙◌}
use mathlib.Core.Bool.{Bool, true, false, ◌||◌}
use Prim.Native.Nat.{ℕ, ◌+◌, ◌-◌, ◌/◌, ◌^◌, ◌≤◌, ◌<◌}
use native.Mathlib.Omega.{arith}
use borrow.Author.Tests.{lt-ltb, eq-eqb}
use Rattle.store.specs.Mem.{Mem, layout_of, slot_count, page_count}
use Rattle.formed.specs.Parts.{entry_of, slot_of_chunk, holds}
use Rattle.formed.specs.WellFormed.{WellFormed}
use Rattle.formed.proofs.Hints.{slot_found}
use Rattle.view.specs.View.{View, setting_of, view_of}
use Rattle.view.specs.Steps.{missing, touched_count}
use Rattle.view.specs.Checks.{undecodable, capacity_checks}
use Rattle.view.specs.Calls.{first_refusal}
use Rattle.view.specs.Does.{Shows}
use Rattle.view.specs.Inner.{listing, holding, ListAsks, HoldAsks}
use Rattle.view.proofs.Missing.{missing_same}
use Rattle.view.proofs.Compose.{listed_held, listed_pool}
use Rattle.bodies.proofs.Puts.{shows_then}
use Rattle.checks.specs.Located.{Locates}
use Rattle.checks.proofs.Passed.{room_passed, decodable}
use Rattle.checks.proofs.Chosen.{touched_top}
use Rattle.checks.proofs.Tables.{allocated_by}
use Rattle.pages.proofs.Listing.{listed_already}
use Rattle.chunks.proofs.Ranges.{holding_none, missing_rest, holding_rest}
use Rattle.std.specs.Prelude.{Ok, Err}
use Rattle.outcome.specs.declared.Refusal.{Refusal}
use Rattle.outcome.specs.Outcome.{number_of}
use Rattle.outcome.specs.Nonzero.{number_nonzero}
use Rattle.reserve.specs.Asks.{PrepareAsks, ReserveAsks, Reserved}

-- the page has an entry, so it is allocated
pub entry_listed : (m : Mem) → WellFormed m → (p e : ℕ) → e ≡ entry_of m p → e < page_count m.words + 4 → (view_of m).allocated p ≡ true
entry_listed m f p e is l = sym (allocated_by m f p e is) ∙ lt-ltb e (page_count m.words + 4) l

-- ---- the page is allocated, and its chunks held
module _ (m : Mem) (p k n : ℕ) (asks : PrepareAsks m p k n) where
  pub list_asks : ListAsks m p
  list_asks = record { formed = asks.formed; page = asks.page; decodable = asks.decodable; entry = asks.entry }

  module _ (m₁ : Mem) (listed : Shows (setting_of m) (listing m p) m₁) where
    pub hold_asks : HoldAsks m₁ p k n
    hold_asks = record {
      formed = listed.formed;
      listed = ap (λ (v : View). v.allocated p) listed.view ∙ ap (λ (b : Bool). b || (view_of m).allocated p) (eq-eqb p p refl);
      top = asks.top;
      room =
          let e : missing ((view_of m₁).held p) k n ≡ missing ((view_of m).held p) k n =
          missing_same ((view_of m₁).held p) ((view_of m).held p) (λ j. ap (λ (v : View). v.held p j) listed.view ∙ listed_held (layout_of m.words) p (view_of m) p j) k n in
          let q : (view_of m₁).pool ≡ (view_of m).pool = ap (λ (v : View). v.pool) listed.view ∙ listed_pool (layout_of m.words) p (view_of m) in
          let r = asks.room in
          omega arith;
    }

    pub prepared : (m₂ : Mem) → Shows (setting_of m₁) (holding p k n (view_of m₁)) m₂ → Shows (setting_of m) (holding p k n (listing m p)) m₂
    prepared m₂ held = shows_then (holding p k n) listed held

-- ---- a reservation
-- n bytes at address a, from the counts of chunks and of journal words as computed
pub reserve_asks : (m : Mem) → WellFormed m → (p a n k w : ℕ) → p ≤ 4294967295 → undecodable (setting_of m) p ≡ false → a + n ≤ 4294967327 → k ≡ touched_count a n → w ≤ 2 ^ 60 → ReserveAsks m p (a / 256) k w
reserve_asks m f p a n k w page known end e small = record {
  formed = f;
  page = page;
  decodable = decodable (setting_of m) p known;
  top = let t = touched_top a n end in omega arith;
  words = small;
}

-- what it leaves, refused or done
module _ (m : Mem) (p k n w : ℕ) where
  pub reserve_refused : (e : Refusal) → number_of e ≡ first_refusal (capacity_checks (setting_of m) (view_of m) p k n w) → Reserved m p k n w (Err e) m
  reserve_refused e is = record { number = is; held = λ h. absurd (number_nonzero e h); kept = λ _. refl }

  module _ (free : first_refusal (capacity_checks (setting_of m) (view_of m) p k n w) ≡ 0) where
    pub reserve_done : (m' : Mem) → Shows (setting_of m) (holding p k n (listing m p)) m' → Reserved m p k n w (Ok tt) m'
    reserve_done m' shown = record { number = sym free; held = λ _. shown; kept = λ z. absurd (z refl) }

    pub reserve_prepare : ReserveAsks m p k n w → PrepareAsks m p k n
    reserve_prepare asks =
        let room = room_passed (setting_of m) (view_of m) p k n w free in
        record { formed = asks.formed; page = asks.page; decodable = asks.decodable; entry = room.entry; top = asks.top; room = room.chunks }

-- an allocated page, some of whose chunks are known to be held
module _ (m : Mem) (p k n : ℕ) (asks : PrepareAsks m p k n) (e : ℕ) (is : e ≡ entry_of m p) (there : e < page_count m.words + 4) (chunk rank : ℕ) (l : Locates m.keys m.order m.words p k n chunk rank) where
  known : (x : ℕ) → k ≤ x → x < chunk → holds m p x ≡ true
  unfolding holds
  known x a b =
      let h = l.held x a b in
      let t = asks.top in
      let c = l.to in
      let q = slot_found m asks.formed p x (omega arith) in
      lt-ltb (slot_of_chunk m p x) (slot_count m.words) (omega arith)

  pub rest_asks : HoldAsks m p chunk (k + n - chunk)
  rest_asks = record {
    formed = asks.formed;
    listed = entry_listed m asks.formed p e is there;
    top = let t = asks.top in let b = l.to in omega arith;
    room = let r = asks.room in let q = missing_rest p k n chunk (view_of m) l.from l.to known in omega arith;
  }

  listed : view_of m ≡ listing m p
  listed = (listed_already m p (list_asks m p k n asks) (omega arith)).view

  pub rest_held : (m' : Mem) → Shows (setting_of m) (holding p chunk (k + n - chunk) (view_of m)) m' → Shows (setting_of m) (holding p k n (listing m p)) m'
  rest_held m' shown = record {
    formed = shown.formed;
    setting = shown.setting;
    view = shown.view ∙ holding_rest p k n chunk (view_of m) l.from l.to known ∙ ap (holding p k n) listed;
  }

  pub all_held : k + n - chunk ≡ 0 → Shows (setting_of m) (holding p k n (listing m p)) m
  all_held none = rest_held m record {
    formed = asks.formed;
    setting = refl;
    view = rw none (holding_none p chunk (view_of m));
  }
