-- THE CLAIM about every list of calls on a memory fresh from an accepted opening. It is stated of any relation S: `S m c o m'` says that the
-- call c, lent the buffers m, may have the outcome o and leave the buffers m'. Crate `lists` proves it of the relation that the contracts of the code give.
-- Assumes nothing.
use Rattle.std.specs.Prelude.{◌≡◌, true, false, not, List, [], ◌∷◌, ℕ, ◌+◌, ◌≤◌, ◌<◌, length}
use Rattle.outcome.specs.Outcome.{Outcome, refused, done, carried_out, first_of}
use Rattle.store.specs.Mem.{Mem, slot_count}
use Rattle.formed.specs.Pages.{journal_page}
use Rattle.formed.specs.Parts.{byte_at, holds, allocated, pool}
use Rattle.formed.specs.WellFormed.{Pooled, slot_byte}
use Rattle.view.specs.View.{View, Setting}
use Rattle.view.specs.Steps.{alike, rolled_count}
use Rattle.view.specs.Checks.{same_layout}
use Rattle.view.specs.Does.{Shows, Does}
use Rattle.view.specs.Calls.{Call, Value, Open, CompareLeft, CompareRight, Snapshot, Rollback, DeleteHistory, nothing, lengths, verdict, outcome_of, next_of, OpenDoes}
use Rattle.plain.specs.Plain.{Plain, fresh_plain, feed, seen}

-- a relation of this kind
abbrev pub Steps : Type 1
Steps = Mem → Call → Outcome Value → Mem → Type 0

-- ---- what the contracts of the code say of S
pub record Contracts (S : Steps) : Type 0 where
  -- an opening, on any buffers
  pub opens : {m m' : Mem} {s : Setting} {calldata : List ℕ} {o : Outcome Value} → S m (Open s calldata) o m' → OpenDoes m s calldata o m'
  -- any other call, on a memory of setting s and view v
  pub calls : {m m' : Mem} {c : Call} {o : Outcome Value} {s : Setting} {v : View} → ((t : Setting) (calldata : List ℕ) → c ≡ Open t calldata → ⊥)
      → S m c o m' → Shows s v m → Does m (outcome_of s c v) s (next_of s c v) o m'

-- ---- lists
-- a list starts at a memory fresh from an accepted opening
pub data Started (S : Steps) : Setting → Mem → Plain → Type 0 where
  by_opening : {before start : Mem} {s : Setting} {calldata : List ℕ} → S before (Open s calldata) (done nothing) start → Started S s start (fresh_plain s calldata)

-- which calls a list may have: all, an opening only where it is refused
abbrev pub Allowed : Call → Outcome Value → Type 0
Allowed c o = (t : Setting) (calldata : List ℕ) → c ≡ Open t calldata → carried_out o ≡ false

-- calls, each lent the memory that the last one left, with the plain map fed beside them; `Ok` may limit them further
pub data Run (S : Steps) (Ok : Call → Outcome Value → Type 0) (s : Setting) : Mem → Plain → Mem → Plain → Type 0 where
  none : {m : Mem} {p : Plain} → Run S Ok s m p m p
  more : {m m₁ m₂ : Mem} {p p₁ : Plain} {c : Call} {o : Outcome Value}
      → Run S Ok s m p m₁ p₁ → S m₁ c o m₂ → Allowed c o → Ok c o → Run S Ok s m p m₂ (feed s.layout c o p₁)

abbrev pub Any : Call → Outcome Value → Type 0
Any c o = Unit {0}

-- no history deletion, and no accepted rollback to a smaller number in either place
abbrev pub Keeps : ℕ → ℕ → Call → Outcome Value → Type 0
Keeps heap aux c o =
    (c ≡ DeleteHistory → carried_out o ≡ false)
    × ((h a : ℕ) → c ≡ Rollback h a → carried_out o ≡ true → (heap ≤ h) × (aux ≤ a))

-- ---- after every list
pub record Kept (s : Setting) (m : Mem) (p : Plain) : Type 0 where
  -- each pooled chunk is zero
  pub zeroes : (i r : ℕ) → i < slot_count m.words → Pooled m i → r < 256 → slot_byte m i r ≡ 0
  -- held plus pooled chunks equal those lent at the opening, held being the number of the plain map's pairs
  pub count : length p.held + pool m ≡ s.chunks
  -- the memory shows what the plain map has
  pub shows : Shows s (seen s p) m

-- after a rollback that left m', m being the memory just before it and snap that of the snapshot
pub record Restored (s : Setting) (snap m m' : Mem) : Type 0 where
  -- both bootloader pages read in every byte as at the snapshot
  pub pages : (j a : ℕ) → j < rolled_count → byte_at m' (journal_page s.layout j) a ≡ byte_at snap (journal_page s.layout j) a
  -- all other pages are as just before it in bytes, held chunk numbers and allocation
  pub others : (q : ℕ) → ((j : ℕ) → j < rolled_count → q ≡ journal_page s.layout j → ⊥)
      → ((a : ℕ) → byte_at m' q a ≡ byte_at m q a) × ((k : ℕ) → holds m' q k ≡ holds m q k) × (allocated m' q ≡ allocated m q)

-- what a comparison answers of two settings, a left view and a right one: refusal 1 where the layouts differ, else the verdict
abbrev pub compared : (s t : Setting) (left right : View) → Outcome Value
compared s t left right = first_of ((not (same_layout s.layout t.layout), refused 1) ∷ []) (done (verdict (alike left right)))

pub record Claim (S : Steps) : Type 0 where
  -- after every list
  pub lists : {s : Setting} {start m : Mem} {p₀ p : Plain} → Started S s start p₀ → Run S Any s start p₀ m p → Kept s m p
  -- every call's outcome, value and refusal number alike, is the one computed from the setting and the plain map
  pub answers : {s : Setting} {start m m' : Mem} {p₀ p : Plain} {c : Call} {o : Outcome Value}
      → Started S s start p₀ → Run S Any s start p₀ m p → S m c o m' → Allowed c o → o ≡ outcome_of s c (seen s p)
  -- a comparison with another memory that comes from a list: the two plain maps decide it, whichever memory stands on the left
  pub compares_left : {s t : Setting} {start m m' other n : Mem} {p₀ p q₀ q : Plain} {o : Outcome Value}
      → Started S s start p₀ → Run S Any s start p₀ m p → Started S t other q₀ → Run S Any t other q₀ n q
      → S m (CompareLeft n) o m' → o ≡ compared s t (seen s p) (seen t q)
  pub compares_right : {s t : Setting} {start m m' other n : Mem} {p₀ p q₀ q : Plain} {o : Outcome Value}
      → Started S s start p₀ → Run S Any s start p₀ m p → Started S t other q₀ → Run S Any t other q₀ n q
      → S m (CompareRight n) o m' → o ≡ compared s t (seen t q) (seen s p)
  -- wherever the next call is a rollback to a snapshot taken in the list
  pub rollbacks : {s : Setting} {start snap snap' m m' : Mem} {p₀ p q : Plain} {heap aux : ℕ} {o : Outcome Value}
      → Started S s start p₀ → Run S Any s start p₀ snap p
      → S snap Snapshot (done (lengths heap aux)) snap'
      → Run S (Keeps heap aux) s snap' p m q
      → S m (Rollback heap aux) o m'
      → (o ≡ done nothing) × Restored s snap m m'
