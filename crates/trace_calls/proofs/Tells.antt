-- What the answers tell.
-- Assumes nothing.
use mathlib.Core.Path.{◌≡◌, refl, ap, ◌∙◌}
use Prim.Native.Nat.{ℕ}
use Rattle.std.specs.Prelude.{Option, Some, None}
use Rattle.outcome.specs.Outcome.{Outcome}
use Rattle.store.specs.Mem.{Mem}
use Rattle.view.specs.View.{View, Setting}
use Rattle.view.specs.Does.{Does}
use Rattle.view.specs.Calls.{Value}
use Rattle.trace.specs.declared.Counts.{Counts}
use Rattle.trace.specs.declared.Opening.{Opening}
use Rattle.trace.specs.declared.Command.{Command}
use Rattle.trace.specs.declared.Command.TheVariants.{Open, Write, Read, Snapshot, Rollback}
use Rattle.trace.specs.Language.{command_of}
use Rattle.trace_text.specs.declared.Reply.{Reply}
use Rattle.trace_text.specs.declared.Reply.TheVariants as reply
use Rattle.trace_text.specs.Text.{Reported, reply_of}
use Rattle.trace_calls.specs.Trace.{reported, after_opening, OnOpen, TraceTells}

pub tells : {m m' : Mem} {o said : Outcome Value} {s : Setting} {v : View} → Does m o s v said m' → (t : Reported) → t ≡ reported said → (t ≡ reported o) × Does m o s v o m'
tells d t e = (e ∙ ap reported d.answer, record { answer = refl; kept = d.kept; changed = d.changed })

-- ---- lines, by their command; `None` is a line that is not read
module _ (r r' : Option Counts) (m m' : Mem) (t : Reported) where
  pub trace_other : (c : Option Command) → ((o : Opening) → c ≡ Some (Open o) → ⊥) → OnOpen r m (command_of c) r' t m' → TraceTells r m (command_of c) r' t m'
  trace_other None o p = p
  trace_other (Some (Open a)) o p = absurd (o a refl)
  trace_other (Some (Write page address word)) o p = p
  trace_other (Some (Read page address)) o p = p
  trace_other (Some Snapshot) o p = p
  trace_other (Some (Rollback heap aux)) o p = p

-- a reply that is not `ok` keeps the counts
module _ (r : Option Counts) (c p j : ℕ) where
  pub after_other : (a : Reply) → (a ≡ reply.Done → ⊥) → r ≡ after_opening r c p j (reply_of a)
  after_other reply.Unread o = refl
  after_other reply.Done o = absurd (o refl)
  after_other (reply.Word w) o = refl
  after_other (reply.Marks h a) o = refl
  after_other (reply.Refused n) o = refl
