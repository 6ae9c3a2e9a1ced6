-- THE CONTRACT of a call that can change a memory.
-- Assumes nothing.
use Rattle.std.specs.Prelude.{◌≡◌, true, false}
use Rattle.outcome.specs.Outcome.{Outcome, carried_out}
use Rattle.store.specs.Mem.{Mem}
use Rattle.formed.specs.WellFormed.{WellFormed}
use Rattle.view.specs.View.{View, Setting, setting_of, view_of}

-- m is a well-formed memory of this setting and view. Nothing else is said of its buffers, and so these stay open: which slot a chunk has and which
-- entry a page, how many zero words of the pool a search skips, the contents of the order past the places in use, of journal places past a journal's
-- length, of the hints and of the head's unused number. A new chunk has the lowest pooled slot, as the contract of `pool::take_slot` says
pub record Shows (s : Setting) (v : View) (m : Mem) : Type 0 where
  pub formed : WellFormed m
  pub setting : setting_of m ≡ s
  pub view : view_of m ≡ v

-- a call on the buffers m has the outcome `reported`, which is that of the definition, and leaves the buffers m': all of them as they were
-- where it is refused or panics, and a well-formed memory of the setting s and the view v where it is carried out
pub record Does {A : Type 0} (m : Mem) (outcome : Outcome A) (s : Setting) (v : View) (reported : Outcome A) (m' : Mem) : Type 0 where
  pub answer : reported ≡ outcome
  pub kept : carried_out outcome ≡ false → m' ≡ m
  pub changed : carried_out outcome ≡ true → Shows s v m'
