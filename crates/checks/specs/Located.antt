-- A range of chunks is located: what is known of it before any of its chunks is taken.
-- Assumes nothing.
use Rattle.std.specs.Prelude.{List, ℕ, ◌+◌, ◌<◌, ◌≤◌, drop}
use Rattle.index.specs.Index.{seek}
use Rattle.store.specs.Keys.{key_of}
use Rattle.store.specs.Mem.{slot_count}
use Rattle.store.specs.Indexed.{Ranked}
use Rattle.store.specs.Find.{slot_for}

-- of the `count` chunks of page p from number `first` on, those before `chunk` are held, and `rank` is the rank of the key of `chunk`, unless the range ends there
pub record Locates (keys order words : List ℕ) (p first count chunk rank : ℕ) : Type 0 where
  pub from : first ≤ chunk
  pub to : chunk ≤ first + count
  pub held : (x : ℕ) → first ≤ x → x < chunk → slot_for keys words p x < slot_count words
  pub ranked : chunk < first + count → Ranked keys order words (key_of (seek (drop (slot_count words) keys) (p + 1)) chunk) rank
