use mathlib.Core.Path.{refl}
use Rattle.index.proofs.Inserts.{inserted, inserted_rank}
use Rattle.index.proofs.insert_at.Goals as goal

pub returns : goal.returns
returns c =
    let moved = c.move_up.ensures in record { keys_after = (refl, inserted _ _ _ _ _ _ _ c.requires.0 c.requires.1 moved); lower_bound = inserted_rank _ _ _ _ _ _ _ c.requires.0 c.requires.1 moved }
