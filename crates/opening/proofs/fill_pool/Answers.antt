use mathlib.Core.Path.{ap}
use Prim.Native.Nat.{ℕ, ◌-◌}
use lib.ListN.{length}
use Rattle.opening.proofs.Starts.{part_long, filled}
use Rattle.opening.proofs.fill_pool.Goals as goal

pub fill-requires : goal.fill-requires
fill-requires c =
    part_long c.args.chunks c.args.words.now c.requires.1 _ (ap (λ (x : ℕ). length c.args.words.now - x) c.pool_length.ensures)

pub returns : goal.returns
returns c =
    filled c.args.chunks c.args.words.now c.requires.1 _ (ap (λ (x : ℕ). length c.args.words.now - x) c.pool_length.ensures) c.fill.new.ws c.fill.ensures.0 c.fill.ensures.1
