use Rattle.std.proofs.Common.{◌≡◌, true}
use Rattle.index.specs.Index.{all, rises, key_before}
use Rattle.index.proofs.rising.Given as goal

abbrev pub invariant-loop-s : goal.invariant-loop-s
invariant-loop-s l = (all (rises l.keys l.order) l.s-index ≡ true) × (l.prev ≡ key_before l.keys l.order l.s-index)
