use mathlib.Core.Path.{ap, ◌∙◌, subst}
use Prim.Native.Nat.{ℕ, ◌+◌}
use native.Mathlib.Omega.{arith}
use Rattle.store.specs.Keys.{key_of}
use Rattle.store.specs.Indexed.{Ranked}
use Rattle.checks.proofs.locate.Goals as goal

pub returns : goal.returns
returns c =
    record {
      from = omega arith;
      to = omega (arith, c.known_run-known.ensures.0);
      held = c.known_run-known.ensures.1;
      ranked = λ l. subst (λ (x : ℕ). Ranked c.args.keys.now c.args.order.now c.args.words.now x c.rank_of-at.result) (c.key_of.ensures ∙ ap (λ (x : ℕ). key_of x (c.args.first + c.known_run-known.result)) c.requires.1) c.rank_of-at.ensures;
    }
