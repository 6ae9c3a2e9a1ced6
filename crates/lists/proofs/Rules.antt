-- The rules of 01, each by the law of the crate that it speaks of.
-- Assumes nothing.
use mathlib.Core.Path.{◌≡◌, refl}
use mathlib.Core.Bool.{true, false}
use mathlib.Core.Logic.{⊎_elim}
use Prim.Native.Nat.{ℕ}
use borrow.Fn.Args.{args_v}
use Rattle.state.proofs.Laws as state_laws
use Rattle.store.specs.Mem.{Mem}
use Rattle.formed.specs.Parts.{allocated}
use Rattle.formed.specs.WellFormed.{WellFormed}
use Rattle.formed.proofs.Meaning.{well_formed_means, well_formed_passes}
use Rattle.formed.proofs.Sizes.{counts_bound}
use Rattle.formed.proofs.Sense.{unlisted_byte, undecodable_unlisted}
use Rattle.view.specs.View.{setting_of}
use Rattle.view.specs.Checks.{undecodable}
use Rattle.view.proofs.Lookup.{lookup_rule}
use Rattle.view.proofs.Operands as operands
use Rattle.lists.specs.Rules.{Rules}
use Rattle.lists.proofs.Padding.{leads, read_limit}

absent : (m : Mem) → WellFormed m → (p : ℕ) → undecodable (setting_of m) p ≡ true → allocated m p ≡ false
unfolding undecodable
absent m f p u = undecodable_unlisted m f p u

pub rules : Rules
rules = record {
  well_formed_lem = λ m. (well_formed_means m, well_formed_passes m);
  buffers_bound = counts_bound;
  undecodable_not_allocated = absent;
  reads_zero = λ m f p a.
      ⊎_elim
      (λ (u : undecodable (setting_of m) p ≡ true). unlisted_byte m f p a (absent m f p u))
      (λ (n : allocated m p ≡ false). unlisted_byte m f p a n);
  lookup = lookup_rule;
  no_wrap = state_laws.no_wrap;
  no_carry = operands.no_carry;
  read_limit = read_limit;
  padding = leads;
  calls_are_steps = λ {n} {ps} {r} {P} {Q} {Γ} {ar} {u} c asked. record {
    went = record {
      lifetimes = c.lifetimes;
      args = args_v c.lifetimes ps Γ.locals ar u;
      result = c.result;
      last = c.new;
      asked = asked;
      kept = c.auto;
      ensures = c.ensures;
    };
    same = refl;
  };
}
