-- A copying lookup is a lookup, and its check.
-- Assumes nothing.
use mathlib.Core.Path.{◌≡◌, refl, ap}
use mathlib.Core.Bool.{Bool, true, false, cond, not, ◌&&◌, true≢false, false≢true}
use mathlib.Core.List.{List, []}
use Prim.Native.Nat.{ℕ, zero, suc, ◌*◌}
use native.Mathlib.Omega.{arith}
use borrow.Author.Tests.{ne_eqb}
use lib.Dec.{eqb}
use lib.ListN.{length}
use Rattle.outcome.specs.Outcome.{Outcome, refused, done, carried_out, refusal_number, answered}
use Rattle.store.specs.Mem.{Mem}
use Rattle.formed.specs.Formed.{zeros, well_formed}
use Rattle.view.specs.View.{view_of}
use Rattle.view.specs.Steps.{run}
use Rattle.view.specs.Calls.{Value, Lookup, LookupCheck, nothing, bytes, CallDoes}
use Rattle.abi.specs.Interface.{chunk_answer}
use Rattle.reads.proofs.Calls.{only_reads}
use Rattle.lists.specs.Linked.{copied_part}

module _ (m : Mem) (p k : ℕ) (z : List ℕ) where
  pub copied_call : (r : ℕ) (d : List ℕ) → well_formed m ≡ true → answered r (bytes d) ≡ chunk_answer m p k z → CallDoes m (Lookup p k z) (done (bytes (copied_part r d))) m
  copied_call r d f e = only_reads m (Lookup p k z) _ refl (go (well_formed m) (eqb (length z) 256 && zeros z) r f e)
    where
      go : (b c : Bool) (r : ℕ) → b ≡ true → answered r (bytes d) ≡ cond (not b) (refused 3) (cond (not c) (refused 8) (done (bytes (run (view_of m) p (256 * k) 256))))
          → done (bytes (cond (eqb r 0) d [])) ≡ cond {A = Outcome Value} (not b) (refused 3) (done (bytes (cond c (run (view_of m) p (256 * k) 256) [])))
      go true true zero f e = e
      go true true (suc r) f e = absurd (false≢true (ap carried_out e))
      go true false zero f e = absurd (true≢false (ap carried_out e))
      go true false (suc r) f e = ap (λ (b : Bool). done (bytes (cond b d []))) (ne_eqb (suc r) 0 (λ q. omega arith))
      go false c r f e = absurd (false≢true f)

  pub copied_check : (r : ℕ) (d : List ℕ) → answered r (bytes d) ≡ chunk_answer m p k z → CallDoes m (LookupCheck p k z) (answered r nothing) m
  copied_check r d e = only_reads m (LookupCheck p k z) _ refl (go (well_formed m) (not (eqb (length z) 256 && zeros z)) r e)
    where
      go : (b c : Bool) (r : ℕ) → answered r (bytes d) ≡ cond (not b) (refused 3) (cond c (refused 8) (done (bytes (run (view_of m) p (256 * k) 256))))
          → answered r nothing ≡ cond {A = Outcome Value} (not b) (refused 3) (cond c (refused 8) (done nothing))
      go true true zero e = absurd (true≢false (ap carried_out e))
      go true true (suc r) e = ap refused (ap refusal_number e)
      go true false zero e = refl
      go true false (suc r) e = absurd (false≢true (ap carried_out e))
      go false c zero e = absurd (true≢false (ap carried_out e))
      go false c (suc r) e = ap refused (ap refusal_number e)
