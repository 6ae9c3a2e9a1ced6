use Rattle.std.proofs.Common.{◌≡◌, rules, tests}
use Rattle.std.proofs.lemmas.Iterator.{IsFirst-from_position, YieldsList-from_slice}
use Rattle.pages.proofs.Free.{free_found}
use Rattle.pages.proofs.free_place.Goals as goal

pub returns : goal.returns
returns c =
    let ks = c.args.keys.now in
    let found = IsFirst-from_position _ _ _ (λ k. k ≡ 0) (λ k. k ≡ 0 → ⊥) c.position.ensures.ran (YieldsList-from_slice ks cc) (λ x q h. search (rules, tests)) (λ x q h. search (rules, tests)) in
    rw c.unwrap_or.ensures (free_found ks _ c.requires found)
