use Rattle.std.proofs.Common.{◌≡◌, rules, tests, refl, sym, arith, ◌∙◌, get_or, take}
use Rattle.std.proofs.lemmas.Iterator.{YieldsList-from_slice}
use Rattle.std.proofs.lemmas.Iterator.Search.{all_from_yields_List}
use Rattle.formed.specs.Formed.{fits}
use Rattle.formed.proofs.Bools.{and_stop, and_pass}
use Rattle.formed.proofs.Each.{all_of_front}
use Rattle.formed.proofs.Sizes.{narrow_is}
use Rattle.index.specs.Index.{all}
use Rattle.formed.proofs.head.narrow_ok.Goals as goal
use Rattle.formed.proofs.head.narrow_ok.Goals.{After-all}

six : (c : After-all) → c.all.result ≡ all (λ i. fits (get_or c.args.words.now i 0)) 6
six c =
    let w = c.args.words.now in
    all_from_yields_List fits _ _ _ c.all.ensures.ran (YieldsList-from_slice (take 6 w) cc) (λ x b q k. search (rules, tests))
    ∙ all_of_front fits (λ i. fits (get_or w i 0)) w 0 6 (omega (arith, c.requires)) (λ i l. refl)

pub returns-then-all : goal.returns-then-all
returns-then-all c = and_pass _ _ (sym (six (goal.at.returns-then-all c).After-all) ∙ c.if-all.true) ∙ narrow_is c.args.words.now

pub returns-else-all : goal.returns-else-all
returns-else-all c = c.if-all.false ∙ and_stop _ _ (sym (six (goal.at.returns-else-all c).After-all) ∙ c.if-all.false) ∙ narrow_is c.args.words.now
