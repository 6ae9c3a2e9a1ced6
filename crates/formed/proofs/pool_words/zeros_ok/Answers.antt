use Rattle.std.proofs.Common.{rules, tests, refl, ◌∙◌, eqb, get_or, take}
use Rattle.std.proofs.lemmas.Iterator.{YieldsList-from_slice}
use Rattle.std.proofs.lemmas.Iterator.Search.{all_from_yields_List}
use Rattle.formed.proofs.Each.{all_of_front}
use Rattle.formed.proofs.pool_words.zeros_ok.Goals as goal

pub returns : goal.returns
returns c =
    let p = c.args.pool.now in
    all_from_yields_List (λ x. eqb x 0) _ _ _ c.all.ensures.ran (YieldsList-from_slice (take c.args.n p) c.iter.ensures.rest) (λ x b q k. search (rules, tests))
    ∙ all_of_front (λ x. eqb x 0) (λ i. eqb (get_or p i 0) 0) p 0 c.args.n c.requires (λ i l. refl)
