use Rattle.std.proofs.Common.{rules, tests, refl, arith, ◌∙◌, length}
use Rattle.std.proofs.lemmas.Iterator.{YieldsList-from_range}
use Rattle.std.proofs.lemmas.Iterator.Search.{all_from_yields_List}
use Rattle.formed.specs.Formed.{entry_right}
use Rattle.formed.proofs.Each.{all_of_range}
use Rattle.formed.proofs.entry.pages_ok.Goals as goal

pub returns : goal.returns
returns c =
    let n = length c.args.entries.now in
    let p = entry_right c.args.words.now c.args.entries.now in
    all_from_yields_List p _ _ _ c.all.ensures.ran (YieldsList-from_range 0 n n refl (omega arith)) (λ x b q k. search (rules, tests))
    ∙ all_of_range p n
