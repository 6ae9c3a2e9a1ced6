use Rattle.std.proofs.Common.{rules, tests, refl, ◌∙◌}
use Rattle.std.proofs.lemmas.Iterator.{YieldsList-from_range}
use Rattle.std.proofs.lemmas.Iterator.Search.{all_from_yields_List}
use Rattle.formed.specs.Formed.{journal_right}
use Rattle.formed.specs.Pages.{journal_count}
use Rattle.formed.proofs.Each.{all_of_range}
use Rattle.formed.proofs.journals.journals_ok.Goals as goal

pub returns : goal.returns
returns c =
    let p = journal_right c.args.holders.now c.args.words.now in
    all_from_yields_List p _ _ _ c.all.ensures.ran (YieldsList-from_range 0 journal_count journal_count refl refl) (λ x b q k. search (rules, tests))
    ∙ all_of_range p journal_count
