use Rattle.std.proofs.Common.{rules, tests, ap, arith, ◌∙◌, ◌/◌, [], length, take}
use Rattle.std.proofs.lemmas.Iterator.{YieldsList-from_slice}
use Rattle.std.proofs.lemmas.Iterator.Search.{all_from_yields_List}
use Rattle.std.specs.Simd.{first_chunks}
use Rattle.formed.proofs.Each.{all_of_front, length-first_chunks}
use Rattle.formed.specs.Formed.{noted}
use Rattle.formed.proofs.Noted.{noted_cut}
use Rattle.formed.proofs.journals.notes_ok.Goals as goal

pub returns : goal.returns
returns c =
    let ns = c.args.notes.now in
    let hs = c.args.holders.now in
    let m = length ns / 3 in
    all_from_yields_List (λ x. noted hs x c.args.k 0) _ _ _ c.all.ensures.ran (YieldsList-from_slice (take c.args.n (first_chunks 3 m ns)) (c.iter.ensures.rest ∙ ap (take c.args.n) c.as_chunks.ensures.front)) (λ x b q k. search (rules, tests))
    ∙ all_of_front (λ x. noted hs x c.args.k 0) (noted hs ns c.args.k) (first_chunks 3 m ns) [] c.args.n (let e = length-first_chunks 3 m ns in omega (arith, c.requires)) (λ i l. noted_cut hs ns c.args.k m i (omega (arith, c.requires)))
