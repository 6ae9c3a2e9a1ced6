use Rattle.std.proofs.Common.{◌∙◌, get_or, take}
use lib.Seq.{get_or-take, length-take-le}
use Rattle.compare.proofs.Answers.{layout_is}
use Rattle.compare.proofs.Bytes.{same_numbers}
use Rattle.compare.proofs.on_formed.same_layout.Goals as goal

pub returns : goal.returns
returns c =
    let l = c.args.left.now in
    let r = c.args.right.now in
    c.eq.ensures
    ∙ same_numbers (take 6 l) (take 6 r) (λ i. get_or l i 0) (λ i. get_or r i 0) 6 (length-take-le 6 l c.requires.0) (length-take-le 6 r c.requires.1) (λ i h. get_or-take 6 l i 0 h) (λ i h. get_or-take 6 r i 0 h)
    ∙ layout_is l r
