use Rattle.opening.proofs.sizes_right.Goals as goal

pub returns : goal.returns
returns c = λ l. c.lengths_ok.ensures
