use Rattle.formed.proofs.Meaning.{well_formed_means}
use Rattle.index.proofs.Logic.{passed}
use borrow.Author.Rules.{rules}
use Rattle.instructions.proofs.load_static.Goals as goal

pub load_static-requires : goal.load_static-requires
load_static-requires c = record { well_formed = well_formed_means _ (passed c.well_formed-2.ensures c.if-not-well_formed.false); registers_len = search rules }
