use Rattle.formed.proofs.Meaning.{well_formed_means}
use Rattle.index.proofs.Logic.{passed}
use borrow.Author.Rules.{rules}
use Rattle.instructions.proofs.store.Goals as goal

pub store-requires : goal.store-requires
store-requires c = record { well_formed = well_formed_means _ (passed c.well_formed-2.ensures c.if-not-well_formed.false); registers_len = search rules }
