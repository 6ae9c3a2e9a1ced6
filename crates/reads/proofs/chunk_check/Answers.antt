use Rattle.formed.proofs.Meaning.{well_formed_means}
use Rattle.index.proofs.Logic.{passed}
use Rattle.reads.proofs.chunk_check.Goals as goal

pub chunk_check-requires : goal.chunk_check-requires
chunk_check-requires c =
    well_formed_means _ (passed c.well_formed-2.ensures c.if-not-well_formed.false)
