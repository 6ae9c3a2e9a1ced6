use Rattle.formed.proofs.Asks.{pages_asked, slots_asked}
use Rattle.formed.proofs.Meaning.{pooling_of}
use Rattle.drops.proofs.Drops.{entry_in, dropped_by}
use native.Mathlib.Omega.{arith}
use Rattle.drops.proofs.drop_chunks.Goals as goal

pub key_of-from-requires : goal.key_of-from-requires
key_of-from-requires c =
    let h = entry_in _ _ c.requires.page in let l = c.requires.page.formed.lengths.pages_hi in let e = c.entry_of-e.ensures in (omega arith, omega (arith, c.ranges.lo))

pub key_of-to-requires : goal.key_of-to-requires
key_of-to-requires c =
    let h = entry_in _ _ c.requires.page in let l = c.requires.page.formed.lengths.pages_hi in let e = c.entry_of-e.ensures in (omega arith, omega (arith, c.ranges.hi))

pub give-requires : goal.give-requires
give-requires c =
    let l = c.requires.page.formed.lengths.in_bytes in record { indexed = (slots_asked _ c.requires.page.formed, pooling_of _ c.requires.page.formed); words_in_bounds = (omega arith, omega (arith, c.key_of-from.ensures), omega (arith, c.requires.order, c.key_of-from.ensures, c.key_of-to.ensures)) }

pub returns : goal.returns
returns c =
    dropped_by _ _ _ _ _ _ _ _ _ _ _ _ _ _ c.requires c.entry_of-e.ensures c.key_of-from.ensures c.key_of-to.ensures c.give.ensures

pub entry_of-e-requires : goal.entry_of-e-requires
entry_of-e-requires c = pages_asked _ c.requires.page.formed
