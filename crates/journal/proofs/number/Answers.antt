use mathlib.Core.Path.{refl}
use native.Mathlib.Omega.{arith}
use Rattle.formed.proofs.Numbers.{number_lt}
use Rattle.formed.specs.Pages.{journal_count}
use Rattle.store.specs.Mem.{journal_words}
use Rattle.journal.proofs.number.Goals as goal

pub overflow_mul-result : goal.overflow_mul-result
overflow_mul-result c =
    let h = number_lt (journal_words c.args.words.now) c.args.j c.args.i journal_count c.requires.which c.requires.inside in omega (arith, h, c.requires.journal_hi)

pub overflow_add-result : goal.overflow_add-result
overflow_add-result c =
    let h = number_lt (journal_words c.args.words.now) c.args.j c.args.i journal_count c.requires.which c.requires.inside in omega (arith, h, c.requires.journal_hi)

pub returns : goal.returns
returns c =
    (refl, number_lt (journal_words c.args.words.now) c.args.j c.args.i journal_count c.requires.which c.requires.inside)
