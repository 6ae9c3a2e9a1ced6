use borrow.Author.Tests.{leb-true, leb-false}
use Rattle.hints.proofs.has_no_journal.Goals as goal

pub returns : goal.returns
returns c = (λ e. c.journal_of.ensures.none (leb-true _ _ e), λ e none. none c.journal_of.result (leb-false _ _ e) (c.journal_of.ensures.own (leb-false _ _ e)))
