use Rattle.free_steps.proofs.Groups.{shortened_shows}
use borrow.Author.Rules.{rules}
use Rattle.free_steps.proofs.shorten.Goals as goal

pub bounds-words-11 : goal.bounds-words-11
bounds-words-11 c = let l = c.requires.formed.lengths.in_words in search rules

pub returns : goal.returns
returns c = shortened_shows _ _ _ _ _ c.requires
