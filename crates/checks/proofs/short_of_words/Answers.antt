use mathlib.Core.Path.{sym}
use native.Mathlib.Omega.{arith}
use borrow.Author.Rules.{rules}
use Rattle.store.specs.Mem.{mem}
use Rattle.checks.proofs.Journals.{full_own, full_none}
use Rattle.checks.proofs.short_of_words.Goals as goal

pub journal_of-j-requires : goal.journal_of-j-requires
journal_of-j-requires c =
    let h = c.requires.0.lengths.in_words in
    omega arith

pub returns-then-j-ge-JOURNAL_COUNT : goal.returns-then-j-ge-JOURNAL_COUNT
returns-then-j-ge-JOURNAL_COUNT c =
    let m = mem c.args.bytes.now c.args.keys.now c.args.order.now c.args.words.now in
    sym (full_none m c.requires.0 c.args.page.0 c.args.w (c.journal_of-j.ensures.none (omega arith)))

pub bounds-words-8 : goal.bounds-words-8
bounds-words-8 c =
    let h = c.requires.0.lengths.in_words in
    search rules

pub bounds-words-j : goal.bounds-words-j
bounds-words-j c =
    let h = c.requires.0.lengths.in_words in
    search rules

pub overflow_add-result-2 : goal.overflow_add-result-2
overflow_add-result-2 c =
    let k = c.requires.0.in_capacity c.journal_of-j.result (omega arith) in
    let l = c.requires.0.lengths.journal_hi in
    omega (arith, c.requires.1)

pub returns : goal.returns
returns c =
    let m = mem c.args.bytes.now c.args.keys.now c.args.order.now c.args.words.now in
    sym (full_own m c.requires.0 c.args.page.0 c.args.w _ (omega arith) (c.journal_of-j.ensures.own (omega arith)))
