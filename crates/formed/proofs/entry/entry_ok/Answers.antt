use Rattle.std.proofs.Common.{◌&&◌, ◌+◌, ◌-◌, ◌∙◌, sym, ap, arith, get_or, ltb, lt-ltb, le-ltb, le-leb, eq-eqb}
use borrow.Author.Tests.{ne_eqb, lt-leb}
use Rattle.page_ids.specs.declared.Layout.{Layout}
use Rattle.formed.specs.Pages.{dynamic, group}
use Rattle.formed.specs.Formed.{entry_right}
use Rattle.formed.proofs.Pages.{less_one}
use Rattle.formed.proofs.entry.entry_ok.Goals as goal

pub returns-then-x-ne0 : goal.returns-then-x-ne0
unfolding entry_right
returns-then-x-ne0 c =
    rw (lt-ltb c.args.e 4 c.if-e-lt-FIXED_ENTRIES.true) (less_one (get_or c.args.entries.now c.args.e 0) (get_or c.args.words.now c.args.e 0) c.if-x-ne0.true)

pub returns-else-x-ne0 : goal.returns-else-x-ne0
unfolding entry_right
returns-else-x-ne0 c =
    rw (lt-ltb c.args.e 4 c.if-e-lt-FIXED_ENTRIES.true, c.if-x-ne0.false) (sym (ne_eqb 0 (get_or c.args.words.now c.args.e 0 + 1) (λ z. omega arith)))

pub returns-then-x-eq0 : goal.returns-then-x-eq0
unfolding entry_right
returns-then-x-eq0 c =
    rw (le-ltb c.args.e 4 c.if-e-lt-FIXED_ENTRIES.false, eq-eqb (get_or c.args.entries.now c.args.e 0) 0 c.if-x-eq0.true)

pub returns-else-x-le4294967296 : goal.returns-else-x-le4294967296
unfolding entry_right
returns-else-x-le4294967296 c =
    rw (le-ltb c.args.e 4 c.if-e-lt-FIXED_ENTRIES.false, ne_eqb (get_or c.args.entries.now c.args.e 0) 0 c.if-x-eq0.false, lt-leb (get_or c.args.entries.now c.args.e 0) 4294967296 c.if-x-le4294967296.false)

pub returns-then-x-le4294967296 : goal.returns-then-x-le4294967296
unfolding entry_right
returns-then-x-le4294967296 c =
    rw (le-ltb c.args.e 4 c.if-e-lt-FIXED_ENTRIES.false, ne_eqb (get_or c.args.entries.now c.args.e 0) 0 c.if-x-eq0.false, le-leb (get_or c.args.entries.now c.args.e 0) 4294967296 c.if-x-le4294967296.true)
    (c.page_ok.ensures ∙ ap (λ (l : Layout). dynamic l (get_or c.args.entries.now c.args.e 0 - 1) && ltb (group l (get_or c.args.entries.now c.args.e 0 - 1)) (get_or c.args.words.now 11 0)) c.requires.2)
