use mathlib.Core.Path.{sym, subst}
use Rattle.word.specs.Value.{value}
use Rattle.store.specs.Mem.{mem}
use Rattle.formed.specs.WellFormed.{WellFormed}
use Rattle.write_steps.proofs.Searched.{left_does}
use Rattle.write_steps.proofs.write_word.Goals as goal

pub returns-in-Some : goal.returns-in-Some
returns-in-Some c = c.write_known.ensures.written _ c.in-Some.is

pub write_searched-requires : goal.write_searched-requires
write_searched-requires c =
    subst WellFormed (sym (c.write_known.ensures.left c.in-None.is)) c.requires

pub returns-in-None : goal.returns-in-None
returns-in-None c =
    let m = mem c.args.bytes.now c.args.keys.now c.args.order.now c.args.words.now in
    left_does m c.args.page.0 c.args.address.0 (value c.args.word.limbs) (mem c.write_known.new.bytes c.args.keys.now c.args.order.now c.write_known.new.words) (c.write_known.ensures.left c.in-None.is) _ _ c.write_searched.ensures
