use mathlib.Core.Path.{refl, sym, ap, ◌∙◌}
use lib.ListN.{length}
use Rattle.store.specs.Mem.{mem}
use Rattle.view.specs.View.{view_of}
use Rattle.view.specs.Steps.{run}
use Rattle.view.specs.Checks.{range_checks}
use Rattle.reads.proofs.Answers.{on_formed, range_other, range_same, range_refused, range_done}
use Rattle.reads.proofs.on_formed.read_range_big_endian.Goals as goal

pub returns-then-output-n : goal.returns-then-output-n
returns-then-output-n c =
    let m = mem c.args.bytes.now c.args.keys.now c.args.order.now c.args.words.now in
    range_refused _ _ 8 _ _ refl
    (on_formed m (range_checks c.args.start.0 c.args.end.0 (length c.args.output.now)) tt c.requires
    ∙ range_other tt c.args.start.0 c.args.end.0 (length c.args.output.now) (λ e. c.if-output-n.true (e ∙ sym c.span-n.ensures)))

pub returns : goal.returns
returns c =
    let m = mem c.args.bytes.now c.args.keys.now c.args.order.now c.args.words.now in
    let e = c.if-output-n.false ∙ c.span-n.ensures in
    range_done _ _ tt _ _ _ refl
    (on_formed m (range_checks c.args.start.0 c.args.end.0 (length c.args.output.now)) tt c.requires
    ∙ range_same tt c.args.start.0 c.args.end.0 (length c.args.output.now) e)
    (c.read_into.ensures ∙ ap (run (view_of m) c.args.page.0 c.args.start.0) e)
