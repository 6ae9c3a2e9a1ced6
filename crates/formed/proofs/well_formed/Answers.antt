use Rattle.std.proofs.Common.{◌∙◌, sym, arith}
use Rattle.std.proofs.lemmas.Bool.{false≢true}
use Rattle.store.specs.Mem.{mem}
use Rattle.formed.proofs.Sizes.{lengths_are_lem}
use Rattle.formed.proofs.Stages.{head_narrow}
use Rattle.formed.proofs.well_formed.Goals as goal
use Rattle.formed.proofs.well_formed.Goals.{Then-head_ok, then-sized_ok, else-sized_ok}

pub head_ok-requires : goal.head_ok-requires
head_ok-requires c =
    let h = (lengths_are_lem (mem c.args.bytes.now c.args.keys.now c.args.order.now c.args.words.now) (sym c.sized_ok.ensures ∙ c.if-sized_ok.true)).in_words in omega arith

pub parts_ok-requires : goal.parts_ok-requires
parts_ok-requires c =
    elim c.if-sized_ok.branch [
      | then-sized_ok w ↦ record { lengths = lengths_are_lem (mem c.args.bytes.now c.args.keys.now c.args.order.now c.args.words.now) (sym c.sized_ok.ensures ∙ w.if-sized_ok.true); words_value = head_narrow c.args.words.now (sym w.head_ok.ensures ∙ sym w.value-is ∙ c.if-head_ok.true) }
      | else-sized_ok w ↦ absurd (false≢true (sym w.if-sized_ok.false ∙ sym w.value-is ∙ c.if-head_ok.true))
    ]
