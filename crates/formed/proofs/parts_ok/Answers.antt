use Rattle.std.proofs.Common.{◌≡◌, ◌∙◌, true, sym, ap, arith, length}
use Rattle.std.proofs.lemmas.Bool.{false≢true}
use Rattle.index.specs.Index.{used_count}
use Rattle.store.specs.Mem.{mem}
use Rattle.formed.proofs.Sizes.{holders_long}
use Rattle.formed.proofs.Stages.{tables_used}
use Rattle.formed.proofs.parts_ok.Goals as goal
use Rattle.formed.proofs.parts_ok.Goals.{Then-slots_ok, then-tables_ok, else-tables_ok, then-pages_ok, else-pages_ok}

tables : (c : Then-slots_ok) → c.tables_ok.result ≡ true
tables c =
    elim c.if-pages_ok.branch [
      | then-pages_ok w ↦ elim c.if-tables_ok.branch [ then-tables_ok v ↦ v.if-tables_ok.true | else-tables_ok v ↦ sym v.value-is ∙ w.if-pages_ok.true ]
      | else-pages_ok w ↦ absurd (false≢true (sym w.if-pages_ok.false ∙ sym w.value-is ∙ c.if-slots_ok.true))
    ]

pub pool_ok-requires : goal.pool_ok-requires
pool_ok-requires c =
    let m = mem c.args.bytes.now c.args.keys.now c.args.order.now c.args.words.now in
    (c.requires.lengths.chunks_hi, omega (arith, c.requires.lengths.in_words), ap length c.split_at.ensures.front ∙ holders_long m c.requires.lengths, ap used_count c.split_at.ensures.front ∙ tables_used m (sym c.tables_ok.ensures ∙ tables c))
