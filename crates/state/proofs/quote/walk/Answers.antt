use Rattle.std.proofs.Common.{◌≡◌, ℕ, suc, ◌+◌, length, get_or, drop, sym, refl, ap, ◌∙◌, arith}
use borrow.Author.Tests.{not-true, not-false}
use Rattle.state.proofs.Laws.{accessed_less, walked_on, walked_stops, walked_end}
use Rattle.state.specs.Quote.{walked}
use Rattle.state.proofs.quote.walk.Goals as goal

pub returns-then-not-grown : goal.returns-then-not-grown
returns-then-not-grown c =
    sym
    (c.loop-i.invariant.1
    ∙ walked_stops c.args.gas c.args.list.now c.loop-i.i c.loop-i.left c.loop-i.reached (omega (arith, c.loop-i-test.true)) c.access-grown.ensures (not-true _ c.if-not-grown.true))

pub loop-i-preserved : goal.loop-i-preserved
loop-i-preserved c =
    let i = c.loop-i.i in
    let next : suc i ≡ i + 1 = omega arith in (
      omega (arith, accessed_less c.loop-i.left c.loop-i.reached (get_or c.args.list.now i 0) c.args.gas c.loop-i.invariant.0 c.access-grown.ensures),
      c.loop-i.invariant.1
          ∙ walked_on c.args.gas c.args.list.now i c.loop-i.left c.loop-i.reached (omega (arith, c.loop-i-test.true)) c.access-grown.ensures (not-false _ c.if-not-grown.false)
          ∙ ap (λ (k : ℕ). walked c.args.gas (drop k c.args.list.now) c.access-grown.result.gas c.access-grown.result.bound k) next,
    )

pub returns : goal.returns
returns c =
    let list = c.args.list.now in
    let ended : c.loop-i.i ≡ length list = omega (arith, c.loop-i.auto.i-end, c.loop-i-test.false) in
    sym ((rw ended at c.loop-i.invariant.1) ∙ walked_end c.args.gas list (length list) c.loop-i.left c.loop-i.reached refl)
