use mathlib.Core.Path.{sym, ap, ◌∙◌, subst}
use Prim.Native.Nat.{ℕ, ◌+◌, ◌<◌}
use native.Mathlib.Omega.{arith}
use Rattle.store.specs.Keys.{key_of}
use Rattle.store.specs.Indexed.{Ranked}
use Rattle.store.specs.Mem.{mem}
use Rattle.reserve.proofs.Reserving.{rest_asks, rest_held, all_held}
use Rattle.reserve.proofs.prepare_allocated.Goals as goal

pub returns-then-rest-eq0 : goal.returns-then-rest-eq0
returns-then-rest-eq0 c =
    all_held (mem c.args.bytes.now c.args.keys.now c.args.order.now c.args.words.now) c.args.page.0 c.args.first c.args.count c.requires.prepare_asks.0 c.args.e c.requires.prepare_asks.1 c.requires.prepare_asks.2 c.args.located.chunk c.args.located.rank c.requires.locates c.if-rest-eq0.true

pub hold_chunks-requires : goal.hold_chunks-requires
hold_chunks-requires c =
    let l = c.requires.locates in
    let more : c.args.located.chunk < c.args.first + c.args.count = omega (arith, l.to, c.if-rest-eq0.false) in
    let key = c.key_of-k.ensures ∙ ap (λ (x : ℕ). key_of x c.args.located.chunk) c.requires.prepare_asks.1 in record { hold_asks = rest_asks (mem c.args.bytes.now c.args.keys.now c.args.order.now c.args.words.now) c.args.page.0 c.args.first c.args.count c.requires.prepare_asks.0 c.args.e c.requires.prepare_asks.1 c.requires.prepare_asks.2 c.args.located.chunk c.args.located.rank c.requires.locates; k_value = (key, subst (λ (x : ℕ). Ranked c.args.keys.now c.args.order.now c.args.words.now x c.args.located.rank) (sym key) (l.ranked more)) }

pub returns : goal.returns
returns c =
    rest_held (mem c.args.bytes.now c.args.keys.now c.args.order.now c.args.words.now) c.args.page.0 c.args.first c.args.count c.requires.prepare_asks.0 c.args.e c.requires.prepare_asks.1 c.requires.prepare_asks.2 c.args.located.chunk c.args.located.rank c.requires.locates _ c.hold_chunks.ensures
