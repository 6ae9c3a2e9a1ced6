use Rattle.formed.proofs.Meaning.{pooling_of}
use mathlib.Core.Bool.{Bool}
use mathlib.Core.Path.{◌≡◌, sym, ap, ◌∙◌, subst}
use Prim.Native.Nat.{ℕ, ◌+◌, ◌-◌, ◌≤◌, ◌<◌}
use native.Mathlib.Omega.{arith}
use lib.Dec.{ltb}
use borrow.Author.Rules.{rules}
use borrow.Author.Tests.{leb-true, leb-false}
use Rattle.index.specs.Index.{seek}
use Rattle.store.specs.Mem.{mem, holders, slot_count}
use Rattle.store.specs.Keys.{last_chunk, key_of}
use Rattle.store.specs.Indexed.{Ranked}
use Rattle.store.proofs.Slots.{ranked_next, ranked_same}
use Rattle.pool.proofs.Holds.{held_le}
use Rattle.formed.specs.Parts.{pool}
use Rattle.formed.proofs.Asks.{entry_few, slots_asked}
use Rattle.view.specs.Steps as spec
use Rattle.checks.proofs.Ranges.{counted_lack, counted_has, over_pool, within_pool, enough}
use Rattle.checks.proofs.Tables.{holds_at, held_at, found_held, found_none, located_none, located_rank}
use Rattle.checks.proofs.short_of_chunks.Goals as goal
use Rattle.checks.proofs.short_of_chunks.Goals.{then-slot_at_rank-c, else-slot_at_rank-c+else-missing-pool}

pub overflow_sub-known : goal.overflow_sub-known
overflow_sub-known c =
    omega (arith, c.requires.locates.from)

pub overflow_sub-count : goal.overflow_sub-count
overflow_sub-count c =
    omega (arith, c.requires.locates.to)

pub has_pooled-requires : goal.has_pooled-requires
has_pooled-requires c =
    (pooling_of (mem c.args.bytes.now c.args.keys.now c.args.order.now c.args.words.now) c.requires.well_formed.0).part

pub returns-then-has_pooled : goal.returns-then-has_pooled
returns-then-has_pooled c =
    let m = (mem c.args.bytes.now c.args.keys.now c.args.order.now c.args.words.now) in
    enough (holds_at m.keys m.words c.args.e) c.args.first (c.args.located.chunk - c.args.first) c.args.count (pool m) (omega (arith, c.requires.locates.from, c.requires.locates.to)) (located_none m.keys m.order m.words c.args.e c.args.page.0 c.args.first c.args.count c.args.located.chunk c.args.located.rank c.requires.well_formed.1 c.requires.well_formed.2 c.requires.locates) (leb-true _ _ (sym c.has_pooled.ensures ∙ c.if-has_pooled.true))
    ∙ ap (λ (has : ℕ → Bool). ltb (pool m) (spec.missing has c.args.first c.args.count)) (held_at m c.args.page.0 c.args.e c.requires.well_formed.1)

pub pool_count-pool-requires : goal.pool_count-pool-requires
pool_count-pool-requires c =
    (pooling_of (mem c.args.bytes.now c.args.keys.now c.args.order.now c.args.words.now) c.requires.well_formed.0).part

pub key_of-k-requires : goal.key_of-k-requires
key_of-k-requires c =
    let few = entry_few (mem c.args.bytes.now c.args.keys.now c.args.order.now c.args.words.now) c.requires.well_formed.0 c.args.page.0 in
    (omega (arith, few, c.requires.well_formed.1), omega (arith, c.requires.well_formed.2))

pub loop-i-init : goal.loop-i-init
loop-i-init c =
    let m = (mem c.args.bytes.now c.args.keys.now c.args.order.now c.args.words.now) in
    (omega (arith, c.requires.locates.from, c.requires.locates.to), search rules, sym (located_none m.keys m.order m.words c.args.e c.args.page.0 c.args.first c.args.count c.args.located.chunk c.args.located.rank c.requires.well_formed.1 c.requires.well_formed.2 c.requires.locates), located_rank m.keys m.order m.words c.args.e c.args.page.0 c.args.first c.args.count c.args.located.chunk c.args.located.rank c.requires.well_formed.1 c.requires.well_formed.2 c.requires.locates (let less = leb-false (c.args.count - (c.args.located.chunk - c.args.first)) (pool m) (sym c.has_pooled.ensures ∙ c.if-has_pooled.false) in omega (arith, less, c.requires.locates.from)))

pub overflow_add-k : goal.overflow_add-k
overflow_add-k c =
    omega (arith, c.key_of-k.ensures, c.loop-i-test.true, c.requires.well_formed.2, c.requires.well_formed.1, entry_few (mem c.args.bytes.now c.args.keys.now c.args.order.now c.args.words.now) c.requires.well_formed.0 c.args.page.0)

pub slot_at_rank-requires : goal.slot_at_rank-requires
slot_at_rank-requires c =
    (slots_asked (mem c.args.bytes.now c.args.keys.now c.args.order.now c.args.words.now) c.requires.well_formed.0, subst (λ (x : ℕ). Ranked c.args.keys.now c.args.order.now c.args.words.now x c.loop-i.at) (omega (arith, c.key_of-k.ensures)) c.loop-i.invariant.3, omega (arith, c.key_of-k.ensures))

pub overflow_add-at : goal.overflow_add-at
overflow_add-at c =
    let ix = slots_asked (mem c.args.bytes.now c.args.keys.now c.args.order.now c.args.words.now) c.requires.well_formed.0 in
    omega (arith, held_le _ _ _ ix, ix.few, c.loop-i.invariant.3.within)

pub returns-then-missing-pool : goal.returns-then-missing-pool
returns-then-missing-pool c =
    let m = (mem c.args.bytes.now c.args.keys.now c.args.order.now c.args.words.now) in
    let key : c.key_of-k.result + c.loop-i.i ≡ key_of c.args.e (c.args.first + c.loop-i.i) = omega (arith, c.key_of-k.ensures) in
    let none = found_none m.keys m.words c.args.e (c.args.first + c.loop-i.i) (omega (arith, c.loop-i-test.true, c.requires.well_formed.2)) (omega (arith, ap (λ (x : ℕ). seek (holders m) x) key, c.slot_at_rank.ensures, c.if-slot_at_rank-c.false)) in
    over_pool (holds_at m.keys m.words c.args.e) c.args.first c.loop-i.i c.args.count _ _ c.loop-i-test.true none c.loop-i.invariant.2 (c.if-missing-pool.true ∙ c.pool_count-pool.ensures)
    ∙ ap (λ (has : ℕ → Bool). ltb (pool m) (spec.missing has c.args.first c.args.count)) (held_at m c.args.page.0 c.args.e c.requires.well_formed.1)

pub loop-i-preserved : goal.loop-i-preserved
loop-i-preserved c =
    let m = (mem c.args.bytes.now c.args.keys.now c.args.order.now c.args.words.now) in
    let ix = slots_asked m c.requires.well_formed.0 in
    let e = c.args.e in
    let k = c.args.first + c.loop-i.i in
    let key : c.key_of-k.result + c.loop-i.i ≡ key_of e k = omega (arith, c.key_of-k.ensures) in
    let same = ap (λ (x : ℕ). seek (holders m) x) key in
    let near : k ≤ last_chunk = omega (arith, c.loop-i-test.true, c.requires.well_formed.2) in
    let next : key_of e k + 1 ≡ key_of e (c.args.first + (c.loop-i.i + 1)) = omega arith in
    elim c.if-slot_at_rank-c.branch [
      | then-slot_at_rank-c w ↦
          let l : seek (holders m) (key_of e k) < slot_count m.words = omega (arith, same, c.slot_at_rank.ensures, w.if-slot_at_rank-c.true) in
          (omega (arith, c.loop-i-test.true), omega (arith, w.missing-is, c.loop-i.invariant.1), w.missing-is ∙ counted_has (holds_at m.keys m.words e) c.args.first c.loop-i.i _ (found_held m.keys m.words e k near l) c.loop-i.invariant.2, subst (λ (x : ℕ). Ranked m.keys m.order m.words x c.if-slot_at_rank-c.at) next (subst (Ranked m.keys m.order m.words (key_of e k + 1)) (sym w.at-is) (ranked_next m.keys m.order m.words ix (key_of e k) c.loop-i.at (omega arith) c.loop-i.invariant.3 l)))
      | else-slot_at_rank-c+else-missing-pool w ↦
          let l : slot_count m.words ≤ seek (holders m) (key_of e k) = omega (arith, same, c.slot_at_rank.ensures, w.if-slot_at_rank-c.false) in
          (omega (arith, c.loop-i-test.true), omega (arith, w.if-missing-pool.false, w.missing-is, c.loop-i.invariant.1), w.missing-is ∙ counted_lack (holds_at m.keys m.words e) c.args.first c.loop-i.i _ (found_none m.keys m.words e k near l) c.loop-i.invariant.2, subst (λ (x : ℕ). Ranked m.keys m.order m.words x c.if-slot_at_rank-c.at) next (subst (Ranked m.keys m.order m.words (key_of e k + 1)) (sym w.at-is) (ranked_same m.keys m.order m.words ix (key_of e k) c.loop-i.at (omega arith) c.loop-i.invariant.3 l)))
    ]

pub returns : goal.returns
returns c =
    let m = (mem c.args.bytes.now c.args.keys.now c.args.order.now c.args.words.now) in
    within_pool (holds_at m.keys m.words c.args.e) c.args.first c.args.count (pool m) _ c.loop-i.i c.loop-i.invariant.0 c.loop-i-test.false c.loop-i.invariant.2 (omega (arith, c.loop-i.invariant.1, c.pool_count-pool.ensures))
    ∙ ap (λ (has : ℕ → Bool). ltb (pool m) (spec.missing has c.args.first c.args.count)) (held_at m c.args.page.0 c.args.e c.requires.well_formed.1)
