use mathlib.Core.Path.{refl, sym, ap, ◌∙◌}
use Prim.Native.Nat.{ℕ, ◌+◌, ◌/◌, ◌<◌}
use native.Mathlib.Omega.{arith}
use Rattle.word.specs.Value.{value}
use Rattle.store.specs.Keys.{key_of}
use Rattle.store.specs.Mem.{mem, page_count}
use Rattle.formed.specs.Parts.{entry_of}
use Rattle.formed.proofs.Asks.{slots_asked}
use Rattle.write_steps.proofs.Searched.{searched_left}
use Rattle.reserve.proofs.Reserving.{entry_listed}
use Rattle.write_steps.proofs.One.{one_place, one_hold, one_asks, one_does}
use Rattle.outcome.specs.Outcome.{status_of}
use Rattle.write_steps.proofs.write_one.Goals as goal

pub rank_of-at-requires : goal.rank_of-at-requires
rank_of-at-requires c =
    slots_asked (mem c.args.bytes.now c.args.keys.now c.args.order.now c.args.words.now) c.requires.well_formed.0

pub slot_at_rank-s-requires : goal.slot_at_rank-s-requires
slot_at_rank-s-requires c =
    (slots_asked (mem c.args.bytes.now c.args.keys.now c.args.order.now c.args.words.now) c.requires.well_formed.0, c.rank_of-at.ensures, omega (arith, c.key_of-k.ensures))

pub one_chunk_refusal-requires : goal.one_chunk_refusal-requires
one_chunk_refusal-requires c =
    let m = (mem c.args.bytes.now c.args.keys.now c.args.order.now c.args.words.now) in record { well_formed = (c.requires.well_formed.0, one_place m c.args.page.0 c.args.address.0 c.args.e c.key_of-k.result c.slot_at_rank-s.result (omega (arith, c.well_formed.1.1.1.1.1.0)) c.requires.e_value.0 c.key_of-k.ensures c.slot_at_rank-s.ensures); page_value = (entry_listed m c.requires.well_formed.0 c.args.page.0 c.args.e c.requires.e_value.0 c.requires.e_value.1, c.requires.well_formed.1) }

pub hold_at-held-requires : goal.hold_at-held-requires
hold_at-held-requires c =
    let m = (mem c.args.bytes.now c.args.keys.now c.args.order.now c.args.words.now) in
    let is = c.requires.e_value.0 in
    let there : entry_of m c.args.page.0 < page_count c.args.words.now + 4 = omega (arith, is, c.requires.e_value.1) in
    let free = sym c.one_chunk_refusal.ensures ∙ (ap status_of c.in_ok-one_chunk_refusal.was) in record { hold_asks = one_hold m c.requires.well_formed.0 c.args.page.0 c.args.address.0 (omega (arith, c.well_formed.1.1.1.1.0)) (omega (arith, c.well_formed.1.1.1.1.1.0)) c.requires.well_formed.1 there free; k_value = (c.key_of-k.ensures ∙ ap (λ (x : ℕ). key_of x (c.args.address.0 / 256)) is, c.rank_of-at.ensures) }

pub write_at-requires : goal.write_at-requires
write_at-requires c =
    let m = (mem c.args.bytes.now c.args.keys.now c.args.order.now c.args.words.now) in
    let is = c.requires.e_value.0 in
    let there : entry_of m c.args.page.0 < page_count c.args.words.now + 4 = omega (arith, is, c.requires.e_value.1) in
    let free = sym c.one_chunk_refusal.ensures ∙ (ap status_of c.in_ok-one_chunk_refusal.was) in
    one_asks m c.requires.well_formed.0 c.args.page.0 c.args.address.0 (omega (arith, c.well_formed.1.1.1.1.0)) (omega (arith, c.well_formed.1.1.1.1.1.0)) c.requires.well_formed.1 there free (mem c.args.bytes.now c.hold_at-held.new.keys c.hold_at-held.new.order c.hold_at-held.new.words) c.hold_at-held.ensures.shows _ c.hold_at-held.ensures.value.0 c.hold_at-held.ensures.value.1

pub returns : goal.returns
returns c =
    let m = (mem c.args.bytes.now c.args.keys.now c.args.order.now c.args.words.now) in
    let is = c.requires.e_value.0 in
    let there : entry_of m c.args.page.0 < page_count c.args.words.now + 4 = omega (arith, is, c.requires.e_value.1) in
    let free = sym c.one_chunk_refusal.ensures ∙ (ap status_of c.in_ok-one_chunk_refusal.was) in
    one_does m c.requires.well_formed.0 c.args.page.0 c.args.address.0 (omega (arith, c.well_formed.1.1.1.1.0)) (omega (arith, c.well_formed.1.1.1.1.1.0)) c.requires.well_formed.1 there free (mem c.args.bytes.now c.hold_at-held.new.keys c.hold_at-held.new.order c.hold_at-held.new.words) c.hold_at-held.ensures.shows (value c.args.word.limbs) _ c.write_at.ensures

pub returns-in_err-one_chunk_refusal : goal.returns-in_err-one_chunk_refusal
returns-in_err-one_chunk_refusal c =
    let m = mem c.args.bytes.now c.args.keys.now c.args.order.now c.args.words.now in
    searched_left m c.args.page.0 c.args.address.0 (value c.args.word.limbs) c.requires.well_formed.0 c.one_chunk_refusal.result c.in_err-one_chunk_refusal.was c.one_chunk_refusal.ensures m refl c.from_residual.result c.from_residual.ensures.1
