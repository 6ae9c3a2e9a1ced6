use mathlib.Core.Path.{ap, refl, sym, ◌∙◌}
use native.Mathlib.Omega.{arith}
use lib.ListN.{length}
use Rattle.word.specs.Value.{value, word_bytes}
use Rattle.word.proofs.Digits.{digits_long}
use Rattle.store.specs.Mem.{mem}
use Rattle.view.specs.View.{View, setting_of, view_of}
use Rattle.view.specs.Steps.{word_notes}
use Rattle.view.specs.Checks.{capacity_checks_at}
use Rattle.checks.proofs.Chosen.{layout_asks, chosen_4}
use Rattle.word_steps.proofs.Chains.{word_notes_same, write_done}
use Rattle.write_steps.proofs.Chains.{journal_asks}
use Rattle.write_steps.proofs.Passing.{word_asks, word_number, word_passes}
use Rattle.write_steps.proofs.Searched.{searched_refused, searched_left, searched_done}
use Rattle.outcome.specs.Outcome.{status_of}
use Rattle.outcome.specs.Nonzero.{number_nonzero}
use Rattle.outcome.specs.declared.Refusal.TheVariants as Refusal
use Rattle.page_ids.proofs.Known.{told}
use Rattle.write_steps.proofs.write_any.Goals as goal

pub returns-then-is_none : goal.returns-then-is_none
returns-then-is_none c =
    let m = (mem c.args.bytes.now c.args.keys.now c.args.order.now c.args.words.now) in
    searched_refused m c.args.page.0 c.args.address.0 (value c.args.word.limbs) c.requires.0 Refusal.Undecodable (chosen_4 (setting_of m) (view_of m) c.args.page.0 _ c.decode.ensures (capacity_checks_at (setting_of m) (view_of m) c.args.page.0 c.args.address.0 32 1) (told _ _ c.is_none.ensures ∙ c.if-is_none.true))

pub overflow_cast-count : goal.overflow_cast-count
overflow_cast-count c =
    omega (arith, c.touched-count.ensures)

pub reserve-requires : goal.reserve-requires
reserve-requires c =
    let m = (mem c.args.bytes.now c.args.keys.now c.args.order.now c.args.words.now) in
    (word_asks m c.requires.0 c.args.page.0 c.args.address.0 c.touched-count.result (omega (arith, c.well_formed.1.1.1.1.0)) (omega (arith, c.well_formed.1.1.1.1.1.0)) _ c.decode.ensures (told _ _ c.is_none.ensures ∙ c.if-is_none.false) c.touched-count.ensures, c.requires.1)

pub write_held-requires : goal.write_held-requires
write_held-requires c =
    let m = (mem c.args.bytes.now c.args.keys.now c.args.order.now c.args.words.now) in
    let made = c.reserve.ensures in
    journal_asks m c.args.page.0 c.args.address.0 32 1 c.touched-count.result (word_passes m c.requires.0 c.args.page.0 c.args.address.0 c.touched-count.result (omega (arith, c.well_formed.1.1.1.1.0)) (omega (arith, c.well_formed.1.1.1.1.1.0)) _ c.decode.ensures (told _ _ c.is_none.ensures ∙ c.if-is_none.false) c.touched-count.ensures c.reserve.result (mem c.args.bytes.now c.reserve.new.keys c.reserve.new.order c.reserve.new.words) made (ap status_of c.in_ok-reserve.was) 32 refl) (mem c.args.bytes.now c.reserve.new.keys c.reserve.new.order c.reserve.new.words) (made.held (ap status_of c.in_ok-reserve.was))

pub returns : goal.returns
returns c =
    let m = (mem c.args.bytes.now c.args.keys.now c.args.order.now c.args.words.now) in
    let made = c.reserve.ensures in
    let free = sym (word_number m c.requires.0 c.args.page.0 c.args.address.0 c.touched-count.result (omega (arith, c.well_formed.1.1.1.1.0)) (omega (arith, c.well_formed.1.1.1.1.1.0)) _ c.decode.ensures (told _ _ c.is_none.ensures ∙ c.if-is_none.false) c.touched-count.ensures c.reserve.result (mem c.args.bytes.now c.reserve.new.keys c.reserve.new.order c.reserve.new.words) made) ∙ (ap status_of c.in_ok-reserve.was) in
    let bs = word_bytes (value c.args.word.limbs) in
    searched_done m c.args.page.0 c.args.address.0 (value c.args.word.limbs) c.requires.0 free _ (write_done m c.args.page.0 c.args.address.0 bs 1 c.touched-count.result (word_passes m c.requires.0 c.args.page.0 c.args.address.0 c.touched-count.result (omega (arith, c.well_formed.1.1.1.1.0)) (omega (arith, c.well_formed.1.1.1.1.1.0)) _ c.decode.ensures (told _ _ c.is_none.ensures ∙ c.if-is_none.false) c.touched-count.ensures c.reserve.result (mem c.args.bytes.now c.reserve.new.keys c.reserve.new.order c.reserve.new.words) made (ap status_of c.in_ok-reserve.was) (length bs) (digits_long 32 (value c.args.word.limbs))) (mem c.args.bytes.now c.reserve.new.keys c.reserve.new.order c.reserve.new.words) (made.held (ap status_of c.in_ok-reserve.was)) (λ (v : View). word_notes v c.args.page.0 c.args.address.0) (λ v w. word_notes_same v w c.args.page.0 c.args.address.0) _ c.write_held.ensures)

pub decode-requires : goal.decode-requires
decode-requires c = layout_asks _ c.requires.0

pub returns-in_err-reserve : goal.returns-in_err-reserve
returns-in_err-reserve c =
    let m = (mem c.args.bytes.now c.args.keys.now c.args.order.now c.args.words.now) in
    let made = c.reserve.ensures in
    let was = c.in_err-reserve.was in
    searched_left m c.args.page.0 c.args.address.0 (value c.args.word.limbs) c.requires.0 c.reserve.result was (word_number m c.requires.0 c.args.page.0 c.args.address.0 c.touched-count.result (omega (arith, c.well_formed.1.1.1.1.0)) (omega (arith, c.well_formed.1.1.1.1.1.0)) _ c.decode.ensures (told _ _ c.is_none.ensures ∙ c.if-is_none.false) c.touched-count.ensures c.reserve.result (mem c.args.bytes.now c.reserve.new.keys c.reserve.new.order c.reserve.new.words) made) _ (made.kept (λ z. number_nonzero _ (sym (ap status_of was) ∙ z))) c.from_residual.result c.from_residual.ensures.1
