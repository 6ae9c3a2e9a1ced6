use mathlib.Core.Path.{ap, sym, ◌∙◌}
use mathlib.Core.List.{◌∷◌}
use Prim.Native.Nat.{◌+◌, ◌^◌}
use native.Mathlib.Omega.{arith}
use lib.Dec.{ltb}
use lib.ListN.{length}
use Rattle.outcome.specs.Outcome.{refused}
use Rattle.store.specs.Mem.{mem}
use Rattle.formed.proofs.Asks.{pages_asked}
use Rattle.view.specs.View.{View, setting_of, view_of}
use Rattle.view.specs.Steps.{aligned_count, aligned_notes}
use Rattle.view.specs.Checks.{capacity_checks_at}
use Rattle.view.specs.Inner.{putting}
use Rattle.bodies.proofs.Puts.{shows_then}
use Rattle.checks.proofs.Chosen.{layout_asks, touched_top, chosen_4, bytes_8}
use Rattle.word_steps.proofs.Chains.{write_done}
use Rattle.write_steps.proofs.Chains.{journal_asks, aligned_notes_same, put_asks}
use Rattle.write_steps.proofs.Passing.{range_end, range_asks, range_number, range_passes}
use Rattle.write_steps.proofs.Searched.{range_refused, range_left, range_done}
use Rattle.outcome.specs.Outcome.{status_of}
use Rattle.outcome.specs.Nonzero.{number_nonzero}
use Rattle.outcome.specs.declared.Refusal.TheVariants as Refusal
use Rattle.page_ids.proofs.Known.{told}
use Rattle.write_steps.proofs.write_range.Goals as goal

pub returns-then-is_none : goal.returns-then-is_none
returns-then-is_none c =
    let m = (mem c.args.bytes.now c.args.keys.now c.args.order.now c.args.words.now) in
    range_refused m c.args.page.0 c.args.start.0 c.args.src.now c.requires Refusal.Undecodable (chosen_4 (setting_of m) (view_of m) c.args.page.0 _ c.decode.ensures ((ltb (2 ^ 32) (c.args.start.0 + length c.args.src.now), refused 8) ∷ capacity_checks_at (setting_of m) (view_of m) c.args.page.0 c.args.start.0 (length c.args.src.now) (aligned_count c.args.start.0 (length c.args.src.now))) (told _ _ c.is_none.ensures ∙ c.if-is_none.true))

pub returns-then-src-start : goal.returns-then-src-start
returns-then-src-start c =
    let m = (mem c.args.bytes.now c.args.keys.now c.args.order.now c.args.words.now) in
    range_refused m c.args.page.0 c.args.start.0 c.args.src.now c.requires Refusal.Range (bytes_8 (setting_of m) (view_of m) c.args.page.0 _ c.decode.ensures c.args.start.0 (length c.args.src.now) (told _ _ c.is_none.ensures ∙ c.if-is_none.false) (omega (arith, c.well_formed.1.1.1.1.1.0)) c.if-src-start.true)

pub overflow_cast-count : goal.overflow_cast-count
overflow_cast-count c =
    let l = c.if-src-start.false in
    let s = c.well_formed.1.1.1.1.1.0 in
    let t = touched_top c.args.start.0 (length c.args.src.now) (omega arith) in
    omega (arith, t, c.touched-count.ensures)

pub entry_of-e-requires : goal.entry_of-e-requires
entry_of-e-requires c =
    pages_asked (mem c.args.bytes.now c.args.keys.now c.args.order.now c.args.words.now) c.requires

pub reserve-requires : goal.reserve-requires
reserve-requires c =
    let m = (mem c.args.bytes.now c.args.keys.now c.args.order.now c.args.words.now) in
    (range_asks m c.requires c.args.page.0 c.args.start.0 c.touched-count.result (omega (arith, c.well_formed.1.1.1.1.0)) (omega (arith, c.well_formed.1.1.1.1.1.0)) _ c.decode.ensures (told _ _ c.is_none.ensures ∙ c.if-is_none.false) (length c.args.src.now) c.aligned-notes.result c.if-src-start.false c.touched-count.ensures c.aligned-notes.ensures, c.entry_of-e.ensures)

pub journal_range-requires : goal.journal_range-requires
journal_range-requires c =
    let m = (mem c.args.bytes.now c.args.keys.now c.args.order.now c.args.words.now) in
    (journal_asks m c.args.page.0 c.args.start.0 (length c.args.src.now) (aligned_count c.args.start.0 (length c.args.src.now)) c.touched-count.result (range_passes m c.requires c.args.page.0 c.args.start.0 c.touched-count.result (omega (arith, c.well_formed.1.1.1.1.0)) (omega (arith, c.well_formed.1.1.1.1.1.0)) _ c.decode.ensures (told _ _ c.is_none.ensures ∙ c.if-is_none.false) (length c.args.src.now) c.aligned-notes.result c.if-src-start.false c.touched-count.ensures c.aligned-notes.ensures c.reserve.result (mem c.args.bytes.now c.reserve.new.keys c.reserve.new.order c.reserve.new.words) c.reserve.ensures (ap status_of c.in_ok-reserve.was)) (mem c.args.bytes.now c.reserve.new.keys c.reserve.new.order c.reserve.new.words) (c.reserve.ensures.held (ap status_of c.in_ok-reserve.was)), range_end m c.requires c.args.page.0 c.args.start.0 c.touched-count.result (omega (arith, c.well_formed.1.1.1.1.0)) (omega (arith, c.well_formed.1.1.1.1.1.0)) _ c.decode.ensures (told _ _ c.is_none.ensures ∙ c.if-is_none.false) (length c.args.src.now) c.aligned-notes.result c.if-src-start.false c.touched-count.ensures c.aligned-notes.ensures)

pub write_from-requires : goal.write_from-requires
write_from-requires c =
    let m = (mem c.args.bytes.now c.args.keys.now c.args.order.now c.args.words.now) in
    put_asks m c.args.page.0 c.args.start.0 c.args.src.now (aligned_count c.args.start.0 (length c.args.src.now)) c.touched-count.result (range_passes m c.requires c.args.page.0 c.args.start.0 c.touched-count.result (omega (arith, c.well_formed.1.1.1.1.0)) (omega (arith, c.well_formed.1.1.1.1.1.0)) _ c.decode.ensures (told _ _ c.is_none.ensures ∙ c.if-is_none.false) (length c.args.src.now) c.aligned-notes.result c.if-src-start.false c.touched-count.ensures c.aligned-notes.ensures c.reserve.result (mem c.args.bytes.now c.reserve.new.keys c.reserve.new.order c.reserve.new.words) c.reserve.ensures (ap status_of c.in_ok-reserve.was)) (mem c.args.bytes.now c.reserve.new.keys c.reserve.new.order c.reserve.new.words) (c.reserve.ensures.held (ap status_of c.in_ok-reserve.was)) (λ (v : View). aligned_notes v c.args.page.0 c.args.start.0 (length c.args.src.now)) (λ v w. aligned_notes_same v w c.args.page.0 c.args.start.0 (length c.args.src.now)) (mem c.journal_range.new.bytes c.reserve.new.keys c.reserve.new.order c.journal_range.new.words) c.journal_range.ensures

pub returns : goal.returns
returns c =
    let m = (mem c.args.bytes.now c.args.keys.now c.args.order.now c.args.words.now) in
    let made = c.reserve.ensures in
    let free = sym (range_number m c.requires c.args.page.0 c.args.start.0 c.touched-count.result (omega (arith, c.well_formed.1.1.1.1.0)) (omega (arith, c.well_formed.1.1.1.1.1.0)) _ c.decode.ensures (told _ _ c.is_none.ensures ∙ c.if-is_none.false) (length c.args.src.now) c.aligned-notes.result c.if-src-start.false c.touched-count.ensures c.aligned-notes.ensures c.reserve.result (mem c.args.bytes.now c.reserve.new.keys c.reserve.new.order c.reserve.new.words) made) ∙ (ap status_of c.in_ok-reserve.was) in
    range_done m c.args.page.0 c.args.start.0 c.args.src.now c.requires free _ (write_done m c.args.page.0 c.args.start.0 c.args.src.now (aligned_count c.args.start.0 (length c.args.src.now)) c.touched-count.result (range_passes m c.requires c.args.page.0 c.args.start.0 c.touched-count.result (omega (arith, c.well_formed.1.1.1.1.0)) (omega (arith, c.well_formed.1.1.1.1.1.0)) _ c.decode.ensures (told _ _ c.is_none.ensures ∙ c.if-is_none.false) (length c.args.src.now) c.aligned-notes.result c.if-src-start.false c.touched-count.ensures c.aligned-notes.ensures c.reserve.result (mem c.args.bytes.now c.reserve.new.keys c.reserve.new.order c.reserve.new.words) c.reserve.ensures (ap status_of c.in_ok-reserve.was)) (mem c.args.bytes.now c.reserve.new.keys c.reserve.new.order c.reserve.new.words) (made.held (ap status_of c.in_ok-reserve.was)) (λ (v : View). aligned_notes v c.args.page.0 c.args.start.0 (length c.args.src.now)) (λ v w. aligned_notes_same v w c.args.page.0 c.args.start.0 (length c.args.src.now)) _ (shows_then (putting c.args.page.0 c.args.start.0 c.args.src.now) c.journal_range.ensures c.write_from.ensures))

pub decode-requires : goal.decode-requires
decode-requires c = layout_asks _ c.requires

pub returns-in_err-reserve : goal.returns-in_err-reserve
returns-in_err-reserve c =
    let m = (mem c.args.bytes.now c.args.keys.now c.args.order.now c.args.words.now) in
    let made = c.reserve.ensures in
    let was = c.in_err-reserve.was in
    range_left m c.args.page.0 c.args.start.0 c.args.src.now c.requires c.reserve.result was (range_number m c.requires c.args.page.0 c.args.start.0 c.touched-count.result (omega (arith, c.well_formed.1.1.1.1.0)) (omega (arith, c.well_formed.1.1.1.1.1.0)) _ c.decode.ensures (told _ _ c.is_none.ensures ∙ c.if-is_none.false) (length c.args.src.now) c.aligned-notes.result c.if-src-start.false c.touched-count.ensures c.aligned-notes.ensures c.reserve.result (mem c.args.bytes.now c.reserve.new.keys c.reserve.new.order c.reserve.new.words) made) _ (made.kept (λ z. number_nonzero _ (sym (ap status_of was) ∙ z))) c.from_residual.result c.from_residual.ensures.1
