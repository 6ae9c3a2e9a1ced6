use native.Mathlib.Omega.{arith}
use Rattle.store.specs.Mem.{mem}
use Rattle.view.specs.View.{view_of}
use Rattle.view.specs.Steps.{word_notes}
use Rattle.checks.proofs.Chosen.{layout_asks}
use Rattle.word_steps.proofs.Chains.{note_asks, journal_own, journal_none}
use Rattle.word_steps.proofs.Words.{word_journal, word_slots}
use Rattle.word_steps.proofs.journal_found.Goals as goal

pub journal_of-j-requires : goal.journal_of-j-requires
journal_of-j-requires c =
    (layout_asks (mem c.args.bytes.now c.args.keys.now c.args.order.now c.args.words.now) c.requires.found.formed).0

pub note_found-requires : goal.note_found-requires
note_found-requires c =
    let m = mem c.args.bytes.now c.args.keys.now c.args.order.now c.args.words.now in
    let asks = word_journal m c.args.page.0 c.args.address.0 c.args.s c.args.t c.requires (omega (arith, c.well_formed.1.1.1.1.1.0)) in
    let own = c.journal_of-j.ensures.own c.if-j-lt-JOURNAL_COUNT.true in record { note_asks = note_asks m c.args.page.0 c.args.address.0 (omega (arith, c.well_formed.1.1.1.1.1.0)) asks c.journal_of-j.result c.if-j-lt-JOURNAL_COUNT.true own; note_slots = word_slots m c.args.page.0 c.args.address.0 c.args.s c.args.t c.requires (omega (arith, c.well_formed.1.1.1.1.1.0)) c.journal_of-j.result own }

pub returns-then-j-lt-JOURNAL_COUNT : goal.returns-then-j-lt-JOURNAL_COUNT
returns-then-j-lt-JOURNAL_COUNT c =
    let m = mem c.args.bytes.now c.args.keys.now c.args.order.now c.args.words.now in
    let asks = word_journal m c.args.page.0 c.args.address.0 c.args.s c.args.t c.requires (omega (arith, c.well_formed.1.1.1.1.1.0)) in
    journal_own m c.args.page.0 c.args.address.0 32 1 asks (λ q. word_notes (view_of m) q c.args.address.0) c.journal_of-j.result c.if-j-lt-JOURNAL_COUNT.true (c.journal_of-j.ensures.own c.if-j-lt-JOURNAL_COUNT.true) _ c.note_found.ensures

pub returns-else-j-lt-JOURNAL_COUNT : goal.returns-else-j-lt-JOURNAL_COUNT
returns-else-j-lt-JOURNAL_COUNT c =
    let m = mem c.args.bytes.now c.args.keys.now c.args.order.now c.args.words.now in
    let asks = word_journal m c.args.page.0 c.args.address.0 c.args.s c.args.t c.requires (omega (arith, c.well_formed.1.1.1.1.1.0)) in
    journal_none m c.args.page.0 c.args.address.0 32 1 asks (λ q. word_notes (view_of m) q c.args.address.0) (c.journal_of-j.ensures.none c.if-j-lt-JOURNAL_COUNT.false)
