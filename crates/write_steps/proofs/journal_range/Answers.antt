use native.Mathlib.Omega.{arith}
use Rattle.store.specs.Mem.{mem}
use Rattle.view.specs.View.{view_of}
use Rattle.view.specs.Steps.{aligned_count, aligned_notes}
use Rattle.checks.proofs.Chosen.{layout_asks}
use Rattle.word_steps.proofs.Chains.{journal_own, journal_none}
use Rattle.write_steps.proofs.Chains.{aligned_top, aligned_asks, counted_by}
use Rattle.write_steps.proofs.journal_range.Goals as goal

pub overflow_cast-count : goal.overflow_cast-count
overflow_cast-count c =
    let h = aligned_top c.args.start.0 c.args.n c.requires.1 in let e = c.aligned-count.ensures in omega arith

pub journal_of-j-requires : goal.journal_of-j-requires
journal_of-j-requires c =
    (layout_asks (mem c.args.bytes.now c.args.keys.now c.args.order.now c.args.words.now) c.requires.0.formed).0

pub note_aligned-requires : goal.note_aligned-requires
note_aligned-requires c =
    let m = mem c.args.bytes.now c.args.keys.now c.args.order.now c.args.words.now in
    aligned_asks m c.args.page.0 c.args.start.0 c.args.n c.requires.1 c.requires.0 c.journal_of-j.result c.if-j-lt-JOURNAL_COUNT.true (c.journal_of-j.ensures.own c.if-j-lt-JOURNAL_COUNT.true) c.aligned-count.result c.aligned-count.ensures

pub returns-then-j-lt-JOURNAL_COUNT : goal.returns-then-j-lt-JOURNAL_COUNT
returns-then-j-lt-JOURNAL_COUNT c =
    let m = mem c.args.bytes.now c.args.keys.now c.args.order.now c.args.words.now in
    let j = c.journal_of-j.result in
    journal_own m c.args.page.0 c.args.start.0 c.args.n (aligned_count c.args.start.0 c.args.n) c.requires.0 (λ q. aligned_notes (view_of m) q c.args.start.0 c.args.n) j c.if-j-lt-JOURNAL_COUNT.true (c.journal_of-j.ensures.own c.if-j-lt-JOURNAL_COUNT.true) _ (counted_by m c.args.start.0 c.args.n j c.aligned-count.result c.aligned-count.ensures _ c.note_aligned.ensures)

pub returns-else-j-lt-JOURNAL_COUNT : goal.returns-else-j-lt-JOURNAL_COUNT
returns-else-j-lt-JOURNAL_COUNT c =
    let m = mem c.args.bytes.now c.args.keys.now c.args.order.now c.args.words.now in
    journal_none m c.args.page.0 c.args.start.0 c.args.n (aligned_count c.args.start.0 c.args.n) c.requires.0 (λ q. aligned_notes (view_of m) q c.args.start.0 c.args.n) (c.journal_of-j.ensures.none c.if-j-lt-JOURNAL_COUNT.false)

pub aligned-count-requires : goal.aligned-count-requires
aligned-count-requires c = let h = c.requires.1 in omega arith
