use mathlib.Core.List.{[]}
use native.Mathlib.Omega.{arith}
use lib.ListN.{length}
use Rattle.store.specs.Mem.{mem}
use Rattle.view.specs.View.{setting_of, view_of}
use Rattle.checks.proofs.Passed.{allocate_passed}
use Rattle.write_steps.proofs.Chains.{contents_cleared, contents_unjournalled, count_small, prepare_asks, plain_asks, plain_done}
use Rattle.write_steps.proofs.fill.Goals as goal

pub overflow_cast-count : goal.overflow_cast-count
overflow_cast-count c =
    let m = mem c.args.bytes.now c.args.keys.now c.args.order.now c.args.words.now in
    let cleared = contents_cleared m c.args.page.0 (length c.args.contents.now) c.touched-count.result (omega (arith, c.well_formed.1.1.1.1.0)) c.requires c.touched-count.ensures in
    let h = count_small m c.args.page.0 0 (length c.args.contents.now) 0 c.touched-count.result cleared in omega arith

pub prepare_unallocated-requires : goal.prepare_unallocated-requires
prepare_unallocated-requires c =
    let m = mem c.args.bytes.now c.args.keys.now c.args.order.now c.args.words.now in
    let cleared = contents_cleared m c.args.page.0 (length c.args.contents.now) c.touched-count.result (omega (arith, c.well_formed.1.1.1.1.0)) c.requires c.touched-count.ensures in
    (prepare_asks m c.args.page.0 0 (length c.args.contents.now) 0 c.touched-count.result cleared, (allocate_passed (setting_of m) (view_of m) c.args.page.0 0 (length c.args.contents.now) c.requires.1).2)

pub write_from-requires : goal.write_from-requires
write_from-requires c =
    let m = mem c.args.bytes.now c.args.keys.now c.args.order.now c.args.words.now in
    let cleared = contents_cleared m c.args.page.0 (length c.args.contents.now) c.touched-count.result (omega (arith, c.well_formed.1.1.1.1.0)) c.requires c.touched-count.ensures in
    plain_asks m c.args.page.0 0 c.args.contents.now 0 c.touched-count.result cleared (mem c.args.bytes.now c.prepare_unallocated.new.keys c.prepare_unallocated.new.order c.prepare_unallocated.new.words) c.prepare_unallocated.ensures

pub returns : goal.returns
returns c =
    let m = mem c.args.bytes.now c.args.keys.now c.args.order.now c.args.words.now in
    let cleared = contents_cleared m c.args.page.0 (length c.args.contents.now) c.touched-count.result (omega (arith, c.well_formed.1.1.1.1.0)) c.requires c.touched-count.ensures in
    plain_done m c.args.page.0 0 c.args.contents.now 0 c.touched-count.result cleared (mem c.args.bytes.now c.prepare_unallocated.new.keys c.prepare_unallocated.new.order c.prepare_unallocated.new.words) c.prepare_unallocated.ensures [] (contents_unjournalled m c.args.page.0 (length c.args.contents.now) c.requires) _ c.write_from.ensures
