use mathlib.Core.Path.{refl, sym, ◌∙◌}
use Prim.Native.Nat.{◌/◌}
use native.Mathlib.Omega.{arith}
use borrow.Author.Tests.{lt-ltb, le-ltb}
use Rattle.store.specs.Mem.{mem}
use Rattle.formed.proofs.Asks.{entry_few, pages_asked}
use Rattle.formed.proofs.Hints.{find_asked}
use Rattle.view.specs.View.{setting_of, view_of}
use Rattle.view.specs.Checks.{capacity_checks_at}
use Rattle.checks.proofs.Chosen.{layout_asks, touched_top, room_chosen, chosen_4, past_4}
use Rattle.checks.proofs.Tables.{allocated_by}
use Rattle.page_ids.proofs.Known.{told}
use Rattle.checks.proofs.word_refusal.Goals as goal

pub returns-then-is_none : goal.returns-then-is_none
returns-then-is_none c =
    let m = (mem c.args.bytes.now c.args.keys.now c.args.order.now c.args.words.now) in
    chosen_4 (setting_of m) (view_of m) c.args.page.0 _ c.decode.ensures (capacity_checks_at (setting_of m) (view_of m) c.args.page.0 c.args.address.0 32 1) (told _ _ c.is_none.ensures ∙ c.if-is_none.true)

pub entry_of-e-requires : goal.entry_of-e-requires
entry_of-e-requires c =
    pages_asked (mem c.args.bytes.now c.args.keys.now c.args.order.now c.args.words.now) c.requires

pub unallocated_refusal-requires : goal.unallocated_refusal-requires
unallocated_refusal-requires c =
    (c.requires, sym (allocated_by (mem c.args.bytes.now c.args.keys.now c.args.order.now c.args.words.now) c.requires c.args.page.0 c.entry_of-e.result c.entry_of-e.ensures) ∙ le-ltb _ _ c.if-e-words.true)

pub returns-then-e-words : goal.returns-then-e-words
returns-then-e-words c =
    let m = (mem c.args.bytes.now c.args.keys.now c.args.order.now c.args.words.now) in
    past_4 (setting_of m) (view_of m) c.args.page.0 _ c.decode.ensures (capacity_checks_at (setting_of m) (view_of m) c.args.page.0 c.args.address.0 32 1) (told _ _ c.is_none.ensures ∙ c.if-is_none.false) _ (room_chosen c.args.address.0 32 _ c.touched-count.ensures (setting_of m) (view_of m) c.args.page.0 1 1 _ refl (c.unallocated_refusal.ensures (c.args.address.0 / 256) 1))

pub locate-located-requires : goal.locate-located-requires
locate-located-requires c =
    (find_asked (mem c.args.bytes.now c.args.keys.now c.args.order.now c.args.words.now) c.requires, c.entry_of-e.ensures, omega (arith, entry_few (mem c.args.bytes.now c.args.keys.now c.args.order.now c.args.words.now) c.requires c.args.page.0, c.entry_of-e.ensures), omega (arith, touched_top c.args.address.0 32 (omega (arith, c.well_formed.1.1.1.1.1.0)), c.touched-count.ensures))

pub allocated_refusal-requires : goal.allocated_refusal-requires
allocated_refusal-requires c = record { well_formed = (c.requires, c.entry_of-e.ensures, omega (arith, touched_top c.args.address.0 32 (omega (arith, c.well_formed.1.1.1.1.1.0)), c.touched-count.ensures)); locates = (c.locate-located.ensures, sym (allocated_by (mem c.args.bytes.now c.args.keys.now c.args.order.now c.args.words.now) c.requires c.args.page.0 c.entry_of-e.result c.entry_of-e.ensures) ∙ lt-ltb _ _ c.if-e-words.false, omega arith) }

pub returns : goal.returns
returns c =
    let m = (mem c.args.bytes.now c.args.keys.now c.args.order.now c.args.words.now) in
    past_4 (setting_of m) (view_of m) c.args.page.0 _ c.decode.ensures (capacity_checks_at (setting_of m) (view_of m) c.args.page.0 c.args.address.0 32 1) (told _ _ c.is_none.ensures ∙ c.if-is_none.false) _ (room_chosen c.args.address.0 32 _ c.touched-count.ensures (setting_of m) (view_of m) c.args.page.0 1 1 _ refl c.allocated_refusal.ensures)

pub decode-requires : goal.decode-requires
decode-requires c = layout_asks _ c.requires
