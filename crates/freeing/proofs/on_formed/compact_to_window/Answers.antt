use mathlib.Core.Path.{refl}
use mathlib.Core.List.{[]}
use Rattle.index.proofs.Logic.{passed, failed}
use Rattle.store.specs.Mem.{mem}
use Rattle.view.specs.View.{setting_of, view_of}
use Rattle.view.specs.Calls.{Call, next_of}
use Rattle.view.proofs.Refused.{end, done_does}
use Rattle.free_steps.proofs.Windows.{window_none}
use Rattle.freeing.proofs.Calls.{both_asked}
use Rattle.freeing.proofs.on_formed.compact_to_window.Goals as goal

pub returns-then-not-is_dynamic : goal.returns-then-not-is_dynamic
returns-then-not-is_dynamic c =
    let m = mem c.args.bytes.now c.args.keys.now c.args.order.now c.args.words.now in
    done_does m c.requires [] (setting_of m) (next_of (setting_of m) (Call.Window c.args.page.0 c.args.start.0 c.args.length) (view_of m)) end refl (window_none c.args.start.0 c.args.length m c.args.page.0 c.requires (failed c.is_dynamic.ensures c.if-not-is_dynamic.true))

pub retain_window-requires : goal.retain_window-requires
retain_window-requires c =
    let m = mem c.args.bytes.now c.args.keys.now c.args.order.now c.args.words.now in
    both_asked m c.args.page.0 c.requires (passed c.is_dynamic.ensures c.if-not-is_dynamic.false)

pub returns : goal.returns
returns c =
    let m = mem c.args.bytes.now c.args.keys.now c.args.order.now c.args.words.now in
    done_does m c.requires [] (setting_of m) (next_of (setting_of m) (Call.Window c.args.page.0 c.args.start.0 c.args.length) (view_of m)) end refl c.retain_window.ensures
