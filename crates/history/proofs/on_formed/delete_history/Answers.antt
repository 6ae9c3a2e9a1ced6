use mathlib.Core.Path.{refl}
use mathlib.Core.List.{[]}
use Rattle.store.specs.Mem.{mem}
use Rattle.view.specs.View.{setting_of, view_of}
use Rattle.view.specs.Calls.{DeleteHistory, next_of}
use Rattle.view.proofs.Refused.{end, done_does}
use Rattle.history.proofs.on_formed.delete_history.Goals as goal

pub returns : goal.returns
returns c =
    let m = mem c.args.bytes.now c.args.keys.now c.args.order.now c.args.words.now in
    done_does m c.requires [] (setting_of m) (next_of (setting_of m) DeleteHistory (view_of m)) end refl c.forget.ensures
