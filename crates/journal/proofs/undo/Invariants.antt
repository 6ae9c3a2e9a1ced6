use Prim.Native.Nat.{◌≤◌}
use Rattle.store.specs.Mem.{mem, layout_of}
use Rattle.formed.specs.Pages.{journal_page}
use Rattle.view.specs.View.{setting_of, view_of}
use Rattle.view.specs.Does.{Shows}
use Rattle.journal.specs.Steps.{restoring}
use Rattle.journal.proofs.undo.Given as goal

abbrev pub invariant-loop-i : goal.invariant-loop-i
invariant-loop-i l =
    (l.mark ≤ l.i)
    × Shows (setting_of (mem l.initial.bytes l.keys l.order l.words)) (restoring (journal_page (layout_of l.words) l.j) l.j l.i (view_of (mem l.initial.bytes l.keys l.order l.words))) (mem l.bytes l.keys l.order l.words)
