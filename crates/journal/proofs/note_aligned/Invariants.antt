use mathlib.Core.Path.{◌≡◌}
use Prim.Native.Nat.{◌≤◌}
use lib.ListN.{length}
use Rattle.store.specs.Mem.{mem, layout_of}
use Rattle.formed.specs.Pages.{journal_page}
use Rattle.view.specs.View.{setting_of, view_of}
use Rattle.view.specs.Does.{Shows}
use Rattle.view.specs.Inner.{noting}
use Rattle.journal.specs.Steps.{aligned_from}
use Rattle.journal.proofs.note_aligned.Given as goal

abbrev pub invariant-loop-i : goal.invariant-loop-i
invariant-loop-i l =
    (length l.bytes ≡ length l.initial.bytes) × (length l.words ≡ length l.initial.words)
    × Shows (setting_of (mem l.initial.bytes l.keys l.order l.initial.words)) (noting l.j (aligned_from (view_of (mem l.initial.bytes l.keys l.order l.initial.words)) (journal_page (layout_of l.initial.words) l.j) l.first l.i) (view_of (mem l.initial.bytes l.keys l.order l.initial.words))) (mem l.bytes l.keys l.order l.words)
    × (l.guess ≤ 65536)
