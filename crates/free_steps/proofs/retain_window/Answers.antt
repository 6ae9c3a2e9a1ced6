use native.Mathlib.Omega.{arith}
use Rattle.drops.proofs.Drops.{page_still}
use Rattle.free_steps.proofs.Windows.{end_top, window_done}
use Rattle.free_steps.proofs.retain_window.Goals as goal

pub drop_chunks-requires : goal.drop_chunks-requires
drop_chunks-requires c =
    record { page = c.requires; order = omega arith; top = omega (arith, c.well_formed.1.1.1.1.1.0) }

pub drop_chunks-requires-2 : goal.drop_chunks-requires-2
drop_chunks-requires-2 c =
    let t = end_top c.args.start.0 c.args.length in
    let e = c.window_end-end.ensures in
    record { page = page_still _ _ c.requires _ _ _ c.drop_chunks.ensures.0; order = omega arith; top = omega arith }

pub returns : goal.returns
returns c =
    window_done c.args.start.0 c.args.length _ _ c.requires _ c.drop_chunks.ensures.0 _ c.window_end-end.ensures _ c.drop_chunks-2.ensures.0
