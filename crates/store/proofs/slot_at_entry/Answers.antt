use Rattle.std.proofs.Common.{take, ap, ◌∙◌}
use Rattle.index.specs.Index.{seek}
use Rattle.store.specs.Mem.{slot_count}
use Rattle.store.proofs.slot_at_entry.Goals as goal

pub returns : goal.returns
returns c =
    c.slot_of.ensures ∙ ap (seek (take (slot_count c.args.words.now) c.args.keys.now)) c.key_of.ensures
