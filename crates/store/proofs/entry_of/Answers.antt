use Rattle.std.proofs.Common.{ℕ, ◌+◌, List, ap, ◌∙◌, arith}
use Rattle.index.specs.Index.{seek}
use Rattle.store.specs.Mem.{slot_count}
use Rattle.store.proofs.Parts.{rest_part}
use Rattle.store.proofs.entry_of.Goals as goal

pub find-requires : goal.find-requires
find-requires c =
    (rw (rest_part c.args.keys.now (slot_count c.args.words.now), rest_part c.args.order.now (slot_count c.args.words.now)) c.requires.index, omega arith)

pub returns : goal.returns
returns c =
    c.find.ensures ∙ ap (λ (ks : List ℕ). seek ks (c.args.page.0 + 1)) (rest_part c.args.keys.now (slot_count c.args.words.now))
