use Rattle.store.specs.Mem.{mem}
use Rattle.owned.proofs.Answers.{marks_does}
use Rattle.owned.proofs.memory.own_snapshot.Goals as goal

pub returns : goal.returns
returns c =
    marks_does (mem c.args.bytes.now c.args.keys.now c.args.order.now c.args.words.now) c.requires c.snapshot-marks.ensures.0 c.snapshot-marks.ensures.1
