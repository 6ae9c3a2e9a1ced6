use mathlib.Core.Path.{refl}
use Rattle.trace_calls.proofs.Tells.{tells}
use Rattle.reads.proofs.Calls.{marks_call}
use Rattle.store.specs.Mem.{mem}
use Rattle.trace_calls.proofs.snapshot.Goals as goal

pub returns-in-Ok : goal.returns-in-Ok
returns-in-Ok c = tells (marks_call (mem c.args.bytes.now c.args.keys.now c.args.order.now c.args.words.now) _ c.in-Ok.ensures) _ refl
