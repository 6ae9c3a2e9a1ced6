use mathlib.Core.Path.{refl}
use Rattle.trace_calls.proofs.Tells.{tells}
use Rattle.reads.proofs.Calls.{word_call}
use Rattle.store.specs.Mem.{mem}
use Rattle.trace_calls.proofs.read.Goals as goal

pub returns-in-Ok : goal.returns-in-Ok
returns-in-Ok c = tells (word_call (mem c.args.bytes.now c.args.keys.now c.args.order.now c.args.words.now) c.args.page c.args.address _ c.in-Ok.ensures) _ refl
