use mathlib.Core.Path.{sym}
use Prim.Native.Nat.{◌+◌, ◌*◌}
use native.Mathlib.Omega.{arith}
use lib.ListN.{take, get_or-eq_default}
use lib.Seq.{get_or-take, length-take-le}
use Rattle.compare.proofs.on_formed.byte_beside.Goals as goal

pub returns-then-t-slots : goal.returns-then-t-slots
returns-then-t-slots c =
    let l = length-take-le (256 * c.args.slots) c.args.bytes.now c.requires.0 in
    sym (get_or-eq_default (take (256 * c.args.slots) c.args.bytes.now) 0 (omega arith))

pub returns : goal.returns
returns c =
    sym (get_or-take (256 * c.args.slots) c.args.bytes.now (256 * c.args.t + c.args.j) 0 (omega arith))

pub overflow_mul-result : goal.overflow_mul-result
overflow_mul-result c = omega arith

pub overflow_add-result : goal.overflow_add-result
overflow_add-result c = omega arith

pub bounds-bytes-t : goal.bounds-bytes-t
bounds-bytes-t c = omega arith
