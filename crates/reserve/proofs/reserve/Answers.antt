use mathlib.Core.Path.{sym, ◌∙◌}
use native.Mathlib.Omega.{arith}
use borrow.Author.Tests.{le-ltb}
use Rattle.store.specs.Mem.{mem}
use Rattle.checks.proofs.Tables.{allocated_by}
use Rattle.reserve.proofs.reserve.Goals as goal

pub reserve_unallocated-requires : goal.reserve_unallocated-requires
reserve_unallocated-requires c =
    let asks = c.requires.0 in
    (record { formed = asks.formed; page = asks.page; decodable = asks.decodable; top = asks.top; words = omega arith }, sym (allocated_by (mem c.args.bytes.now c.args.keys.now c.args.order.now c.args.words.now) c.requires.0.formed c.args.page.0 c.args.e c.requires.1) ∙ le-ltb _ _ c.if-e-words.false)

pub returns : goal.returns
returns c =
    c.reserve_unallocated.ensures c.args.w
