use mathlib.Core.Path.{sym, ap, ◌∙◌}
use mathlib.Core.Bool.{false}
use Prim.Native.Nat.{ℕ}
use Rattle.word.specs.Value.{value}
use Rattle.index.proofs.Logic.{passed}
use Rattle.registers.specs.Registers.{operand_of}
use Rattle.store.specs.Mem.{mem}
use Rattle.execution.specs.Executions.{hook_of}
use Rattle.write_back.proofs.Laws.{store_parts}
use Rattle.owned.proofs.Known.{store_takes_lem, store_known}
use borrow.Author.Rules.{rules}
use Rattle.owned.proofs.execute.store_known.Goals as goal

pub write_store-requires : goal.write_store-requires
write_store-requires c =
    (search rules, (store_parts c.store_places-places.result (store_takes_lem c.args.source c.args.value c.args.dst0 c.args.dst1 c.args.increment (passed c.are_registers.ensures c.if-not-are_registers.false) c.if-value-gt-LAST_REGISTER.false c.store_places-places.ensures)).1.1)

pub returns : goal.returns
returns c =
    let m = mem c.args.bytes.now c.args.keys.now c.args.order.now c.args.words.now in
    let y = operand_of c.source-operand.result in
    store_known m c.requires.well_formed c.args.registers.now c.args.page.0 c.args.bound c.args.source c.args.dst0 c.args.dst1 c.args.increment (passed c.are_registers.ensures c.if-not-are_registers.false) y c.source-operand.ensures (passed c.is_paid.ensures c.if-not-is_paid.false) c.low_u32.result c.low_u32.ensures (record { word = c.plus_32.result; tagged = false }) _
    c.args.value c.if-value-gt-LAST_REGISTER.false c.args.kernel (hook_of c.args.hook) (value c.value-word.result.limbs) c.value-word.ensures (sym c.hits.ensures ∙ c.if-hits.false) _ (c.write_known.ensures.known (c.if-not-write_known.false))
    (ap (λ (n : ℕ). record { word = n; tag = false }) c.plus_32.ensures) c.store_places-places.result c.store_places-places.ensures c.write_store.ensures
