use mathlib.Core.Path.{ap, ◌∙◌}
use Prim.Native.Nat.{ℕ}
use native.Mathlib.Omega.{arith}
use Rattle.word.specs.Value.{big_endian}
use Rattle.index.proofs.Logic.{passed}
use Rattle.registers.specs.Registers.{operand_of}
use Rattle.store.specs.Mem.{mem}
use Rattle.formed.proofs.Hints.{find_asked}
use Rattle.owned.proofs.Words.{word_found}
use Rattle.owned.proofs.Known.{load_known}
use Rattle.owned.proofs.execute.load_known.Goals as goal

pub in_one_piece-s-requires : goal.in_one_piece-s-requires
in_one_piece-s-requires c =
    find_asked (mem c.args.bytes.now c.args.keys.now c.args.order.now c.args.words.now) c.requires.well_formed

pub returns : goal.returns
returns c =
    let m = mem c.args.bytes.now c.args.keys.now c.args.order.now c.args.words.now in
    let a = c.low_u32.result in
    let y = operand_of c.source-operand.result in
    load_known m c.requires.well_formed c.args.registers.now c.args.page.0 c.args.bound c.args.source c.args.dst0 c.args.dst1 c.args.increment (passed c.are_registers.ensures c.if-not-are_registers.false) y c.source-operand.ensures (passed c.is_paid.ensures c.if-not-is_paid.false) a c.low_u32.ensures (record { word = c.plus_32.result; tagged = c.source-operand.result.tagged }) _
    c.from_big_endian-word.result (c.from_big_endian-word.ensures ∙ ap big_endian (c.word_at.ensures ∙ word_found m c.requires.well_formed c.args.page.0 a c.in_one_piece-s.result (omega (arith, c.low_u32.ensures)) c.if-s-words.false (c.in_one_piece-s.ensures c.if-s-words.false)))
    (ap (λ (n : ℕ). record { word = n; tag = y.tag }) c.plus_32.ensures) c.load_places-places.result c.load_places-places.ensures c.write_load.ensures
