use Rattle.trace_text.proofs.Numerals.{numeral_start, numeral_ends, numeral_goes, numeral_full, part_text, as_text}
use Rattle.trace_text.specs.Text.{glyph}
use Rattle.std.proofs.Common.{ap, sym, refl, ◌∙◌, arith, ◌-◌, set, length-set}
use Rattle.std.proofs.lemmas.Bool.{eqb-true, eqb-false}
use Rattle.trace_text.proofs.put_numeral.Goals as goal

pub returns-then-is_zero : goal.returns-then-is_zero
returns-then-is_zero g c =
    let e = numeral_ends g.N.Digits.base (g.N.Digits.number c.loop-i.left) (g.N.Digits.number c.shortened-left.result) g.met.N.Digits.has_digits c.shortened-left.ensures c.loop-i.text c.loop-i.i c.glyph.result (omega arith) (omega arith)
    (c.glyph.ensures ∙ ap glyph c.low_digit.ensures.digit) (eqb-true _ _ (sym c.is_zero.ensures ∙ c.if-is_zero.true)) in
    let f = c.loop-i.invariant.fixed in
    let p = part_text (set c.loop-i.text (c.loop-i.i - 1) c.glyph.result) (c.loop-i.i - 1) (simp length-set f) in
    as_text (p ∙ sym e ∙ sym c.loop-i.invariant.numeral) c.loop-i.invariant.unwritten c.put.ensures

pub loop-i-preserved : goal.loop-i-preserved
loop-i-preserved g c =
    let f = c.loop-i.invariant.fixed in record {
      fixed = simp length-set f;
      unwritten = c.loop-i.invariant.unwritten;
      numeral = c.loop-i.invariant.numeral
          ∙ numeral_goes g.N.Digits.base (g.N.Digits.number c.loop-i.left) (g.N.Digits.number c.shortened-left.result) g.met.N.Digits.has_digits c.shortened-left.ensures c.loop-i.text c.loop-i.i c.glyph.result (omega arith) (omega arith)
          (c.glyph.ensures ∙ ap glyph c.low_digit.ensures.digit) (eqb-false _ _ (sym c.is_zero.ensures ∙ c.if-is_zero.false));
    }

pub returns : goal.returns
returns g c =
    let e = c.loop-i.invariant.numeral ∙ numeral_full g.N.Digits.base (g.N.Digits.number c.loop-i.left) c.loop-i.i c.loop-i.text c.loop-i-test.false in
    as_text (sym e) c.loop-i.invariant.unwritten c.put-2.ensures

pub loop-i-init : goal.loop-i-init
loop-i-init g c = record { fixed = refl; unwritten = refl; numeral = numeral_start g.N.Digits.base (g.N.Digits.number c.args.number) }
