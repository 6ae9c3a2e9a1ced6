use Rattle.std.proofs.Common.{ap, sym, ◌∙◌, ◌+◌, ◌*◌, ℕ, drop, ◌≡◌, arith}
use Rattle.trace.proofs.Figures.{digital_stop, digital_step, digital_done, number_step, number_done, number_grows, decimal_led, decimal_digit, decimal_wide, decimal_is}
use Rattle.trace.specs.Language.{number_after, numeral_value}
use Rattle.trace.proofs.decimal.Goals as goal
use Rattle.trace.proofs.decimal.Goals.{In_ok-d}

pub returns-then-not-led_well : goal.returns-then-not-led_well
returns-then-not-led_well c =
    decimal_led c.args.field.now (sym c.led_well.ensures ∙ c.if-not-led_well.true)

pub returns-in_err-d : goal.returns-in_err-d
returns-in_err-d c =
    let n = c.in_err-d.ensures in
    c.from_residual.ensures ∙ decimal_digit c.args.field.now (sym c.loop-byte.invariant.digits ∙ digital_stop 10 c.args.field.now c.loop-byte.byte-index c.loop-byte-test.true (omega arith))

pub returns-then-d-ge10 : goal.returns-then-d-ge10
returns-then-d-ge10 c =
    let d = c.in_ok-d.ensures.1 in
    let t = c.if-d-ge10.true in
    decimal_digit c.args.field.now (sym c.loop-byte.invariant.digits ∙ digital_stop 10 c.args.field.now c.loop-byte.byte-index c.loop-byte-test.true (omega arith))

-- the number with one digit more
next : (c : In_ok-d) → number_after 10 (c.loop-byte.n * 10 + c.in_ok-d.d) (drop (c.loop-byte.byte-index + 1) c.args.field.now) ≡ numeral_value 10 c.args.field.now
next c =
    ap (λ (d : ℕ). number_after 10 (c.loop-byte.n * 10 + d) (drop (c.loop-byte.byte-index + 1) c.args.field.now)) c.in_ok-d.ensures.1
    ∙ number_step 10 c.args.field.now c.loop-byte.byte-index c.loop-byte-test.true c.loop-byte.n ∙ c.loop-byte.invariant.number

pub returns-then-n-gt-LARGEST : goal.returns-then-n-gt-LARGEST
returns-then-n-gt-LARGEST c =
    let e = next (goal.at.returns-then-n-gt-LARGEST c).In_ok-d in
    let g = number_grows (c.loop-byte.n * 10 + c.in_ok-d.d) (drop (c.loop-byte.byte-index + 1) c.args.field.now) in
    let t = c.if-n-gt-LARGEST.true in
    decimal_wide c.args.field.now (omega arith)

pub loop-byte-preserved : goal.loop-byte-preserved
loop-byte-preserved c =
    let d = c.in_ok-d.ensures.1 in
    let t = c.if-d-ge10.false in
    record {
      small = c.if-n-gt-LARGEST.false;
      digits = digital_step 10 c.args.field.now c.loop-byte.byte-index c.loop-byte-test.true (omega arith) ∙ c.loop-byte.invariant.digits;
      number = next (goal.at.loop-byte-preserved c).In_ok-d;
    }

pub returns : goal.returns
returns c =
    let i = c.loop-byte.auto in
    let t = c.loop-byte-test.false in
    decimal_is c.args.field.now c.loop-byte.n (sym c.led_well.ensures ∙ c.if-not-led_well.false) (sym c.loop-byte.invariant.digits ∙ digital_done 10 c.args.field.now c.loop-byte.byte-index (omega arith) (omega arith))
    (sym c.loop-byte.invariant.number ∙ number_done 10 c.loop-byte.n c.args.field.now c.loop-byte.byte-index (omega arith) (omega arith)) c.loop-byte.invariant.small
