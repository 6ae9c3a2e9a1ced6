use Rattle.std.proofs.Common.{ap, sym, refl, ◌∙◌, ◌+◌, ◌*◌, ℕ, drop, arith}
use Rattle.trace.proofs.Figures.{digital_stop, digital_step, digital_done, number_step, number_done, hexadecimal_led, hexadecimal_digit, hexadecimal_long, hexadecimal_is, digits_more, digits_room}
use Rattle.trace.specs.Language.{number_after}
use Rattle.trace.specs.Reading.{word_number}
use Rattle.word.specs.Value.{value}
use Rattle.trace.proofs.hexadecimal.Goals as goal
use Rattle.trace.proofs.hexadecimal.Goals.{then-not-led_well-via-then-not-led_well, then-not-led_well-via-else-not-led_well+then-field-gt64}

pub returns-then-not-led_well : goal.returns-then-not-led_well
returns-then-not-led_well c =
    elim c.then-not-led_well.branch [
      | then-not-led_well-via-then-not-led_well w ↦ hexadecimal_led c.args.field.now (sym c.led_well.ensures ∙ w.if-not-led_well.true)
      | then-not-led_well-via-else-not-led_well+then-field-gt64 w ↦ hexadecimal_long c.args.field.now w.if-field-gt64.true
    ]

pub loop-byte-init : goal.loop-byte-init
unfolding value
loop-byte-init c = record { small = omega arith; digits = refl; number = refl }

pub returns-in_err-digit : goal.returns-in_err-digit
returns-in_err-digit c =
    let n = c.in_err-digit.ensures in
    ap word_number c.from_residual.ensures ∙ hexadecimal_digit c.args.field.now (sym c.loop-byte.invariant.digits ∙ digital_stop 16 c.args.field.now c.loop-byte.byte-index c.loop-byte-test.true (omega arith))

pub lengthened-word-requires : goal.lengthened-word-requires
lengthened-word-requires c =
    let t = c.loop-byte-test.true in
    let s = c.if-field-gt64.false in
    let d = c.in_ok-digit.ensures in
    (digits_room _ c.loop-byte.byte-index c.loop-byte.invariant.small (omega arith), omega arith)

pub loop-byte-preserved : goal.loop-byte-preserved
loop-byte-preserved c =
    let d = c.in_ok-digit.ensures in
    let e = c.lengthened-word.ensures in
    record {
      small = rw e (digits_more _ c.loop-byte.byte-index _ c.loop-byte.invariant.small (omega arith));
      digits = digital_step 16 c.args.field.now c.loop-byte.byte-index c.loop-byte-test.true (omega arith) ∙ c.loop-byte.invariant.digits;
      number = ap (λ (n : ℕ). number_after 16 n (drop (c.loop-byte.byte-index + 1) c.args.field.now)) (e ∙ ap (λ (d : ℕ). value c.loop-byte.word.limbs * 16 + d) d.1)
          ∙ number_step 16 c.args.field.now c.loop-byte.byte-index c.loop-byte-test.true (value c.loop-byte.word.limbs) ∙ c.loop-byte.invariant.number;
    }

pub returns : goal.returns
returns c =
    let i = c.loop-byte.auto in
    let t = c.loop-byte-test.false in
    hexadecimal_is c.args.field.now (value c.loop-byte.word.limbs) (sym c.led_well.ensures ∙ c.if-not-led_well.false) (sym c.loop-byte.invariant.digits ∙ digital_done 16 c.args.field.now c.loop-byte.byte-index (omega arith) (omega arith))
    (sym c.loop-byte.invariant.number ∙ number_done 16 (value c.loop-byte.word.limbs) c.args.field.now c.loop-byte.byte-index (omega arith) (omega arith)) c.if-field-gt64.false
