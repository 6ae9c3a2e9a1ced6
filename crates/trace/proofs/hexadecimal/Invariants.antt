use Rattle.std.proofs.Common.{◌≡◌, ◌<◌, ◌^◌, drop}
use Rattle.word.specs.Value.{value}
use Rattle.trace.specs.Language.{digital, number_after, numeral_value}
use Rattle.trace.proofs.hexadecimal.Given as goal

abbrev pub invariant-loop-byte : goal.invariant-loop-byte
invariant-loop-byte l = record {
  small : value l.word.limbs < 16 ^ l.byte-index;
  digits : digital 16 (drop l.byte-index l.field) ≡ digital 16 l.field;
  number : number_after 16 (value l.word.limbs) (drop l.byte-index l.field) ≡ numeral_value 16 l.field;
}
