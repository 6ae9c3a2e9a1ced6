use Rattle.std.proofs.Common.{◌≡◌, ◌≤◌, drop}
use Rattle.trace.specs.Language.{digital, number_after, numeral_value}
use Rattle.trace.proofs.decimal.Given as goal

abbrev pub invariant-loop-byte : goal.invariant-loop-byte
invariant-loop-byte l = record {
  small : l.n ≤ 4294967295;
  digits : digital 10 (drop l.byte-index l.field) ≡ digital 10 l.field;
  number : number_after 10 l.n (drop l.byte-index l.field) ≡ numeral_value 10 l.field;
}
