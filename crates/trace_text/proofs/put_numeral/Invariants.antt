use Rattle.std.proofs.Common.{◌≡◌, ◌++◌, length, drop}
use Rattle.trace_text.specs.Text.{numeral}
use Rattle.trace_text.proofs.put_numeral.Given as goal

abbrev pub invariant-loop-i : goal.invariant-loop-i
invariant-loop-i g l = record {
  fixed : length l.text ≡ 64;
  unwritten : l.out ≡ l.initial.out;
  numeral : numeral g.N.Digits.base 64 (g.N.Digits.number l.initial.left) ≡ numeral g.N.Digits.base l.i (g.N.Digits.number l.left) ++ drop l.i l.text;
}
