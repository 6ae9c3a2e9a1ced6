use Rattle.std.proofs.lemmas.List.{length-replicate}
use Rattle.trace.specs.Reading.{fields_left}
use Rattle.trace.proofs.Lines.{read_none, read_past, read_bad, read_one, read_all}
use Rattle.trace.proofs.Fields.decimals.Goals as goal

pub loop-value-init : goal.loop-value-init
loop-value-init g c = read_none g.row.N (fields_left c.args.self.now) _ (length-replicate g.row.N 0)

pub loop-value-preserved : goal.loop-value-preserved
loop-value-preserved g c = read_one _ _ _ _ _ c.loop-value.invariant c.loop-value-test.true _ _ c.in_ok-next_field.ensures _ c.in_ok-value.ensures

pub returns-clause-read : goal.returns-clause-read
returns-clause-read g c = read_all _ _ _ _ _ c.loop-value.invariant c.loop-value-test.false

pub returns-clause-long : goal.returns-clause-long
returns-clause-long g c = c.loop-value.invariant.long

pub returns-in_err-next_field-clause-read : goal.returns-in_err-next_field-clause-read
returns-in_err-next_field-clause-read g c = let e = c.from_residual.ensures in λ forms. rw e (read_past _ _ _ _ _ c.loop-value.invariant c.loop-value-test.true c.in_err-next_field.ensures forms)

pub returns-in_err-value-clause-read : goal.returns-in_err-value-clause-read
returns-in_err-value-clause-read g c = let e = c.from_residual-in_err-value.ensures in λ forms. rw e (read_bad _ _ _ _ _ c.loop-value.invariant c.loop-value-test.true _ _ c.in_ok-next_field.ensures c.in_err-value.ensures forms)
