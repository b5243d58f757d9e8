use Rattle.std.proofs.Common.{ap}
use Rattle.plan_text.specs.Pieces.{three}
use Rattle.plan_text.proofs.Cuts.{fields_one, three_short, three_parts, three_long}
use Rattle.plan_text.proofs.text.three_fields.Goals as goal

pub returns-in_err-left-clause-parts : goal.returns-in_err-left-clause-parts
returns-in_err-left-clause-parts c = rw c.from_residual.ensures (ap three (fields_one c.args.line.now c.in_err-left.ensures))

pub returns-in_err-middle-clause-parts : goal.returns-in_err-middle-clause-parts
returns-in_err-middle-clause-parts c = rw c.from_residual-in_err-middle.ensures (three_short c.args.line.now _ _ c.in_ok-left.ensures c.in_err-middle.ensures)

pub returns-in-Some-clause-parts : goal.returns-in-Some-clause-parts
returns-in-Some-clause-parts c = three_long c.args.line.now _ _ c.in_ok-left.ensures _ _ c.in_ok-middle.ensures _ _ c.in-Some.ensures

pub returns-in-None-clause-parts : goal.returns-in-None-clause-parts
returns-in-None-clause-parts c = three_parts c.args.line.now _ _ c.in_ok-left.ensures _ _ c.in_ok-middle.ensures c.in-None.ensures
