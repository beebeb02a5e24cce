use Rattle.std.proofs.Common.{arith}
use Rattle.mt_unit_parser.specs.UnitOf.{unit_of}
use Rattle.mt_session.proofs.Stepping.{step_of_unit, ready_of_unit}
use Rattle.mt_session.proofs.running.take_unit.Goals as goal

pub returns-in-Ok-Unit-clause-step : goal.returns-in-Ok-Unit-clause-step
returns-in-Ok-Unit-clause-step g c =
    let got = rw c.in-Ok-Unit.field-0-is at c.in-Ok-Unit.ensures.reads in
    let span = rw c.in-Ok-Unit.field-0-is at c.in-Ok-Unit.ensures.placed in
    step_of_unit c.args.text.now c.args.session.now (unit_of c.in-Ok-Unit.unit) _ got c.take.new.session c.take.result (omega (arith, span.after, span.order)) c.take.ensures.moves

pub returns-in-Ok-Unit-clause-ready : goal.returns-in-Ok-Unit-clause-ready
returns-in-Ok-Unit-clause-ready g c =
    let got = rw c.in-Ok-Unit.field-0-is at c.in-Ok-Unit.ensures.reads in
    let span = rw c.in-Ok-Unit.field-0-is at c.in-Ok-Unit.ensures.placed in
    ready_of_unit c.args.text.now c.args.session.now (unit_of c.in-Ok-Unit.unit) _ got c.take.new.session c.take.result c.requires (omega (arith, span.after, span.order)) span.stop c.take.ensures.moves
