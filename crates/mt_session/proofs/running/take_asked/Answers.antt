use Rattle.std.proofs.Common.{refl}
use Rattle.mt_unit_parser.specs.UnitOf.{kind_of, unit_of}
use Rattle.mt_session.specs.Sessions.{state_in, task_of}
use Rattle.mt_session.proofs.Fitting.{asked_task}
use Rattle.mt_session.proofs.Taking.{moves_found, cost_of_found, most_of_found, refuses_faults, cost_faults, most_any}
use Rattle.mt_session.proofs.running.take_asked.Goals as goal

pub settle-requires-clause-fits : goal.settle-requires-clause-fits
settle-requires-clause-fits g c = asked_task (state_in c.args.session.now) c.requires.sound c.args.unit.now.span.start (kind_of c.args.unit.now.kind) _ c.in-Ok.ensures

pub returns-in-Ok-clause-moves : goal.returns-in-Ok-clause-moves
returns-in-Ok-clause-moves g c =
    moves_found (state_in c.args.session.now) (unit_of c.args.unit.now) c.args.session.now c.settle.new.session (task_of c.in-Ok.task) c.in_ok-allowance.allowance c.settle.result c.in-Ok.ensures c.in_ok-allowance.ensures.left c.settle.ensures.moves

pub returns-in-Ok-clause-cost : goal.returns-in-Ok-clause-cost
returns-in-Ok-clause-cost g c =
    cost_of_found (state_in c.args.session.now) (unit_of c.args.unit.now) (task_of c.in-Ok.task) c.in_ok-allowance.allowance c.args.steps.now c.pay.new.steps c.settle.new.steps c.settle.result c.in-Ok.ensures c.in_ok-allowance.ensures.left c.in_ok-allowance.ensures.cost c.settle.ensures.cost

pub returns-in-Ok-clause-wanting : goal.returns-in-Ok-clause-wanting
returns-in-Ok-clause-wanting g c =
    most_of_found (state_in c.args.session.now) (unit_of c.args.unit.now) (task_of c.in-Ok.task) c.in_ok-allowance.allowance c.args.steps.now c.pay.new.steps c.settle.new.steps c.settle.result c.in-Ok.ensures c.in_ok-allowance.ensures.left c.in_ok-allowance.ensures.cost c.settle.ensures.wanting

pub returns-in-Err-Refused-clause-moves : goal.returns-in-Err-Refused-clause-moves
returns-in-Err-Refused-clause-moves g c =
    let e = rw c.in-Err-Refused.field-0-is at c.in-Err-Refused.ensures in
    rw c.in-Err-Refused.field-0-is (refuses_faults (state_in c.args.session.now) (unit_of c.args.unit.now) c.in-Err-Refused.fault e, refl, c.requires.tables)

pub returns-in-Err-Refused-clause-cost : goal.returns-in-Err-Refused-clause-cost
returns-in-Err-Refused-clause-cost g c =
    let e = rw c.in-Err-Refused.field-0-is at c.in-Err-Refused.ensures in
    cost_faults (state_in c.args.session.now) (unit_of c.args.unit.now) _ _ c.args.steps.now c.pay.new.steps e c.in_ok-allowance.ensures.cost

pub returns-in-Err : goal.returns-in-Err
returns-in-Err g c = record { moves = tt; cost = tt; wanting = most_any (state_in c.args.session.now) (unit_of c.args.unit.now) c.args.steps.now c.pay.new.steps c.in_ok-allowance.ensures.cost }
