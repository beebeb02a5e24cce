use Rattle.std.proofs.Common.{rules}
use Rattle.mt_session.proofs.Stepping.{ready_first, run_first, goes_on, is_over, cost_first, cost_goes_on, cost_is_over, cost_is_cut}
use Rattle.mt_session.proofs.running.advance.Goals as goal

pub units-init : goal.units-init
units-init g c = record {
  ready = ready_first _ c.args.session.now c.utf8.text c.requires.state c.requires.tables;
  same = run_first _ c.args.session.now c.requires.state;
  spent = cost_first _ c.args.session.now c.args.steps.now c.requires.state;
}

pub units-preserved : goal.units-preserved
units-preserved g c =
    let went = rw c.in-Accepted.is at c.in_ok-take_unit.ensures.step in record {
      ready = c.in_ok-take_unit.ensures.ready;
      same = goes_on _ _ _ c.units.invariant.ready went c.units.invariant.same;
      spent = cost_goes_on _ c.units.session c.take_unit.new.session c.units.steps c.take_unit.new.steps _ c.units.invariant.ready went (rw c.in-Accepted.is at c.in_ok-take_unit.ensures.cost) c.units.invariant.spent;
    }

pub returns-in-Ended-clause-run : goal.returns-in-Ended-clause-run
returns-in-Ended-clause-run g c = is_over _ c.units.session c.take_unit.new.session _ c.units.invariant.ready (rw c.in-Ended.is at c.in_ok-take_unit.ensures.step) c.units.invariant.same

pub returns-in-Ended-clause-cost : goal.returns-in-Ended-clause-cost
returns-in-Ended-clause-cost g c = cost_is_over _ c.units.session c.units.steps c.take_unit.new.steps _ c.units.invariant.ready (rw c.in-Ended.is at c.in_ok-take_unit.ensures.cost) c.units.invariant.spent

pub returns-in_err-take_unit-clause-wanting : goal.returns-in_err-take_unit-clause-wanting
returns-in_err-take_unit-clause-wanting g c =
    let cut = cost_is_cut _ c.units.session c.units.steps c.take_unit.new.steps _ c.units.invariant.ready c.in_err-take_unit.ensures.wanting c.units.invariant.spent in search (rules, cut)
