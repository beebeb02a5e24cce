use Rattle.std.proofs.Common.{◌≡◌, ◌<◌, ◌≤◌, refl, sym, ◌∙◌, ap, subst, Ok, Err, Some, None, true, false, arith}
use Rattle.mt_cursor.specs.Cursors.{IsRun, TakesTo, Accepts, Unchanged, standing_in, units_in}
use Rattle.mt_cursor.specs.Sessions.{Over, advanced, moved, place_of, turn}
use Rattle.mt_cursor.proofs.Going.{path_start, accepts_more, advance_goes, advance_over, advance_hindered, advance_done}
use Rattle.mt_cursor.proofs.cursor.Cursor.advance.Goals as goal

pub units-init : goal.units-init
units-init g c = record {
  text = refl;
  start = refl;
  run = subst (IsRun g.R.Runner.rules g.R.Runner.state g.R.Runner.marked g.R.Runner.age g.R.Runner.IsEmpty) c.self.view_is c.self.invariant;
  more = omega arith;
  path = path_start _ _;
}

pub units-preserved : goal.units-preserved
units-preserved g c =
    let went : Accepts g.R.Runner.state (turn g.R.Runner.rules None c.units.self.text (standing_in g.R.Runner.state c.units.self)) c.units.steps c.take_next.new.steps c.take_next.new.self =
    rw c.in-Ok-true.field-0-test at c.in-Ok-true.ensures.turn in
    record {
      text = c.take_next.ensures.text ∙ c.units.invariant.text;
      start = c.take_next.ensures.start ∙ c.units.invariant.start;
      run = c.take_next.ensures.run;
      more = omega (arith, c.units.invariant.more, accepts_more g.R.Runner.rules None g.R.Runner.state c.units.self c.take_next.new.self c.units.steps c.take_next.new.steps went);
      path = advance_goes g.R.Runner.rules g.R.Runner.state (advanced g.R.Runner.rules c.args.self.now.text c.args.n (standing_in g.R.Runner.state c.args.self.now)) c.units.left c.units.self c.take_next.new.self c.args.steps.now c.units.steps c.take_next.new.steps
          c.units-test.true c.units.invariant.path went c.take_next.ensures.text;
    }

pub returns-in-Ok-false-clause-advance : goal.returns-in-Ok-false-clause-advance
returns-in-Ok-false-clause-advance g c =
    let over : (turn g.R.Runner.rules None c.units.self.text (standing_in g.R.Runner.state c.units.self) ≡ Over) × (c.take_next.new.steps ≡ c.units.steps) × Unchanged g.R.Runner.state c.units.self c.take_next.new.self =
    rw c.in-Ok-false.field-0-test at c.in-Ok-false.ensures.turn in
    advance_over g.R.Runner.rules g.R.Runner.state (advanced g.R.Runner.rules c.args.self.now.text c.args.n (standing_in g.R.Runner.state c.args.self.now)) c.units.left c.units.self c.take_next.new.self c.args.steps.now c.units.steps c.take_next.new.steps
    c.units-test.true c.units.invariant.path over.0 over.1 over.2

pub returns-in-Err-clause-advance : goal.returns-in-Err-clause-advance
returns-in-Err-clause-advance g c =
    advance_hindered g.R.Runner.rules g.R.Runner.state (advanced g.R.Runner.rules c.args.self.now.text c.args.n (standing_in g.R.Runner.state c.args.self.now)) c.units.left c.args.self.now c.units.self c.take_next.new.self c.args.steps.now c.units.steps c.take_next.new.steps
    c.in-Err.halt c.units-test.true c.units.invariant.path c.in-Err.ensures.turn c.units.invariant.more
