use Rattle.std.proofs.Common.{◌≡◌, ◌<◌, ◌≤◌, refl, sym, ◌∙◌, ap, subst, Ok, Err, Some, None, true, false, arith}
use Rattle.mt_cursor.specs.Cursors.{IsRun, TakesTo, Accepts, Unchanged, standing_in, units_in}
use Rattle.mt_cursor.specs.Sessions.{Over, advanced, moved, place_of, turn}
use Rattle.mt_cursor.proofs.Going.{path_start, accepts_more, goto_goes, goto_over, goto_hindered, goto_done, goto_there}
use Rattle.mt_cursor.proofs.cursor.Cursor.go_on.Goals as goal

pub units-init : goal.units-init
units-init g c = record {
  text = refl;
  start = refl;
  run = subst (IsRun g.R.Runner.rules g.R.Runner.state g.R.Runner.marked g.R.Runner.age g.R.Runner.IsEmpty) c.self.view_is c.self.invariant;
  more = omega arith;
  path = path_start _ _;
}

pub units-preserved : goal.units-preserved
units-preserved g c =
    let there : place_of (units_in c.units.self) < c.args.pos = subst (λ n. n < c.args.pos) c.place.ensures c.if-place-pos.false in
    let went : Accepts g.R.Runner.state (turn g.R.Runner.rules (Some c.args.pos) c.units.self.text (standing_in g.R.Runner.state c.units.self)) c.units.steps c.take_next.new.steps c.take_next.new.self =
    rw c.in-Ok-true.field-0-test at c.in-Ok-true.ensures.turn in
    record {
      text = c.take_next.ensures.text ∙ c.units.invariant.text;
      start = c.take_next.ensures.start ∙ c.units.invariant.start;
      run = c.take_next.ensures.run;
      more = omega (arith, c.units.invariant.more, accepts_more g.R.Runner.rules (Some c.args.pos) g.R.Runner.state c.units.self c.take_next.new.self c.units.steps c.take_next.new.steps went);
      path = goto_goes g.R.Runner.rules g.R.Runner.state (moved g.R.Runner.rules c.args.self.now.text c.args.pos c.args.pos (standing_in g.R.Runner.state c.args.self.now)) c.args.pos c.units.left c.units.self c.take_next.new.self c.args.steps.now c.units.steps c.take_next.new.steps
          c.units-test.true there c.units.invariant.path went c.take_next.ensures.text;
    }

pub returns-in-Ok-false-clause-goes : goal.returns-in-Ok-false-clause-goes
returns-in-Ok-false-clause-goes g c =
    let there : place_of (units_in c.units.self) < c.args.pos = subst (λ n. n < c.args.pos) c.place.ensures c.if-place-pos.false in
    let over : (turn g.R.Runner.rules (Some c.args.pos) c.units.self.text (standing_in g.R.Runner.state c.units.self) ≡ Over) × (c.take_next.new.steps ≡ c.units.steps) × Unchanged g.R.Runner.state c.units.self c.take_next.new.self =
    rw c.in-Ok-false.field-0-test at c.in-Ok-false.ensures.turn in
    goto_over g.R.Runner.rules g.R.Runner.state (moved g.R.Runner.rules c.args.self.now.text c.args.pos c.args.pos (standing_in g.R.Runner.state c.args.self.now)) c.args.pos c.units.left c.units.self c.take_next.new.self c.args.steps.now c.units.steps c.take_next.new.steps
    c.units-test.true there c.units.invariant.path over.0 over.1 over.2

pub returns-in-Err-clause-goes : goal.returns-in-Err-clause-goes
returns-in-Err-clause-goes g c =
    let there : place_of (units_in c.units.self) < c.args.pos = subst (λ n. n < c.args.pos) c.place.ensures c.if-place-pos.false in
    goto_hindered g.R.Runner.rules g.R.Runner.state (moved g.R.Runner.rules c.args.self.now.text c.args.pos c.args.pos (standing_in g.R.Runner.state c.args.self.now)) c.args.pos c.units.left c.args.self.now c.units.self c.take_next.new.self c.args.steps.now c.units.steps c.take_next.new.steps
    c.in-Err.halt c.units-test.true there c.units.invariant.path c.in-Err.ensures.turn c.units.invariant.more

pub returns-then-place-pos-clause-goes : goal.returns-then-place-pos-clause-goes
returns-then-place-pos-clause-goes g c =
    goto_there g.R.Runner.rules g.R.Runner.state (moved g.R.Runner.rules c.args.self.now.text c.args.pos c.args.pos (standing_in g.R.Runner.state c.args.self.now)) c.args.pos c.units.left c.units.self c.args.steps.now c.units.steps
    (subst (λ n. c.args.pos ≤ n) c.place.ensures c.if-place-pos.true) c.units.invariant.path
