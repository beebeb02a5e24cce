use Rattle.std.proofs.Common.{◌≡◌, ◌≤◌, length}
use Rattle.mt_cursor.specs.Cursors.{IsRun, standing_in, start_of}
use Rattle.mt_cursor.specs.Sessions.{advanced}
use Rattle.mt_cursor.proofs.Going.{OnPath}
use Rattle.mt_cursor.proofs.cursor.Cursor.advance.Given as goal

abbrev pub invariant-units : goal.invariant-units
invariant-units g l = record {
  text : l.self.text ≡ l.initial.self.text;
  start : start_of g.R.Runner.state g.R.Runner.marked l.self ≡ start_of g.R.Runner.state g.R.Runner.marked l.initial.self;
  run : IsRun g.R.Runner.rules g.R.Runner.state g.R.Runner.marked g.R.Runner.age g.R.Runner.IsEmpty l.self;
  more : length l.initial.self.accepted ≤ length l.self.accepted;
  path : OnPath (advanced g.R.Runner.rules l.initial.self.text l.initial.left (standing_in g.R.Runner.state l.initial.self)) (advanced g.R.Runner.rules l.self.text l.left (standing_in g.R.Runner.state l.self)) l.initial.steps l.steps;
}

abbrev pub decreases-units : goal.decreases-units
decreases-units g l = l.left
