use Rattle.std.proofs.Common.{subst}
use Rattle.mt_cursor.specs.Cursors.{IsRun}
use Rattle.mt_cursor.proofs.cursor.Cursor.load.Goals as goal

pub returns-in_err-text-clause-run : goal.returns-in_err-text-clause-run
returns-in_err-text-clause-run g c =
    subst (IsRun g.R.Runner.rules g.R.Runner.state g.R.Runner.marked g.R.Runner.age g.R.Runner.IsEmpty) c.self.view_is c.self.invariant
