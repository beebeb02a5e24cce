use Rattle.std.proofs.Common.{◌≡◌, ◌-◌, ◌+◌, suc, length}
use Rattle.mt_session.specs.Runs.{run, cost}
use Rattle.mt_session.specs.Sessions.{IsReady}
use Rattle.mt_session.specs.Steps.{run_on, cost_on}
use Rattle.mt_session.proofs.running.advance.Given as goal

abbrev pub invariant-units : goal.invariant-units
invariant-units g l = record {
  ready : IsReady l.text l.session;
  same : run_on l.text (suc (length l.text) - l.session.units) l.session ≡ run l.text;
  spent : l.steps + cost_on l.text (suc (length l.text) - l.session.units) l.session ≡ l.initial.steps + cost l.text;
}

abbrev pub decreases-units : goal.decreases-units
decreases-units g l = length l.text - l.session.place
