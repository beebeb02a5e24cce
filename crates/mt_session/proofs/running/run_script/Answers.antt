use Rattle.std.proofs.Common.{◌≡◌, sym, subst}
use Rattle.std.specs.Prelude.{IfOk}
use Rattle.mt_session.specs.Runs.{is_clean}
use Rattle.mt_session.proofs.running.run_script.Goals as goal

pub returns-clause-clean : goal.returns-clause-clean
returns-clause-clean g c = subst (λ x. IfOk c.report_on.result (λ r. r.clean ≡ is_clean x)) (sym c.in_ok-fault.ensures.run) c.report_on.ensures.clean
