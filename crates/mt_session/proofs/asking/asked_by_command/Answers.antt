use Rattle.std.proofs.Common.{◌∙◌}
use Rattle.mt_term.specs.EnvironmentOf.{environment_of}
use Rattle.mt_session.proofs.asking.asked_by_command.Goals as goal

pub returns-in-Constraint : goal.returns-in-Constraint
returns-in-Constraint c = rw c.in-Constraint.is (c.asked_order.ensures (environment_of c.args.session.now.env) (c.graph.ensures ∙ c.requires.graph))
