use Rattle.std.proofs.Common.{◌≡◌, ◌++◌, drop}
use Rattle.mt_term.specs.EnvironmentOf.{environment_of}
use Rattle.mt_printer.specs.GoalsText.{each_goal_text, goal_text}
use Rattle.mt_printer.proofs.goals.put_each_goal.Given as goal

abbrev pub invariant-loop-n : goal.invariant-loop-n
invariant-loop-n l = l.out.items ++ each_goal_text (environment_of l.env) l.metas (drop l.n l.goals) ≡ l.initial.out.items ++ each_goal_text (environment_of l.env) l.metas l.goals
