use Rattle.std.proofs.Common.{[]}
use Rattle.mt_term.specs.Substitution.{count}
use Rattle.mt_reduce.specs.Arguments.{args_in}
use Rattle.mt_reduce.proofs.arguments.+apply.Given as goal

abbrev pub decreases-apply : goal.decreases-apply
decreases-apply l = count (args_in [] l.args.now)
