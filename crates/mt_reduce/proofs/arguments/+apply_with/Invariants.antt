use Rattle.std.proofs.Common.{[]}
use Rattle.mt_term.specs.Substitution.{count}
use Rattle.mt_reduce.specs.Arguments.{args_in}
use Rattle.mt_reduce.proofs.arguments.+apply_with.Given as goal

abbrev pub decreases-apply_with : goal.decreases-apply_with
decreases-apply_with l = count (args_in [] l.args.now)
