use Rattle.std.proofs.Common.{[]}
use Rattle.mt_term.specs.Substitution.{count}
use Rattle.mt_reduce.specs.Arguments.{args_in}
use Rattle.mt_reduce.proofs.branches.+fill_in.Given as goal

abbrev pub decreases-fill_in : goal.decreases-fill_in
decreases-fill_in l = count (args_in [] l.args.now)
