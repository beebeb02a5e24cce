-- How many arguments there are.
use Rattle.std.specs.Prelude.{ℕ, ◌+◌}
use Rattle.mt_term_parser.specs.Written.{Arguments, NoArgument, Argument}

abbrev pub count_of : Arguments → ℕ
count_of NoArgument = 0
count_of (Argument a args) = count_of args + 1
