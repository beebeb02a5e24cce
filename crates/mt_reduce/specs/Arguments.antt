-- The arguments that reduction holds.
use Rattle.std.specs.Prelude.{ℕ, ◌<◌, List}
use Rattle.mt_term.specs.Trees.{Tree, Trees, End, Item}
use Rattle.mt_pool.specs.Region.{tree_at}
use Rattle.mt_reduce.specs.declared.arguments.Args.{Args, End as NoMore, More'}

-- arguments, the first of which is the innermost
abbrev pub args_in : List Tree → Args → Trees
args_in p NoMore = End
args_in p (More' a q rest) = Item (tree_at p a) (args_in p rest)

abbrev pub ArgsBelow : ℕ → Args → Type 0
ArgsBelow n NoMore = Unit {0}
ArgsBelow n (More' a q rest) = (a.at < n) × ArgsBelow n rest
