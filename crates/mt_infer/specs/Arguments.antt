-- The arguments, and the lists of terms, that inference holds.
use Rattle.std.specs.Prelude.{ℕ, ◌<◌, List, Option, Some, None}
use Rattle.mt_term.specs.Trees.{Tree, Trees, End, Item}
use Rattle.mt_pool.specs.declared.nodes.TermId.{TermId}
use Rattle.mt_pool.specs.declared.nodes.TermIds.{TermIds}
use Rattle.mt_pool.specs.Region.{tree_at, trees_at, ids_of, AllBelow}
use Rattle.mt_infer.specs.declared.arguments.Args.{Args, End as NoMore, More'}

-- arguments, the first of which is the innermost
abbrev pub args_in : List Tree → Args → Trees
args_in p NoMore = End
args_in p (More' a q rest) = Item (tree_at p a) (args_in p rest)

abbrev pub ArgsBelow : ℕ → Args → Type 0
ArgsBelow n NoMore = Unit {0}
ArgsBelow n (More' a q rest) = (a.at < n) × ArgsBelow n rest

-- an optional list of ids
abbrev pub trees_in : List Tree → Option TermIds → Option Trees
trees_in p None = None
trees_in p (Some s) = Some (trees_at p (ids_of s))

abbrev pub IdsBelow : ℕ → Option TermIds → Type 0
IdsBelow n None = Unit {0}
IdsBelow n (Some s) = AllBelow n (ids_of s)
