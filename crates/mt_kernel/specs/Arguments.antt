-- The arguments, the optional terms and the branches that the program holds.
use Rattle.std.specs.Prelude.{Option, Some, None, List}
use Rattle.mt_term.specs.Trees.{Bytes, Tree, Trees, End, Item}
use Rattle.mt_term.specs.TreeOf.{tree_of}
use Rattle.mt_term.specs.declared.terms.Term.{Term}
use Rattle.mt_term.specs.declared.terms.Branch.{Branch}
use denote.Bor.{Bor}
use Rattle.mt_kernel.specs.declared.arguments.Args.{Args, End as NoMore, More'}

-- arguments, the first of which is the innermost
abbrev pub args_of : Args → Trees
args_of NoMore = End
args_of (More' a q rest) = Item (tree_of a.now) (args_of rest)

abbrev pub tree_in : Option Term → Option Tree
tree_in None = None
tree_in (Some t) = Some (tree_of t)

-- a branch, as its names and its body
abbrev pub seen_branch : Option (Bor Branch) → Option (List Bytes × Tree)
seen_branch None = None
seen_branch (Some b) = Some (b.now.names, tree_of b.now.body)
