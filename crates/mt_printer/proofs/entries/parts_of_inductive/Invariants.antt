use Rattle.std.proofs.Common.{◌≡◌, ◌++◌, drop}
use Rattle.mt_term.specs.TreeOf.{tree_of}
use Rattle.mt_printer.specs.EnvText.{inductive_parts, parts_of_constructors}
use Rattle.mt_printer.specs.ScopeOf.{trees_behind}
use Rattle.mt_printer.proofs.entries.parts_of_inductive.Given as goal

abbrev pub invariant-loop-k : goal.invariant-loop-k
invariant-loop-k l = trees_behind l.parts.items ++ parts_of_constructors l.params (drop l.k l.cons) ≡ inductive_parts l.params (tree_of l.ty) l.cons
