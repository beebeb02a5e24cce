-- The names of a context, where nothing but some terms stands under it.
use Rattle.std.specs.Prelude.{List, [], ◌∷◌, ◌++◌}
use Rattle.mt_term.specs.Trees.{Tree, Bytes}
use Rattle.mt_term.specs.Declarations.{Declaration, Hypothesis}
use Rattle.mt_printer.specs.Chosen.{chosen, scope_of_names}

-- the names of hypotheses, oldest first, after others; each is chosen against the terms alone
abbrev pub names_onto : List Declaration → List Bytes → List Hypothesis → List Tree → List Bytes
names_onto es xs [] parts = xs
names_onto es xs (h ∷ hs) parts = names_onto es (xs ++ chosen es (scope_of_names xs []) h.name parts ∷ []) hs parts

unfoldable pub context_names : List Declaration → List Hypothesis → List Tree → List Bytes
context_names es hs parts = names_onto es [] hs parts
