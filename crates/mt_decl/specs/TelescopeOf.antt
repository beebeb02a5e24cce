-- The contexts that the program holds while it declares an entry.
use Rattle.std.specs.Prelude.{List, [], ◌∷◌}
use Rattle.mt_term.specs.TreeOf.{tree_of}
use Rattle.mt_term.specs.Declarations.{Hypothesis}
use Rattle.mt_decl.specs.declared.telescopes.Telescope.{Telescope, Empty, More'}

-- the hypotheses, innermost first
abbrev pub hypotheses_of : Telescope → List Hypothesis
hypotheses_of Empty = []
hypotheses_of (More' x a q rest) = record { name = x.now; ty = tree_of a.now } ∷ hypotheses_of rest
