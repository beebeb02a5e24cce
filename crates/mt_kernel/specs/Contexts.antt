-- The contexts that the program holds.
use Rattle.std.specs.Prelude.{ℕ, zero, List, [], ◌∷◌, Option, Some, None}
use Rattle.mt_term.specs.Trees.{Tree}
use Rattle.mt_term.specs.TreeOf.{tree_of}
use Rattle.mt_term.specs.Lifting.{lift}
use Rattle.mt_term.specs.Declarations.{Hypothesis}
use Rattle.mt_term.specs.declared.terms.Term.{Term}
use Rattle.mt_kernel.specs.declared.contexts.Context.{Context, Empty, More'}
use denote.Bor.{Bor}

-- the hypotheses, innermost first
abbrev pub hypotheses_of : Context → List Hypothesis
hypotheses_of Empty = []
hypotheses_of (More' x a q rest) = record { name = x.now; ty = tree_of a.now } ∷ hypotheses_of rest

-- a term that was found, lifted by so much
abbrev pub lifted_by : ℕ → Option (Bor Term) → Option Tree
lifted_by by None = None
lifted_by by (Some t) = Some (lift by zero (tree_of t.now))
