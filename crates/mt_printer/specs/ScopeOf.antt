-- What the program's scopes and parts under a binder say.
use Rattle.std.specs.Prelude.{List, [], ◌∷◌, map, Option}
use Rattle.mt_term.specs.Trees.{Tree, Bytes}
use Rattle.mt_term.specs.TreeOf.{tree_of}
use Rattle.mt_term.specs.Declarations.{Hypothesis}
use Rattle.mt_term.specs.HypothesisOf.{hypothesis_of}
use Rattle.mt_term.specs.declared.hypotheses.Hyp.{Hyp}
use Rattle.mt_term.specs.declared.terms.Term.{Term}
use Rattle.mt_printer.specs.Chosen.{Scope}
use Rattle.mt_printer.specs.Telescopes.{Style, groups, lines, variables}
use Rattle.mt_printer.specs.declared.telescopes.Style.{Style as TheStyle}
use Rattle.mt_printer.specs.declared.telescopes.Style.TheVariants.{Groups, Lines, Variables}
use denote.Bor.{Bor}

-- the names of a stack, the newest last, before those of a scope
abbrev pub turned : List (Option Bytes) → Scope → Scope
turned [] s = s
turned (x ∷ xs) s = turned xs (x ∷ s)

-- the terms behind references
abbrev pub trees_behind : List (Bor Term) → List Tree
trees_behind ts = map (λ t. tree_of t.now) ts

-- the hypotheses that the program's say
abbrev pub hypotheses_of : List Hyp → List Hypothesis
hypotheses_of hs = map hypothesis_of hs

-- a scope without its newest name
abbrev pub outer : Scope → Scope
outer [] = []
outer (x ∷ s) = s

-- what stands around hypotheses
abbrev pub style_of : TheStyle → Style
style_of Groups = groups
style_of Lines = lines
style_of Variables = variables
