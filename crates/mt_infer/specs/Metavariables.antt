-- The terms of a metavariable against the types of its hypotheses, as inference goes along both.
use Rattle.std.specs.Prelude.{List, [], ◌∷◌}
use Rattle.mt_term.specs.Trees.{Tree, Trees}
use Rattle.mt_term.specs.Declarations.{Hypothesis, Environment}
use Rattle.mt_rules.specs.Charges.{Charged}
use Rattle.mt_rules.specs.Inference.{infer_terms}
use Rattle.mt_term.specs.Stores.{Store}
use Rattle.mt_term.specs.Substitution.{beyond, fill}
use Rattle.mt_pool.specs.declared.nodes.TermId.{TermId}
use Rattle.mt_pool.specs.Region.{tree_at}

-- the types that these ids name
abbrev pub types_in : List Tree → List TermId → List Tree
types_in p [] = []
types_in p (k ∷ ks) = tree_at p k ∷ types_in p ks

-- the terms against the types, where these terms are the earlier ones
unfoldable pub terms_fit : Environment → Store → List Hypothesis → Trees → List Tree → Trees
    → Charged (Unit {0})
terms_fit E S Γ s more earlier = infer_terms E S Γ s more (fill earlier beyond)
