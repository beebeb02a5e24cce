-- The action `generalize`.
use Rattle.std.specs.Prelude.{ℕ, None, codes}
use Rattle.mt_term.specs.Trees.{Bytes, Tree, Prod, App}
use Rattle.mt_term.specs.Instancing.{instance}
use Rattle.mt_term.specs.Stores.{store_of}
use Rattle.mt_rules.specs.Inference.{infer}
use Rattle.mt_unification_rules.specs.Placeholders.{Typed, placeholder}
use Rattle.mt_term_parser.specs.Written.{Written}
use Rattle.mt_refinement_rules.specs.Placed.{◌>>=◌, by, in_store}
use Rattle.mt_refinement_rules.specs.Settings.{Setting}
use Rattle.mt_refinement_rules.specs.Refinement.{refine}
use Rattle.mt_action_rules.specs.Abstraction.{abstract_one}
use Rattle.mt_action_rules.specs.Goals.{Rule, fill_by}

-- the name of a variable that a rule makes
abbrev pub variable : Bytes
variable = codes "x"

-- `∀x:T.G'` for a term of type T and a goal G: the instance of the term is abstracted from that of
-- G
abbrev pub generalization : Typed → Tree → Tree
generalization t G =
    Prod variable t.ty (abstract_one (instance t.store t.term) (instance t.store G))

-- `generalize t`: the new goal is that product, which must have a type
abbrev pub by_generalize : Setting → ℕ → Written → Rule
by_generalize S at w g ms = do
  t ← refine S ms g.context w None
  _ ← in_store t.store (by at (infer S.env (store_of t.store) g.context (generalization t g.ty)))
  fill_by at g (λ f. App f t.term) (placeholder t.store g.context (generalization t g.ty))
