-- The motive for a goal, by a term of an inductive type.
--
-- It is an abstraction over the indices and the term, with the names of the type's own binders and
-- `x`. Its body is the instance of the goal, in which each part alike to the term's instance is the
-- term's variable, and else each one alike to an index, as this stands, is the variable of the
-- first such index.
use Rattle.std.specs.Prelude.{zero, suc, ◌+◌, List, [], ◌∷◌}
use Rattle.mt_term.specs.Trees.{Tree, Trees, Ind, End, Item}
use Rattle.mt_term.specs.Substitution.{apps, count}
use Rattle.mt_term.specs.Instancing.{instance}
use Rattle.mt_rules.specs.Inference.{Family}
use Rattle.mt_unification_rules.specs.Placeholders.{Typed}
use Rattle.mt_action_rules.specs.Abstraction.{Abstracted, abstract_from}
use Rattle.mt_induction_rules.specs.Telescopes.{abstracted, with_value}

-- indices, the first one first, and their variables; the term's comes after them
abbrev pub index_variables : Trees → List Abstracted
index_variables End = []
index_variables (Item u s) = record { term = u; variable = suc (count s) } ∷ index_variables s

-- a term, and then indices, with their variables
abbrev pub split_variables : Tree → Trees → List Abstracted
split_variables t s = record { term = t; variable = zero } ∷ index_variables s

-- the goal with variables for a term and its type's indices
abbrev pub motive_body : Typed → Trees → Tree → Tree
motive_body t s G =
    abstract_from (split_variables (instance t.store t.term) s) (λ i. i + suc (count s))
    (instance t.store G)

abbrev pub motive : Typed → Family → Tree → Tree
motive t f G =
    abstracted (with_value f.arity (apps (Ind f.number) f.params) []) (motive_body t f.indices G)
