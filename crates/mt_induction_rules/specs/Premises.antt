-- What an induction asks of a constructor: its premise.
--
-- The premise of a constructor is a product over its arguments. An argument a at a recursive place,
-- of type `∀ys:B.I p vs`, is followed at once by a hypothesis, unnamed, of type `∀ys:B.P vs (a
-- ys)`.
-- The result is P on the indices of the constructor's result and on the constructor on the
-- parameters and its arguments.
use Rattle.std.specs.Prelude.{ℕ, zero, suc, List, [], ◌∷◌, Bool, true, false}
use Rattle.mt_term.specs.Trees.{Tree, Var, Prod, App, End, Item}
use Rattle.mt_term.specs.Substitution.{ren, all_but, join}
use Rattle.mt_term.specs.Spines.{motive_on_all}
use Rattle.mt_positivity.specs.Deciding.{is_recursive}
use Rattle.mt_refinement_rules.specs.Matches.{unnamed}
use Rattle.mt_induction_rules.specs.Telescopes.{or_x, arguments}

-- ---- recursive places

-- which arguments past d others stand at recursive places of type e, which has p parameters and so
-- many indices
abbrev pub places_past : ℕ → ℕ → ℕ → ℕ → Tree → List Bool
places_past e p indices d (Prod y A C) =
    is_recursive e p indices d A ∷ places_past e p indices (suc d) C
places_past e p indices d u = []

-- what is left of a type past so many products
abbrev pub past_products : ℕ → Tree → Tree
past_products (suc p) (Prod y A C) = past_products p C
past_products p C = C

-- Which arguments of a constructor stand at recursive places. They are those of its declared type,
-- before its parameters are replaced.
abbrev pub recursive_places : ℕ → ℕ → ℕ → Tree → List Bool
recursive_places e p indices C = places_past e p indices zero (past_products p C)

-- ---- premises

-- a predicate on the indices of a type, which has p parameters, and on a term of that type
abbrev pub holds_of : ℕ → Tree → Tree → Tree → Tree
holds_of p r u t = motive_on_all r (join (all_but p (arguments u)) (Item t End))

-- the hypothesis for an argument a of the type `∀ys:B.I p vs`: `∀ys:B.P vs (a ys)`
abbrev pub hypothesis : ℕ → Tree → Tree → Tree → Tree
hypothesis p r a (Prod y A B) =
    Prod (or_x y) A (hypothesis p (ren suc r) (App (ren suc a) (Var zero)) B)
hypothesis p r a u = holds_of p r u a

-- the premise of a constructor c on the parameters, by its type there; the list tells which of its
-- arguments stand at recursive places
abbrev pub premise : ℕ → Tree → Tree → List Bool → Tree → Tree
premise p r c (true ∷ bs) (Prod y A B) =
    Prod (or_x y) A
    (Prod unnamed (hypothesis p (ren suc r) (Var zero) (ren suc A))
    (premise p (ren suc (ren suc r)) (App (ren suc (ren suc c)) (Var 1)) bs (ren suc B)))
premise p r c (false ∷ bs) (Prod y A B) =
    Prod (or_x y) A (premise p (ren suc r) (App (ren suc c) (Var zero)) bs B)
premise p r c bs u = holds_of p r u c
