-- Contexts of products, and terms closed over them. A context stands innermost hypothesis first.
use Rattle.std.specs.Prelude.{ℕ, zero, suc, List, [], ◌∷◌, if◌then◌else◌}
use Rattle.std.specs.Str.{bytes_eq}
use Rattle.mt_term.specs.Trees.{Bytes, Tree, Trees, Var, Prod, Lam, App, End, Item}
use Rattle.mt_term.specs.Substitution.{ren, sub, one}
use Rattle.mt_term.specs.Declarations.{Hypothesis}
use Rattle.mt_refinement_rules.specs.Matches.{unnamed}

-- the name of a binder that is made
abbrev pub named_x : Bytes
named_x = 120 ∷ []

-- the name of a binder that is made after another: x where that one is `_`
abbrev pub or_x : Bytes → Bytes
or_x y = if bytes_eq y unnamed then named_x else y

-- a term abstracted over a context
abbrev pub abstracted : List Hypothesis → Tree → Tree
abstracted [] t = t
abstracted (h ∷ Γ) t = abstracted Γ (Lam h.name h.ty t)

-- the product over a context
abbrev pub generalized : List Hypothesis → Tree → Tree
generalized [] t = t
generalized (h ∷ Γ) t = generalized Γ (Prod h.name h.ty t)

-- a context, and so many first products of a type
abbrev pub first_products : ℕ → Tree → List Hypothesis → List Hypothesis
first_products (suc p) (Prod y A B) Γ =
    first_products p B (record { name = or_x y; ty = A } ∷ Γ)
first_products p T Γ = Γ

-- a context, the indices of an arity, and a value of the type h on them
abbrev pub with_value : Tree → Tree → List Hypothesis → List Hypothesis
with_value (Prod y A B) h Γ =
    with_value B (App (ren suc h) (Var zero)) (record { name = or_x y; ty = A } ∷ Γ)
with_value s h Γ = record { name = named_x; ty = h } ∷ Γ

-- the type of a function of this type on terms, where it is, as it stands, as many products
abbrev pub type_on : Tree → Trees → Tree
type_on T End = T
type_on (Prod y A B) (Item u s) = type_on (sub (one u) B) s
type_on T (Item u s) = T

-- the arguments of a term, as it stands, before others
abbrev pub arguments_before : Tree → Trees → Trees
arguments_before (App f a) s = arguments_before f (Item a s)
arguments_before t s = s

abbrev pub arguments : Tree → Trees
arguments t = arguments_before t End

-- the names of a constructor's arguments in a branch, by what is left of its type
abbrev pub argument_names : Tree → List Bytes
argument_names (Prod y A B) = or_x y ∷ argument_names B
argument_names u = []
