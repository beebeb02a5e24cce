-- Terms closed over a context, and the sort at the end of an arity.
use Rattle.std.specs.Prelude.{List, [], ◌∷◌, Option, Some, None}
use Rattle.mt_term.specs.Trees.{Tree, Bytes, Sort, Prod, Lam}
use Rattle.mt_term.specs.Declarations.{Hypothesis}
use Rattle.mt_term.specs.declared.universes.Sort.{Sort as AnySort}

-- a term abstracted over a context, which stands innermost first
abbrev pub abstracted : List Hypothesis → Tree → Tree
abstracted [] t = t
abstracted (h ∷ Γ) t = abstracted Γ (Lam h.name h.ty t)

-- the product over a context
abbrev pub generalized : List Hypothesis → Tree → Tree
generalized [] t = t
generalized (h ∷ Γ) t = generalized Γ (Prod h.name h.ty t)

-- the names of a context
abbrev pub names_of : List Hypothesis → List Bytes
names_of [] = []
names_of (h ∷ Γ) = h.name ∷ names_of Γ

-- the sort that ends an arity, which is products and a sort as it stands
abbrev pub result_sort : Tree → Option AnySort
result_sort (Sort s) = Some s
result_sort (Prod x A B) = result_sort B
result_sort _ = None
