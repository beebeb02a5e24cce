-- What a search through terms and metavariables finds.
use Rattle.std.specs.Prelude.{ℕ, ◌≡◌, ◌==◌, Bool, false, List, [], ◌∷◌, ◌++◌, map, Option, Some}
use Rattle.std.specs.Prelude.{None, slice_get, ◌⊎◌}
use Rattle.mt_term.specs.Trees.{Bytes}
use Rattle.mt_pool.specs.declared.nodes.TermId.{TermId}
use Rattle.mt_pool.specs.declared.nodes.Node.{Node}
use Rattle.mt_pool.specs.declared.nodes.Node.TheVariants.{Var, Sort, Prod, Lam, App, Const, Ind}
use Rattle.mt_pool.specs.declared.nodes.Node.TheVariants.{Con, Match, Meta}
use Rattle.mt_pool.specs.declared.contexts.HeldHyp.{HeldHyp}
use Rattle.mt_pool.specs.Region.{ids_of, branches_of}
use Rattle.mt_store.specs.declared.metavariables.HeldMeta.{HeldMeta}

abbrev pub id_at : ℕ → TermId
id_at n = record { at = n }

-- an id is one of those found
abbrev pub IsFound : List TermId → TermId → Type 0
IsFound [] k = ⊥
IsFound (j ∷ js) k = (j ≡ k) ⊎ IsFound js k

-- all ids of the second list are
abbrev pub AreFound : List TermId → List TermId → Type 0
AreFound ks [] = Unit {0}
AreFound ks (j ∷ js) = IsFound ks j × AreFound ks js

-- With these ids: all of them are found, and after those that were found before stands none but
-- these.
pub record Adds (old new ids : List TermId) : Type 0 where
  pub found : AreFound new ids
  pub more : List TermId
  pub after : new ≡ old ++ more
  pub only : AreFound ids more

-- the bodies of branches
abbrev pub body_held : List Bytes × TermId → TermId
body_held b = b.1

abbrev pub bodies_of : List (List Bytes × TermId) → List TermId
bodies_of bs = map body_held bs

-- the types of a context
abbrev pub hypothesis_type : HeldHyp → TermId
hypothesis_type h = h.ty

abbrev pub types_held : List HeldHyp → List TermId
types_held Γ = map hypothesis_type Γ

abbrev pub body_ids : Option TermId → List TermId
body_ids None = []
body_ids (Some t) = t ∷ []

-- the types in the context of a metavariable, its type and its body
abbrev pub held_ids : HeldMeta → List TermId
held_ids m = types_held m.context ++ m.ty ∷ body_ids m.body

-- those of a metavariable that may be there
abbrev pub some_ids : Option HeldMeta → List TermId
some_ids None = []
some_ids (Some m) = held_ids m

abbrev pub ids_at : List HeldMeta → ℕ → List TermId
ids_at ms n = some_ids (slice_get ms n)

-- what a node leads to: its parts, and what a metavariable holds
abbrev pub next_ids : List HeldMeta → Node → List TermId
next_ids ms (Var i) = []
next_ids ms (Sort s) = []
next_ids ms (Prod x a b) = a ∷ b ∷ []
next_ids ms (Lam x a b) = a ∷ b ∷ []
next_ids ms (App f a) = f ∷ a ∷ []
next_ids ms (Const c) = []
next_ids ms (Ind e) = []
next_ids ms (Con e k) = []
next_ids ms (Match e r c bs) = r ∷ c ∷ bodies_of (branches_of bs)
next_ids ms (Meta m s) = ids_of s ++ ids_at ms m

-- whether a node is metavariable n
abbrev pub is_meta : ℕ → Node → Bool
is_meta n (Meta m s) = m == n
is_meta n node = false
