-- Proper stores: a store that mentions its own metavariables alone, none of them below itself. Nothing is asked of types.
use Rattle.std.specs.Prelude.{◌≡◌, ℕ, List, [], ◌∷◌, Some, slice_get}
use Rattle.mt_term.specs.Trees.{Tree}
use Rattle.mt_term.specs.Declarations.{Hypothesis, Constructor, Declaration, Axiom, Definition, Inductive, Recursive, Environment}
use Rattle.mt_term.specs.States.{Equation, Hint}
use Rattle.mt_term.specs.Stores.{Owned, Acyclic, AllMetas, AllMetasOf, InStore, store_of}
use Rattle.mt_rules.specs.Inference.{context_types}
use Rattle.mt_unification_rules.specs.Placeholders.{Metas}
use Rattle.mt_unification_laws.specs.TypedHints.{EachHint}

pub record Proper (ms : Metas) : Type 0 where
  pub owned : Owned (store_of ms)
  pub acyclic : Acyclic (store_of ms)

-- a term, and the types of a context, mention metavariables of the store alone
abbrev pub Own : Metas → Tree → Type 0
Own ms t = AllMetas (InStore (store_of ms)) t

abbrev pub OwnContext : Metas → List Hypothesis → Type 0
OwnContext ms Γ = AllMetasOf (InStore (store_of ms)) (context_types Γ)

-- no metavariable stands in a term, a list of constructors, an entry
abbrev pub MetaFree : Tree → Type 0
MetaFree t = AllMetas (λ n. ⊥) t

abbrev pub MetaFreeConstructors : List Constructor → Type 0
MetaFreeConstructors [] = Unit {0}
MetaFreeConstructors (c ∷ cs) = MetaFree c.ty × MetaFreeConstructors cs

abbrev pub MetaFreeEntry : Declaration → Type 0
MetaFreeEntry (Axiom x T) = MetaFree T
MetaFreeEntry (Definition x T b) = MetaFree T × MetaFree b
MetaFreeEntry (Inductive x co p T cs l) = MetaFree T × MetaFreeConstructors cs
MetaFreeEntry (Recursive x co n r T b made) = MetaFree T × MetaFree b

-- nor in an environment, nor in hints
abbrev pub MetaFreeEnvironment : Environment → Type 0
MetaFreeEnvironment E = (c : ℕ) (d : Declaration) → slice_get E.entries c ≡ Some d → MetaFreeEntry d

abbrev pub MetaFreeTypes : List Hypothesis → Type 0
MetaFreeTypes [] = Unit {0}
MetaFreeTypes (h ∷ hs) = MetaFree h.ty × MetaFreeTypes hs

abbrev pub MetaFreeTerms : List Equation → Type 0
MetaFreeTerms [] = Unit {0}
MetaFreeTerms (e ∷ es) = MetaFree e.term × MetaFreeTerms es

pub record MetaFreeHint (h : Hint) : Type 0 where
  pub vars : MetaFreeTypes h.vars
  pub eqs : MetaFreeTerms h.eqs
  pub left : MetaFree h.left
  pub right : MetaFree h.right

abbrev pub MetaFreeHints : List Hint → Type 0
MetaFreeHints hs = EachHint MetaFreeHint hs
