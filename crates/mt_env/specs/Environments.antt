-- Environments that are held in a pool, as contracts see them.
use Rattle.std.specs.Prelude.{ℕ, ◌+◌, ◌≡◌, List, [], ◌∷◌, ◌++◌, map, length, take, Option, Some}
use Rattle.std.specs.Prelude.{None, slice_get}
use Rattle.mt_term.specs.Trees.{Tree}
use Rattle.mt_term.specs.Declarations.{Declaration, Environment}
use Rattle.mt_term.specs.Naming.{Naming, naming, naming_entry}
use Rattle.mt_pool.specs.declared.nodes.TermId.{TermId}
use Rattle.mt_pool.specs.declared.held.HeldConstructor.{HeldConstructor}
use Rattle.mt_pool.specs.declared.held.Held.{Held}
use Rattle.mt_pool.specs.declared.held.Held.TheVariants.{Axiom, Definition, Inductive, Recursive}
use Rattle.mt_pool.specs.HeldOf.{declaration_in, HeldBelow}
use Rattle.mt_universe.specs.Graphs.{Universes, as_at, no_names}
use Rattle.mt_env.specs.declared.refs.Ref.{Ref}
use Rattle.mt_env.specs.declared.refs.Ref.TheVariants.{Const, Ind, Con}
use Rattle.mt_env.specs.Names.{Distinct}

-- the entries, oldest first, and the graph of universes
pub record HeldEnvironment : Type 0 where
  pub entries : List Held
  pub graph : Universes

abbrev pub no_entries : HeldEnvironment
no_entries = record { entries = []; graph = no_names }

-- the entries as the pool says them
abbrev pub declarations_in : List Tree → List Held → List Declaration
declarations_in p es = map (declaration_in p) es

-- the environment as the pool says it
abbrev pub environment_in : List Tree → HeldEnvironment → Environment
environment_in p e =
    record { entries = declarations_in p e.entries; names = e.graph.names; below = e.graph.below }

-- the ids of all entries are held where there are n
abbrev pub EntriesBelow : ℕ → List Held → Type 0
EntriesBelow n [] = Unit {0}
EntriesBelow n (h ∷ hs) = HeldBelow n h × EntriesBelow n hs

-- the names of entries and what they stand for, whatever the pool says
abbrev pub names_held : List Held → Naming
names_held es = naming (declarations_in [] es)

-- with an entry after the others, which the pool says to be d
abbrev pub IsAdded : HeldEnvironment → HeldEnvironment → List Tree → Declaration → Type 0
IsAdded old new p d =
    (h : Held) × (new ≡ record old { entries = old.entries ++ h ∷ [] }) × HeldBelow (length p) h
    × (declaration_in p h ≡ d)

-- as it stood after so many entries and constraints
abbrev pub back_at : HeldEnvironment → ℕ → ℕ → HeldEnvironment
back_at e entries constraints =
    record { entries = take entries e.entries; graph = as_at e.graph constraints }

-- the type of an entry
abbrev pub type_held : Held → TermId
type_held (Axiom name ty) = ty
type_held (Definition name ty body) = ty
type_held (Inductive name co params ty cons large) = ty
type_held (Recursive name co binders place ty body made) = ty

abbrev pub constructors_held : Held → List HeldConstructor
constructors_held (Inductive name co params ty cons large) = cons
constructors_held h = []

abbrev pub type_of_entry : Option Held → Option TermId
type_of_entry None = None
type_of_entry (Some h) = Some (type_held h)

abbrev pub type_of_constructor : Option HeldConstructor → Option TermId
type_of_constructor None = None
type_of_constructor (Some c) = Some c.ty

abbrev pub constructor_type : Option Held → ℕ → Option TermId
constructor_type None k = None
constructor_type (Some h) k = type_of_constructor (slice_get (constructors_held h) k)

-- the type of what a reference names, where it is there
abbrev pub type_named : List Held → Ref → Option TermId
type_named es (Const n) = type_of_entry (slice_get es n)
type_named es (Ind n) = type_of_entry (slice_get es n)
type_named es (Con n k) = constructor_type (slice_get es n) k

-- where the names of each entry begin among all, from n on
abbrev pub starts_from : ℕ → List Held → List ℕ
starts_from n [] = []
starts_from n (h ∷ hs) = n ∷ starts_from (n + length (naming_entry 0 (declaration_in [] h))) hs

-- how an environment keeps its names
pub record IsKept (es : List Held) (starts : List ℕ) (names : Naming) : Type 0 where
  pub names_are : names ≡ names_held es
  pub starts_are : starts ≡ starts_from 0 es
  pub distinct : Distinct names
