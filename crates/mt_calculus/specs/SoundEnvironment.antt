-- Sound environments: each entry by strict derivations over the entries before it.
use Rattle.std.specs.Prelude.{◌≡◌, ◌≤◌, ℕ, zero, suc, Bool, true, false}
use Rattle.std.specs.Prelude.{List, [], ◌∷◌, ◌++◌, take, Some, slice_get}
use Rattle.mt_term.specs.Trees.{Tree, Bytes, Sort, Prod}
use Rattle.mt_term.specs.declared.universes.Sort.{Sort as AnySort}
use Rattle.mt_term.specs.declared.universes.Sort.TheVariants.{Prop, Typ}
use Rattle.mt_term.specs.declared.universes.UnivExpr.{UnivExpr}
use Rattle.mt_term.specs.Universes.{Satisfiable, SortIsAtMost}
use Rattle.mt_term.specs.Declarations.{Constructor, Declaration, Environment}
use Rattle.mt_term.specs.Declarations.{Axiom, Definition, Inductive, Recursive}
use Rattle.mt_term.specs.Substitution.{products}
use Rattle.mt_calculus.specs.Typing.{Has, Strict}
use Rattle.mt_calculus.specs.Positivity.{Positive}
use Rattle.mt_calculus.specs.Guard.{GuardedRecursive, GuardedCorecursive}

-- an environment's first c entries, with its universes and constraints
abbrev pub before : Environment → ℕ → Environment
before E c = record { entries = take c (E.entries); names = E.names; below = E.below }

-- an environment with one more entry
abbrev pub with_entry : Environment → Declaration → Environment
with_entry E d = record { entries = E.entries ++ (d ∷ []); names = E.names; below = E.below }

-- a type is, as it stands, products and this sort
pub data Arity (s : AnySort) : Tree → Type 0 where
  arity_sort : Arity s (Sort s)
  arity_product : {x : Bytes} {A B : Tree} → Arity s B → Arity s (Prod x A B)

-- something holds of each argument's type past the first ones, in the context of those before it
abbrev pub EachArgument : (List Tree → Tree → Type 0) → ℕ → List Tree → Tree → Type 0
EachArgument Q (suc p) Γ (Prod x A B) = EachArgument Q p (A ∷ Γ) B
EachArgument Q zero Γ (Prod x A B) = Q Γ A × EachArgument Q zero (A ∷ Γ) B
EachArgument Q p Γ C = Unit {0}

-- a type has a sort that is at most another
abbrev pub SortedAtMost : Environment → AnySort → List Tree → Tree → Type 0
SortedAtMost E s Γ A = (r : AnySort) × Strict E Γ (Has A (Sort r)) × SortIsAtMost (E.below) r s

-- Unless the sort of a type with p parameters is Prop, each argument of a constructor past these
-- has a type of a sort at most it.
abbrev pub ArgumentSorts : Environment → AnySort → ℕ → Tree → Type 0
ArgumentSorts E Prop p C = Unit {0}
ArgumentSorts E (Typ U) p C = EachArgument (SortedAtMost E (Typ U)) p [] C

-- A constructor of type n, which has p parameters, the type T and the sort s, is sound; E knows the
-- type, without constructors.
pub record SoundConstructor (E : Environment) (n p : ℕ) (T : Tree) (s : AnySort) (C : Tree) :
    Type 0 where
  pub sort : AnySort
  pub typed : Strict E [] (Has C (Sort sort))
  pub positive : Positive n p T C
  pub arguments : ArgumentSorts E s p C

-- each constructor of a list is sound
abbrev pub SoundConstructors : Environment → ℕ → ℕ → Tree → AnySort → List Constructor → Type 0
SoundConstructors E n p T s cs =
    (k : ℕ) (c : Constructor) → slice_get cs k ≡ Some c → SoundConstructor E n p T s (c.ty)

-- What allows a match on a type into every sort: its sort is not Prop, or it has no constructor, or
-- one, whose arguments past the parameters have types of sort Prop.
pub data LargeAllowed (E : Environment) (p : ℕ) : AnySort → List Constructor → Type 0 where
  not_prop : {U : UnivExpr} {cs : List Constructor} → LargeAllowed E p (Typ U) cs
  no_constructor : {s : AnySort} → LargeAllowed E p s []
  one_constructor : {s : AnySort} {c : Constructor}
      → EachArgument (λ Γ A. Strict E Γ (Has A (Sort Prop))) p [] (c.ty)
      → LargeAllowed E p s (c ∷ [])

-- Entry n is sound over the entries before it, which are those of E.
pub data SoundEntry (E : Environment) (n : ℕ) : Declaration → Type 0 where
  -- Axiom.
  --          ⊢ T : s
  --     ───────────────
  --      axiom x : T
  sound_axiom : {x : Bytes} {T : Tree} {s : AnySort} → Strict E [] (Has T (Sort s))
      → SoundEntry E n (Axiom x T)
  -- Definition.
  --      ⊢ T : s     ⊢ b : T
  --     ─────────────────────
  --      definition x : T := b
  sound_definition : {x : Bytes} {T b : Tree} {s : AnySort}
      → Strict E [] (Has T (Sort s)) → Strict E [] (Has b T)
      → SoundEntry E n (Definition x T b)
  -- Inductive or coinductive type, with p parameters and the sort s. Over E with the type alone,
  -- each constructor is sound, and where the type is large, that is allowed.
  --      ⊢ T : r     T is Π ... s, of p products or more     each constructor in cs is sound
  --     ──────────────────────────────────────────────────────────────────────────────────────
  --                             inductive x : T := cs
  sound_inductive : {x : Bytes} {co l : Bool} {p : ℕ} {T : Tree} {cs : List Constructor}
      {s r : AnySort}
      → Strict E [] (Has T (Sort r)) → Arity s T → p ≤ products T
      → SoundConstructors (with_entry E (Inductive x co p T [] true)) n p T s cs
      → (l ≡ true → LargeAllowed (with_entry E (Inductive x co p T [] true)) p s cs)
      → SoundEntry E n (Inductive x co p T cs l)
  -- Recursive function.
  --      ⊢ T : s     x : T ⊢ b : T     b is guarded, at the recursive place
  --     ────────────────────────────────────────────────────────────────────
  --                     recursive x : T := b
  sound_recursive : {x : Bytes} {made : Bool} {binders place : ℕ} {T b : Tree} {s : AnySort}
      → Strict E [] (Has T (Sort s)) → Strict (with_entry E (Axiom x T)) [] (Has b T)
      → GuardedRecursive E n binders place b
      → SoundEntry E n (Recursive x false binders place T b made)
  -- Corecursive function.
  --      ⊢ T : s     x : T ⊢ b : T     b is guarded
  --     ────────────────────────────────────────────
  --                 corecursive x : T := b
  sound_corecursive : {x : Bytes} {made : Bool} {binders place : ℕ} {T b : Tree} {s : AnySort}
      → Strict E [] (Has T (Sort s)) → Strict (with_entry E (Axiom x T)) [] (Has b T)
      → GuardedCorecursive E n binders T b
      → SoundEntry E n (Recursive x true binders place T b made)

-- an environment is sound: some valuation meets its constraints, and each entry is sound
pub record SoundEnvironment (E : Environment) : Type 0 where
  pub satisfiable : Satisfiable (E.below)
  pub entries : (n : ℕ) (d : Declaration) → slice_get (E.entries) n ≡ Some d
      → SoundEntry (before E n) n d
