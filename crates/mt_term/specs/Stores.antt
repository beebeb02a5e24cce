-- Stores of metavariables.
use mathlib.Core.Path.{refl, ap}
use Rattle.std.specs.Prelude.{◌≡◌, ◌≢◌, ◌≤◌, ℕ, List, [], ◌∷◌, length, Option, Some, None}
use Rattle.std.specs.Prelude.{option_map, slice_get, ◌⊎◌}
use Rattle.std.proofs.lemmas.Option.{slice_get_past}
use Rattle.mt_term.specs.Declarations.{Hypothesis}
use Rattle.mt_term.specs.States.{Metavariable}
use Rattle.mt_term.specs.Trees.{Tree, Trees, Arms, Var, Sort, Prod, Lam, App, Const, Ind, Con}
use Rattle.mt_term.specs.Trees.{Match, Meta, End, Item, NoArm, Arm}

-- a metavariable as judgements see it: the types of its context, innermost first, its type, and
-- perhaps a body
pub record Declared : Type 0 where
  pub context : List Tree
  pub ty : Tree
  pub body : Option Tree

-- a finite map from numbers to metavariables; there is none from the bound on
pub record Store : Type 0 where
  pub at : ℕ → Option Declared
  pub bound : ℕ
  pub none : (n : ℕ) → bound ≤ n → at n ≡ None

-- the store without metavariables
abbrev pub no_metavariable : ℕ → Option Declared
no_metavariable n = None

abbrev pub no_store : Store
no_store = record { at = no_metavariable; bound = 0; none = λ n h. refl }

-- the types of hypotheses, which stand oldest first, before those of a context
abbrev pub types_onto : List Hypothesis → List Tree → List Tree
types_onto [] Γ = Γ
types_onto (h ∷ more) Γ = types_onto more (h.ty ∷ Γ)

-- a context with names, as judgements see it
abbrev pub types_of : List Hypothesis → List Tree
types_of hs = types_onto hs []

-- a metavariable with names, as judgements see it
abbrev pub declared_as : Metavariable → Declared
declared_as m = record { context = types_of m.context; ty = m.ty; body = m.body }

-- a list of metavariables by their places, as judgements see it
abbrev pub store_of : List Metavariable → Store
store_of ms =
    record {
      at = λ n. option_map declared_as (slice_get ms n);
      bound = length ms;
      none = λ n h. ap (option_map declared_as) (slice_get_past ms n h);
    }

-- each metavariable that stands in a term is in a set
abbrev mutual
  pub AllMetas : (ℕ → Type 0) → Tree → Type 0
  AllMetas P (Var i) = Unit {0}
  AllMetas P (Sort s) = Unit {0}
  AllMetas P (Prod x A B) = AllMetas P A × AllMetas P B
  AllMetas P (Lam x A b) = AllMetas P A × AllMetas P b
  AllMetas P (App f a) = AllMetas P f × AllMetas P a
  AllMetas P (Const c) = Unit {0}
  AllMetas P (Ind e) = Unit {0}
  AllMetas P (Con e k) = Unit {0}
  AllMetas P (Match e R c bs) = AllMetas P R × AllMetas P c × AllMetasArms P bs
  AllMetas P (Meta n s) = P n × AllMetasIn P s

  pub AllMetasIn : (ℕ → Type 0) → Trees → Type 0
  AllMetasIn P End = Unit {0}
  AllMetasIn P (Item t s) = AllMetas P t × AllMetasIn P s

  pub AllMetasArms : (ℕ → Type 0) → Arms → Type 0
  AllMetasArms P NoArm = Unit {0}
  AllMetasArms P (Arm xs b bs) = AllMetas P b × AllMetasArms P bs

-- each metavariable that stands in a context is in a set
abbrev pub AllMetasOf : (ℕ → Type 0) → List Tree → Type 0
AllMetasOf P [] = Unit {0}
AllMetasOf P (A ∷ Γ) = AllMetas P A × AllMetasOf P Γ

-- each metavariable that stands in a metavariable's context, type or body is in a set
pub record AllMetasHeld (P : ℕ → Type 0) (d : Declared) : Type 0 where
  pub context : AllMetasOf P (d.context)
  pub ty : AllMetas P (d.ty)
  pub body : (b : Tree) → d.body ≡ Some b → AllMetas P b

-- the store has a metavariable of this number
abbrev pub InStore : Store → ℕ → Type 0
InStore S m = S.at m ≢ None

-- contexts, types and bodies mention the store's own metavariables alone
abbrev pub Owned : Store → Type 0
Owned S = (n : ℕ) (d : Declared) → S.at n ≡ Some d → AllMetasHeld (InStore S) d

-- metavariable m stands in a term
abbrev mutual
  pub Mentions : ℕ → Tree → Type 0
  Mentions m (Var i) = ⊥
  Mentions m (Sort s) = ⊥
  Mentions m (Prod x A B) = Mentions m A ⊎ Mentions m B
  Mentions m (Lam x A b) = Mentions m A ⊎ Mentions m b
  Mentions m (App f a) = Mentions m f ⊎ Mentions m a
  Mentions m (Const c) = ⊥
  Mentions m (Ind e) = ⊥
  Mentions m (Con e k) = ⊥
  Mentions m (Match e R c bs) = Mentions m R ⊎ (Mentions m c ⊎ MentionsArms m bs)
  Mentions m (Meta n s) = (n ≡ m) ⊎ MentionsIn m s

  pub MentionsIn : ℕ → Trees → Type 0
  MentionsIn m End = ⊥
  MentionsIn m (Item t s) = Mentions m t ⊎ MentionsIn m s

  pub MentionsArms : ℕ → Arms → Type 0
  MentionsArms m NoArm = ⊥
  MentionsArms m (Arm xs b bs) = Mentions m b ⊎ MentionsArms m bs

-- metavariable m stands in a context
abbrev pub MentionsOf : ℕ → List Tree → Type 0
MentionsOf m [] = ⊥
MentionsOf m (A ∷ Γ) = Mentions m A ⊎ MentionsOf m Γ

-- metavariable m stands in the context, type or body of another
pub data MentionsHeld (m : ℕ) (d : Declared) : Type 0 where
  by_context : MentionsOf m (d.context) → MentionsHeld m d
  by_type : Mentions m (d.ty) → MentionsHeld m d
  by_body : (b : Tree) → d.body ≡ Some b → Mentions m b → MentionsHeld m d

-- what is reached from the metavariables that come first: these, and those in the context, type or
-- body of one that is reached
pub data Reached (S : Store) (First : ℕ → Type 0) : ℕ → Type 0 where
  at_once : {m : ℕ} → First m → Reached S First m
  onward : {m k : ℕ} {d : Declared}
      → Reached S First k
      → S.at k ≡ Some d
      → MentionsHeld m d
      → Reached S First m

-- a term reaches a metavariable
abbrev pub Reaches : Store → Tree → ℕ → Type 0
Reaches S t m = Reached S (λ k. Mentions k t) m

-- what is below a metavariable: all that is reached from its context, type and body
abbrev pub Below : Store → Declared → ℕ → Type 0
Below S d m = Reached S (λ k. MentionsHeld k d) m

-- no metavariable is below itself
abbrev pub Acyclic : Store → Type 0
Acyclic S = (n : ℕ) (d : Declared) → S.at n ≡ Some d → Below S d n → ⊥

-- a metavariable's body, if it has one
abbrev pub body_of : Option Declared → Option Tree
body_of None = None
body_of (Some d) = d.body
