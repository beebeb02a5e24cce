-- Hints that may be used: typed, and their sides convertible under their equations.
use Rattle.std.specs.Prelude.{◌≡◌, ℕ, zero, suc, List, [], ◌∷◌, true, Some, slice_get}
use Rattle.mt_term.specs.Trees.{Tree}
use Rattle.mt_term.specs.Substitution.{under}
use Rattle.mt_term.specs.Declarations.{Hypothesis, Environment}
use Rattle.mt_term.specs.States.{Equation, Hint}
use Rattle.mt_term.specs.Stores.{no_store, types_of}
use Rattle.mt_calculus.specs.Conversion.{Conv}
use Rattle.mt_calculus.specs.Typing.{IsContext, Has, Holds}
use Rattle.mt_unification_rules.specs.Hints.{solution}

-- the first hypotheses of a list, at most so many
abbrev pub first_hypotheses : ℕ → List Hypothesis → List Hypothesis
first_hypotheses zero hs = []
first_hypotheses (suc n) [] = []
first_hypotheses (suc n) (h ∷ hs) = h ∷ first_hypotheses n hs

-- an equation gives a variable that is there a term of its type, under the variables before it
abbrev pub TypedEquation : Environment → List Hypothesis → Equation → Type 0
TypedEquation E xs e = (x : Hypothesis) × (slice_get xs e.place ≡ Some x) × Holds E true no_store (types_of (first_hypotheses e.place xs)) (Has e.term x.ty)

abbrev pub TypedEquations : Environment → List Hypothesis → List Equation → Type 0
TypedEquations E xs [] = Unit {0}
TypedEquations E xs (e ∷ es) = TypedEquation E xs e × TypedEquations E xs es

-- over the empty store the variables of a hint form a context, its sides have types in it, and each equation is typed
pub record TypedHint (E : Environment) (h : Hint) : Type 0 where
  pub variables : Holds E true no_store (types_of h.vars) IsContext
  pub left_type : Tree
  pub left : Holds E true no_store (types_of h.vars) (Has h.left left_type)
  pub right_type : Tree
  pub right : Holds E true no_store (types_of h.vars) (Has h.right right_type)
  pub equations : TypedEquations E h.vars h.eqs

-- over the empty store the sides are convertible under the equations
abbrev pub Acceptable : Environment → Hint → Type 0
Acceptable E h = Conv E no_store (under (solution h) h.left) (under (solution h) h.right)

-- a hint is typed and acceptable
pub record SoundHint (E : Environment) (h : Hint) : Type 0 where
  pub typed : TypedHint E h
  pub acceptable : Acceptable E h

-- each hint of a list has a property
abbrev pub EachHint : (Hint → Type 0) → List Hint → Type 0
EachHint P [] = Unit {0}
EachHint P (h ∷ hs) = P h × EachHint P hs

abbrev pub SoundHints : Environment → List Hint → Type 0
SoundHints E hs = EachHint (SoundHint E) hs
