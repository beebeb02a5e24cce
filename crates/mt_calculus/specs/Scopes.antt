-- What a term may speak of: terms in scope in a context, and terms without metavariables whose
-- variables are those of a context.
use Rattle.std.specs.Prelude.{◌≡◌, ◌≢◌, ◌<◌, ℕ, suc, List, [], ◌∷◌, length, None, Some}
use Rattle.std.specs.List.{All}
use Rattle.mt_term.specs.declared.universes.Sort.{Sort as AnySort}
use Rattle.mt_term.specs.declared.universes.Sort.TheVariants.{Prop, Typ}
use Rattle.mt_term.specs.Trees.{Tree, Trees, Arms, Bytes, Var, Sort, Prod, Lam, App, Const, Ind}
use Rattle.mt_term.specs.Trees.{Con, Match, Meta, End, Item, NoArm, Arm}
use Rattle.mt_term.specs.Declarations.{Environment, constructor_at}
use Rattle.mt_term.specs.Substitution.{count}
use Rattle.mt_term.specs.Stores.{Declared, Store}
use Rattle.mt_calculus.specs.Typing.{Judgement, IsContext, IsType, Has, Stands, Fitting, Body}

-- how many variables there are under further names
abbrev pub past_names : List Bytes → ℕ → ℕ
past_names [] n = n
past_names (x ∷ xs) n = past_names xs (suc n)

-- a metavariable is there, and its context has so many hypotheses
abbrev pub HasTerms : Store → ℕ → ℕ → Type 0
HasTerms S m terms = (d : Declared) × (S.at m ≡ Some d) × (length d.context ≡ terms)

-- each universe name of a sort is one of the environment's
abbrev pub IsNamed : Environment → AnySort → Type 0
IsNamed E Prop = Unit {0}
IsNamed E (Typ u) = All (λ a. a.name < length E.names) u.atoms

-- In scope under n hypotheses: each variable is one of these, entries, constructors, universe names
-- and metavariables are there, and each metavariable has as many terms as its context has
-- hypotheses.
abbrev mutual
  pub InScope : Environment → Store → ℕ → Tree → Type 0
  InScope E S n (Var i) = i < n
  InScope E S n (Sort s) = IsNamed E s
  InScope E S n (Prod x A B) = InScope E S n A × InScope E S (suc n) B
  InScope E S n (Lam x A b) = InScope E S n A × InScope E S (suc n) b
  InScope E S n (App f a) = InScope E S n f × InScope E S n a
  InScope E S n (Const c) = c < length E.entries
  InScope E S n (Ind e) = e < length E.entries
  InScope E S n (Con e k) = constructor_at E.entries e k ≢ None
  InScope E S n (Match e R c bs) =
      (e < length E.entries) × InScope E S n R × InScope E S n c × InScopeArms E S n bs
  InScope E S n (Meta m s) = HasTerms S m (count s) × InScopeAll E S n s

  pub InScopeAll : Environment → Store → ℕ → Trees → Type 0
  InScopeAll E S n End = Unit {0}
  InScopeAll E S n (Item t s) = InScope E S n t × InScopeAll E S n s

  pub InScopeArms : Environment → Store → ℕ → Arms → Type 0
  InScopeArms E S n NoArm = Unit {0}
  InScopeArms E S n (Arm xs b bs) = InScope E S (past_names xs n) b × InScopeArms E S n bs

-- each type of a context is in scope under the older hypotheses
abbrev pub InScopeContext : Environment → Store → List Tree → Type 0
InScopeContext E S [] = Unit {0}
InScopeContext E S (A ∷ Γ) = InScope E S (length Γ) A × InScopeContext E S Γ

-- each variable is one of n, and no metavariable stands in the term
abbrev mutual
  pub Plain : ℕ → Tree → Type 0
  Plain n (Var i) = i < n
  Plain n (Sort s) = Unit {0}
  Plain n (Prod x A B) = Plain n A × Plain (suc n) B
  Plain n (Lam x A b) = Plain n A × Plain (suc n) b
  Plain n (App f a) = Plain n f × Plain n a
  Plain n (Const c) = Unit {0}
  Plain n (Ind e) = Unit {0}
  Plain n (Con e k) = Unit {0}
  Plain n (Match e R c bs) = Plain n R × Plain n c × PlainArms n bs
  Plain n (Meta m s) = ⊥

  pub PlainAll : ℕ → Trees → Type 0
  PlainAll n End = Unit {0}
  PlainAll n (Item t s) = Plain n t × PlainAll n s

  pub PlainArms : ℕ → Arms → Type 0
  PlainArms n NoArm = Unit {0}
  PlainArms n (Arm xs b bs) = Plain (past_names xs n) b × PlainArms n bs

-- so is each hypothesis's type, in those before it
abbrev pub PlainContext : List Tree → Type 0
PlainContext [] = Unit {0}
PlainContext (A ∷ Γ) = Plain (length Γ) A × PlainContext Γ

-- so are the terms and types of a judgement, in its context
abbrev pub PlainJudgement : List Tree → Judgement → Type 0
PlainJudgement Γ IsContext = PlainContext Γ
PlainJudgement Γ (IsType T) = Plain (length Γ) T
PlainJudgement Γ (Has t T) = Plain (length Γ) t × Plain (length Γ) T
PlainJudgement Γ (Stands t) = Plain (length Γ) t
PlainJudgement Γ (Fitting e R ps k bs) = PlainArms (length Γ) bs
PlainJudgement Γ (Body e p R c T xs b) = Plain (past_names xs (length Γ)) b
