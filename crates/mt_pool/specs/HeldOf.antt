-- What entries and contexts that are held in a pool say.
use Rattle.std.specs.Prelude.{ℕ, ◌<◌, List, [], ◌∷◌, map}
use Rattle.mt_term.specs.Trees.{Tree}
use Rattle.mt_term.specs.Declarations.{Hypothesis, Constructor, Declaration, Axiom, Definition}
use Rattle.mt_term.specs.Declarations.{Inductive, Recursive}
use Rattle.mt_pool.specs.declared.contexts.HeldHyp.{HeldHyp}
use Rattle.mt_pool.specs.declared.held.HeldConstructor.{HeldConstructor}
use Rattle.mt_pool.specs.declared.held.Held.{Held}
use Rattle.mt_pool.specs.declared.held.Held.TheVariants.{Axiom as HeldAxiom}
use Rattle.mt_pool.specs.declared.held.Held.TheVariants.{Definition as HeldDefinition}
use Rattle.mt_pool.specs.declared.held.Held.TheVariants.{Inductive as HeldInductive}
use Rattle.mt_pool.specs.declared.held.Held.TheVariants.{Recursive as HeldRecursive}
use Rattle.mt_pool.specs.Region.{tree_at}

abbrev pub hypothesis_in : List Tree → HeldHyp → Hypothesis
hypothesis_in p h = record { name = h.name; ty = tree_at p h.ty }

-- a context's hypotheses, oldest first
abbrev pub hypotheses_in : List Tree → List HeldHyp → List Hypothesis
hypotheses_in p Γ = map (hypothesis_in p) Γ

-- the types of a context are held where there are n ids
abbrev pub ContextBelow : ℕ → List HeldHyp → Type 0
ContextBelow n [] = Unit {0}
ContextBelow n (h ∷ Γ) = (h.ty.at < n) × ContextBelow n Γ

abbrev pub constructor_in : List Tree → HeldConstructor → Constructor
constructor_in p c = record { name = c.name; ty = tree_at p c.ty }

abbrev pub constructors_in : List Tree → List HeldConstructor → List Constructor
constructors_in p cs = map (constructor_in p) cs

abbrev pub ConstructorsBelow : ℕ → List HeldConstructor → Type 0
ConstructorsBelow n [] = Unit {0}
ConstructorsBelow n (c ∷ cs) = (c.ty.at < n) × ConstructorsBelow n cs

-- the entry that is held
abbrev pub declaration_in : List Tree → Held → Declaration
declaration_in p (HeldAxiom name ty) = Axiom name (tree_at p ty)
declaration_in p (HeldDefinition name ty body) = Definition name (tree_at p ty) (tree_at p body)
declaration_in p (HeldInductive name co params ty cons large) =
    Inductive name co params (tree_at p ty) (constructors_in p cons) large
declaration_in p (HeldRecursive name co binders place ty body made) =
    Recursive name co binders place (tree_at p ty) (tree_at p body) made

-- its ids are held where there are n
abbrev pub HeldBelow : ℕ → Held → Type 0
HeldBelow n (HeldAxiom name ty) = ty.at < n
HeldBelow n (HeldDefinition name ty body) = (ty.at < n) × (body.at < n)
HeldBelow n (HeldInductive name co params ty cons large) = (ty.at < n) × ConstructorsBelow n cons
HeldBelow n (HeldRecursive name co binders place ty body made) = (ty.at < n) × (body.at < n)
