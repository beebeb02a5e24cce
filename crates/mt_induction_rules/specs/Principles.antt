-- The induction principle of an inductive type with parameters p and indices i.
--
-- Its type is `∀p.∀P:(∀i.∀x:I p i.Prop).`, then a premise for each constructor, each named f, then
-- `∀i.∀x:I p i.P i x`. It is a recursive function of place x: it abstracts over all of these, and
-- matches x with the motive `λi.λx.P i x`. The branch of a constructor is its premise on the
-- arguments, each a at a recursive place, of type `∀ys:B.I p vs`, followed by
-- `λys:B.I_ind p P f.. vs (a ys)`.
use Rattle.std.specs.Prelude.{ℕ, zero, suc, ◌+◌, ◌-◌, List, [], ◌∷◌, ◌++◌, length, Bool, true}
use Rattle.std.specs.Prelude.{false, Option, Some, None, codes}
use Rattle.mt_term.specs.Trees.{Bytes, Tree, Arms, Var, Sort, Prod, Lam, App, Const, Ind, Con}
use Rattle.mt_term.specs.Trees.{Match, NoArm, Arm}
use Rattle.mt_term.specs.Substitution.{ren, apps, all_but, products}
use Rattle.mt_term.specs.Declarations.{Hypothesis, Constructor, Declaration, Inductive, Recursive}
use Rattle.mt_term.specs.declared.universes.Sort.TheVariants.{Prop}
use Rattle.mt_calculus.specs.Positivity.{parameters}
use Rattle.mt_unification_rules.specs.Placeholders.{all_variables}
use Rattle.mt_induction_rules.specs.Telescopes.{or_x, abstracted, generalized, first_products}
use Rattle.mt_induction_rules.specs.Telescopes.{with_value, type_on, arguments, argument_names}
use Rattle.mt_induction_rules.specs.Premises.{recursive_places, premise}

-- the name of the principle of a type
abbrev pub principle_name : Bytes → Bytes
principle_name x = x ++ codes "_ind"

-- the call of the function g on a smaller argument a of the type `∀ys:B.I p vs`: `λys:B.g vs (a
-- ys)`
abbrev pub recursive_call : ℕ → Tree → Tree → Tree → Tree
recursive_call p g a (Prod y A B) =
    Lam (or_x y) A (recursive_call p (ren suc g) (App (ren suc a) (Var zero)) B)
recursive_call p g a u = App (apps g (all_but p (arguments u))) a

-- the premise t on an argument of the type A, followed by the call on it at a recursive place
abbrev pub on_branch_argument : ℕ → Tree → Tree → Bool → Tree → Tree
on_branch_argument p g t true A =
    App (App (ren suc t) (Var zero)) (recursive_call p (ren suc g) (Var zero) (ren suc A))
on_branch_argument p g t false A = App (ren suc t) (Var zero)

-- the body of a branch, under the arguments of a constructor of this type at the parameters: the
-- premise t on them; the list tells which of them stand at recursive places
abbrev pub branch_body : ℕ → Tree → Tree → List Bool → Tree → Tree
branch_body p g t (b ∷ bs) (Prod y A B) =
    branch_body p (ren suc g) (on_branch_argument p g t b A) bs B
branch_body p g t bs u = t

-- type e, with p parameters, of the type T, and its constructors
module _ (e p : ℕ) (T : Tree) (cs : List Constructor) where
  -- how many indices there are
  abbrev pub index_count : ℕ
  index_count = products T - p

  -- a context with the parameters and d further hypotheses, and then the indices and a value
  abbrev pub with_any_value : ℕ → List Hypothesis → List Hypothesis
  with_any_value d Γ = with_value (type_on T (parameters p d)) (apps (Ind e) (parameters p d)) Γ

  -- the type of the predicate: `∀i.∀x:I p i.Prop`
  abbrev pub predicate_type : Tree
  predicate_type = generalized (with_any_value zero []) (Sort Prop)

  -- the premise of constructor k, where the predicate has k premises after it
  abbrev pub premise_of : ℕ → Constructor → Tree
  premise_of k c =
      premise p (Var k) (apps (Con e k) (parameters p (suc k)))
      (recursive_places e p index_count c.ty) (type_on c.ty (parameters p (suc k)))

  -- a context with the parameters, the predicate and the premises before number k, and the others
  abbrev pub with_premises : ℕ → List Constructor → List Hypothesis → List Hypothesis
  with_premises k [] Γ = Γ
  with_premises k (c ∷ more) Γ =
      with_premises (suc k) more (record { name = codes "f"; ty = premise_of k c } ∷ Γ)

  -- the binders: the parameters, the predicate, the premises, the indices and a value
  abbrev pub binders : List Hypothesis
  binders =
      with_any_value (suc (length cs))
      (with_premises zero cs
      (record { name = codes "P"; ty = predicate_type } ∷ first_products p T []))

  -- the predicate, under all binders and d more, on the newest indices and value
  abbrev pub conclusion : ℕ → Tree
  conclusion d = apps (Var (d + suc index_count + length cs)) (all_variables (suc index_count))

  -- the principle itself, entry e + 1, on the parameters, the predicate and the premises
  abbrev pub shared : Tree
  shared = apps (Const (suc e)) (parameters (p + suc (length cs)) (suc index_count))

  -- how many hypotheses stand past the parameters under all binders
  abbrev pub past_parameters : ℕ
  past_parameters = suc index_count + suc (length cs)

  -- the branch of constructor k, whose type at the parameters is u
  abbrev pub branch : ℕ → List Bool → Tree → Arms → Arms
  branch k bs u more =
      Arm (argument_names u)
      (branch_body p shared (Var (suc index_count + (length cs - suc k))) bs u) more

  -- the branches from number k on
  abbrev pub branches : ℕ → List Constructor → Arms
  branches k [] = NoArm
  branches k (c ∷ more) =
      branch k (recursive_places e p index_count c.ty)
      (type_on c.ty (parameters p past_parameters)) (branches (suc k) more)

  -- the motive: `λi.λx.P i x`
  abbrev pub principle_motive : Tree
  principle_motive = abstracted (with_any_value past_parameters []) (conclusion (suc index_count))

  abbrev pub principle_type : Tree
  principle_type = generalized binders (conclusion zero)

  abbrev pub principle_body : Tree
  principle_body = abstracted binders (Match e principle_motive (Var zero) (branches zero cs))

  -- the principle as an entry, by the name of the type
  abbrev pub principle_entry : Bytes → Declaration
  principle_entry x =
      Recursive (principle_name x) false (length binders) (length binders - 1)
      principle_type principle_body true

-- The principle of entry number e: an inductive type has one, a coinductive type and any other
-- entry have none.
abbrev pub principle : ℕ → Declaration → Option Declaration
principle e (Inductive x false p T cs l) = Some (principle_entry e p T cs x)
principle e d = None
