-- Contexts and types of the parts of a match mention metavariables of the store alone.
use Rattle.std.specs.Prelude.{◌≡◌, refl, ℕ, zero, suc, List, [], ◌∷◌, Option, Some, None}
use Rattle.std.proofs.Common.{subst}
use Rattle.mt_term.specs.Trees.{Bytes, Tree, Trees, Var, Sort, Prod, Lam, App, Const, Ind, Con, Match, Meta, End, Item}
use Rattle.mt_term.specs.Substitution.{ren, all_but, join}
use Rattle.mt_term.specs.Spines.{as_ind, at_args}
use Rattle.mt_term.specs.Declarations.{Hypothesis, Inductive, Environment}
use Rattle.mt_term.specs.Stores.{AllMetas, AllMetasIn, AllMetasOf}
use Rattle.mt_calculus_laws.proofs.Agree.{ren_metas}
use Rattle.mt_calculus_laws.proofs.MetaLaws.{head_metas, all_but_metas, join_metas, unjoin_metas, motive_on_all_metas, inst_metas}
use Rattle.mt_rules.specs.Inference.{Family, context_types, as_family, branch_context, branch_type, return_at}
use Rattle.mt_rules_laws.proofs.InferenceParts.{at_args_is, family_is}
use Rattle.mt_rules_laws.proofs.Yields.{some_is, nothing}
use Rattle.mt_unification_laws.specs.ProperStores.{MetaFreeConstructors, MetaFreeEnvironment}
use Rattle.mt_unification_laws.proofs.ProperTypes.{type_free}
use Rattle.mt_refinement_rules.specs.Matches.{constant_return}

module _ (P : ℕ → Type 0) where
  -- the arguments of an inductive type
  arguments_own : (t : Tree) (s : Trees) (a : ℕ × Trees) → AllMetas P t → AllMetasIn P s → as_ind t s ≡ Some a → AllMetasIn P a.1
  arguments_own (Ind e) s a h g q = subst (λ (b : ℕ × Trees). AllMetasIn P b.1) (some_is q) g
  arguments_own (App f u) s a h g q = arguments_own f (Item u s) a h.0 (h.1, g) q
  arguments_own t s a h g q = nothing q

  return_own : (p : ℕ) (r c : Tree) (o : Option (ℕ × Trees)) (v : Tree) → AllMetas P r → AllMetas P c → ((a : ℕ × Trees) → o ≡ Some a → AllMetasIn P a.1) → return_at p r c o ≡ Some v → AllMetas P v
  return_own p r c None v h g k q = nothing q
  return_own p r c (Some a) v h g k q = subst (AllMetas P) (some_is q) (motive_on_all_metas P r (join (all_but p a.1) (Item c End)) h (join_metas P (all_but p a.1) (Item c End) (all_but_metas P p a.1 (k a refl)) (g, tt)))

  pub branch_type_own : (p : ℕ) (r c u : Tree) (xs : List Bytes) (v : Tree) → AllMetas P r → AllMetas P c → AllMetas P u → branch_type p r c u xs ≡ Some v → AllMetas P v
  branch_type_own p r c (Prod y a b) (x ∷ xs) v h g k q = branch_type_own p (ren suc r) (App (ren suc c) (Var zero)) b xs v (ren_metas P suc r h) (ren_metas P suc c g, tt) k.1 q
  branch_type_own p r c u [] v h g k q = return_own p r c (as_ind u End) v h g (λ a e. arguments_own u End a k tt e) q
  branch_type_own p r c u (x ∷ xs) v h g k q = nothing q

  pub branch_context_own : (Γ : List Hypothesis) (u : Tree) (xs : List Bytes) → AllMetasOf P (context_types Γ) → AllMetas P u → AllMetasOf P (context_types (branch_context Γ u xs))
  branch_context_own Γ (Prod y a b) (x ∷ xs) c h = branch_context_own (record { name = x; ty = a } ∷ Γ) b xs (h.0, c) h.1
  branch_context_own Γ u xs c h = c

  pub constant_return_own : (t h U : Tree) → AllMetas P t → AllMetas P h → AllMetas P U → AllMetas P (constant_return t h U)
  constant_return_own (Prod x a b) h U k g q = (k.0, constant_return_own b (App (ren suc h) (Var zero)) (ren suc U) k.1 (ren_metas P suc h g, tt) (ren_metas P suc U q))
  constant_return_own (Var i) h U k g q = (g, ren_metas P suc U q)
  constant_return_own (Sort s) h U k g q = (g, ren_metas P suc U q)
  constant_return_own (Lam x a b) h U k g q = (g, ren_metas P suc U q)
  constant_return_own (App f a) h U k g q = (g, ren_metas P suc U q)
  constant_return_own (Const c) h U k g q = (g, ren_metas P suc U q)
  constant_return_own (Ind e) h U k g q = (g, ren_metas P suc U q)
  constant_return_own (Con e c) h U k g q = (g, ren_metas P suc U q)
  constant_return_own (Match e r c bs) h U k g q = (g, ren_metas P suc U q)
  constant_return_own (Meta n s) h U k g q = (g, ren_metas P suc U q)

  pub at_args_own : (t : Tree) (s : Trees) (u : Tree) → AllMetas P t → AllMetasIn P s → at_args t s ≡ Some u → AllMetas P u
  at_args_own t s u h g e = inst_metas P (at_args_is t s u e) h g

  -- an inductive type on its arguments, where it is one
  pub record OwnFamily (f : Family) : Type 0 where
    pub params : AllMetasIn P f.params
    pub indices : AllMetasIn P f.indices
    pub arity : AllMetas P f.arity
    pub constructors : MetaFreeConstructors f.constructors

  pub own_family : (E : Environment) → MetaFreeEnvironment E → (t : Tree) (f : Family) → AllMetas P t → as_family E.entries t ≡ Some f → OwnFamily f
  own_family E free t f h e =
      let q = family_is E t f e in
      let a = unjoin_metas P f.params f.indices (head_metas P (Ind f.number) (join f.params f.indices) (subst (AllMetas P) q.is h)).1 in
      record {
        params = a.0;
        indices = a.1;
        arity = inst_metas P q.at (type_free E free P f.number (Inductive q.name q.co q.p q.ty f.constructors f.large) q.entry) a.0;
        constructors = (free f.number (Inductive q.name q.co q.p q.ty f.constructors f.large) q.entry).1;
      }
