-- One instance at most; and what holds in a larger environment and over a larger store.
use Rattle.std.proofs.Common.{true, ◌≡◌, ℕ, List, Some, refl, sym, ap, ap₂, ◌∙◌, subst}
use Rattle.mt_term.specs.Trees.{Tree, Trees, Arms, Prod, Lam, App, Match, Meta, Item, Arm}
use Rattle.mt_term.specs.Substitution.{under}
use Rattle.mt_term.specs.Declarations.{Environment}
use Rattle.mt_term.specs.Stores.{Declared, Store}
use Rattle.mt_term.specs.StoreChanges.{Extends}
use Rattle.mt_calculus.specs.Contraction.{Contracts, beta, delta, assigned, iota, unfold_rec, unfold_co, in_dom, in_cod, in_type, in_body, in_fun, in_arg, in_return, in_matched, in_arms, in_terms, ContractsIn, in_first, in_rest, ContractsArms, in_arm, in_later}
use Rattle.mt_calculus.specs.Conversion.{Conv, same, back, chain, reduct, sorts, prods, lams, app_conv, matches, metas, ConvAll, ends, items, ConvArms, no_arms, arms, AtMost, conv, on, prop, typ, cod}
use Rattle.mt_calculus.specs.Typing.{Judgement, Holds, IsContext, IsType, Has}
use Rattle.mt_term.specs.Instances.{InstanceOf, inst_var, inst_sort, inst_prod, inst_lam, inst_app, inst_const, inst_ind, inst_con, inst_match, inst_open, inst_assigned, InstanceAll, inst_end, inst_item, InstanceArms, inst_no_arm, inst_arm}
use Rattle.mt_calculus.specs.SoundStore.{SoundMetavariable, SoundStore}
use Rattle.mt_calculus.specs.SoundInstances.{SoundInstance, SoundByInstances}
use Rattle.mt_calculus_laws.specs.GrowthLaws.{NoOtherInstanceLaw, Enlarges, SoundStoreGrowthLaw, SoundInstancesGrowthLaw, ConversionGrowthLaw}
use Rattle.mt_term.proofs.Options.{none_some, some_inj}
use Rattle.mt_calculus_laws.proofs.DerivationLaws.{growth_law}

-- ---- one instance

module _ (S : Store) where
  mutual
    one : {t u v : Tree} → InstanceOf S t u → InstanceOf S t v → u ≡ v
    one inst_var inst_var = refl
    one inst_sort inst_sort = refl
    one (inst_prod {x = x} a b) (inst_prod c d) = ap₂ (Prod x) (one a c) (one b d)
    one (inst_lam {x = x} a b) (inst_lam c d) = ap₂ (Lam x) (one a c) (one b d)
    one (inst_app a b) (inst_app c d) = ap₂ App (one a c) (one b d)
    one inst_const inst_const = refl
    one inst_ind inst_ind = refl
    one inst_con inst_con = refl
    one (inst_match {e = e} a b c) (inst_match a' b' c') = λ i. Match e (one a a' i) (one b b' i) (one_arms c c' i)
    one (inst_open {n = n} h a) (inst_open g b) = ap (Meta n) (one_all a b)
    one (inst_open h a) (inst_assigned g w b) = absurd (none_some (sym h ∙ g))
    one (inst_assigned h v a) (inst_open g b) = absurd (none_some (sym g ∙ h))
    one (inst_assigned h v a) (inst_assigned {b' = c} g w b) =
        ap₂ under (one_all a b) (one v (subst (λ x. InstanceOf S x c) (some_inj (sym g ∙ h)) w))

    one_all : {s u v : Trees} → InstanceAll S s u → InstanceAll S s v → u ≡ v
    one_all inst_end inst_end = refl
    one_all (inst_item a s) (inst_item b u) = ap₂ Item (one a b) (one_all s u)

    one_arms : {bs u v : Arms} → InstanceArms S bs u → InstanceArms S bs v → u ≡ v
    one_arms inst_no_arm inst_no_arm = refl
    one_arms (inst_arm {xs = xs} a s) (inst_arm b u) = ap₂ (Arm xs) (one a b) (one_arms s u)

pub no_other_instance_law : NoOtherInstanceLaw
no_other_instance_law S t u v a b = one S a b

-- ---- a larger environment

module _ (E E' : Environment) (more : Enlarges E E') where
  grown : {S : Store} {Γ : List Tree} {J : Judgement} → Holds E true S Γ J → Holds E' true S Γ J
  grown {S = S} {Γ = Γ} {J = J} h = growth_law E E' more.entries more.order true S Γ J h

  sound_more : (S : Store) (n : ℕ) (d : Declared) → SoundMetavariable E S n d → SoundMetavariable E' S n d
  sound_more S n d h = record {
    apart = h.apart;
    part = h.part;
    is_part = h.is_part;
    context = grown h.context;
    ty = grown h.ty;
    body = λ b e. grown (h.body b e);
  }

  instance_more : (S S' : Store) (d : Declared) → SoundInstance E S S' d → SoundInstance E' S S' d
  instance_more S S' d h = record {
    context = h.context;
    is_context = h.is_context;
    ty = h.ty;
    is_ty = h.is_ty;
    typed_context = grown h.typed_context;
    typed_ty = grown h.typed_ty;
    typed_body = λ b e. let w = h.typed_body b e in (w.0, w.1, grown w.2);
  }

pub sound_store_growth_law : SoundStoreGrowthLaw
sound_store_growth_law E E' more S h = record { owned = h.owned; metavariables = λ n d e. sound_more E E' more S n d (h.metavariables n d e) }

pub sound_instances_growth_law : SoundInstancesGrowthLaw
sound_instances_growth_law E E' more S h = record {
  owned = h.owned;
  acyclic = h.acyclic;
  instance = h.instance;
  is_instance = h.is_instance;
  metavariables = λ n d e. instance_more E E' more S h.instance d (h.metavariables n d e);
}

-- ---- a larger store

module _ (E : Environment) (S S' : Store) (x : Extends S S') where
  mutual
    contracts_over : {t u : Tree} → Contracts E S t u → Contracts E S' t u
    contracts_over beta = beta
    contracts_over (delta h) = delta h
    contracts_over (assigned {n = n} {d = d} {b = b} e g) = let c = x n d e in assigned c.1 ((c.2).body b g)
    contracts_over (iota s o m a len) = iota s o m a len
    contracts_over (unfold_rec c us h i o m) = unfold_rec c us h i o m
    contracts_over (unfold_co c s h) = unfold_co c s h
    contracts_over (in_dom c) = in_dom (contracts_over c)
    contracts_over (in_cod c) = in_cod (contracts_over c)
    contracts_over (in_type c) = in_type (contracts_over c)
    contracts_over (in_body c) = in_body (contracts_over c)
    contracts_over (in_fun c) = in_fun (contracts_over c)
    contracts_over (in_arg c) = in_arg (contracts_over c)
    contracts_over (in_return c) = in_return (contracts_over c)
    contracts_over (in_matched c) = in_matched (contracts_over c)
    contracts_over (in_arms c) = in_arms (contracts_over_arms c)
    contracts_over (in_terms c) = in_terms (contracts_over_all c)

    contracts_over_all : {t u : Trees} → ContractsIn E S t u → ContractsIn E S' t u
    contracts_over_all (in_first c) = in_first (contracts_over c)
    contracts_over_all (in_rest c) = in_rest (contracts_over_all c)

    contracts_over_arms : {t u : Arms} → ContractsArms E S t u → ContractsArms E S' t u
    contracts_over_arms (in_arm c) = in_arm (contracts_over c)
    contracts_over_arms (in_later c) = in_later (contracts_over_arms c)

  mutual
    conv_over : {t u : Tree} → Conv E S t u → Conv E S' t u
    conv_over same = same
    conv_over (back c) = back (conv_over c)
    conv_over (chain c d) = chain (conv_over c) (conv_over d)
    conv_over (reduct c) = reduct (contracts_over c)
    conv_over (sorts u v) = sorts u v
    conv_over (prods c d) = prods (conv_over c) (conv_over d)
    conv_over (lams c d) = lams (conv_over c) (conv_over d)
    conv_over (app_conv c d) = app_conv (conv_over c) (conv_over d)
    conv_over (matches c d a) = matches (conv_over c) (conv_over d) (conv_over_arms a)
    conv_over (metas c) = metas (conv_over_all c)

    conv_over_all : {t u : Trees} → ConvAll E S t u → ConvAll E S' t u
    conv_over_all ends = ends
    conv_over_all (items c d) = items (conv_over c) (conv_over_all d)

    conv_over_arms : {t u : Arms} → ConvArms E S t u → ConvArms E S' t u
    conv_over_arms no_arms = no_arms
    conv_over_arms (arms n c d) = arms n (conv_over c) (conv_over_arms d)

  at_most_over : {t u : Tree} → AtMost E S t u → AtMost E S' t u
  at_most_over (conv c) = conv (conv_over c)
  at_most_over (on c d) = on (at_most_over c) (at_most_over d)
  at_most_over prop = prop
  at_most_over (typ u) = typ u
  at_most_over (cod c) = cod (at_most_over c)

pub conversion_growth_law : ConversionGrowthLaw
conversion_growth_law E S S' x t u = (conv_over E S S' x, at_most_over E S S' x)
