-- A larger environment, and a strict derivation as any derivation.
use Rattle.std.proofs.Common.{Bool, true, ◌≡◌, ℕ, List, Some, slice_get}
use Rattle.mt_term.specs.Trees.{Tree, Trees, Arms}
use Rattle.mt_term.specs.declared.universes.UnivExpr.{UnivExpr}
use Rattle.mt_term.specs.Substitution.{up}
use Rattle.mt_term.specs.Declarations.{Declaration, Environment}
use Rattle.mt_term.specs.Universes.{IsAtMost}
use Rattle.mt_term.specs.Stores.{Store}
use Rattle.mt_calculus.specs.Contraction.{InductiveOf, ConstructorOf, Contracts, beta, delta, assigned, iota, unfold_rec, unfold_co, in_dom, in_cod, in_type, in_body, in_fun, in_arg, in_return, in_matched, in_arms, in_terms, ContractsIn, in_first, in_rest, ContractsArms, in_arm, in_later}
use Rattle.mt_calculus.specs.Conversion.{Conv, same, back, chain, reduct, sorts, prods, lams, app_conv, matches, metas, ConvAll, ends, items, ConvArms, no_arms, arms, AtMost, conv, on, prop, typ, cod}
use Rattle.mt_calculus.specs.Typing.{Judgement, Holds, c_empty, c_cons, t_var, t_prop, t_typ, t_prod, t_lam, t_app, t_const, t_ind, t_con, t_match, f_none, f_arm, b_more, b_done, t_meta, t_sub, k_sort, k_of, k_type_reduct, k_reduct, k_prod, k_dom, k_cod, k_cod_at, k_param, k_stands, k_type_stands, k_fun, k_arg, k_terms, k_return, k_matched, k_prod_type, k_lam_dom, k_lam_body, k_lam_at, k_drop, k_metas}

module _ (E E' : Environment) (more : (c : ℕ) (e : Declaration) → slice_get (E.entries) c ≡ Some e → slice_get (E'.entries) c ≡ Some e) (wider : (U V : UnivExpr) → IsAtMost (E.below) U V → IsAtMost (E'.below) U V) where
  abbrev con_more : {e k : ℕ} {C : Tree} → ConstructorOf E e k C → ConstructorOf E' e k C
  con_more {e = e} o = record { name = o.name; con_name = o.con_name; co = o.co; params = o.params; ty = o.ty; cons = o.cons; large = o.large; entry = more e _ o.entry; con = o.con }

  abbrev type_more : {e : ℕ} → InductiveOf E e → InductiveOf E' e
  type_more {e = e} o = record { name = o.name; co = o.co; params = o.params; ty = o.ty; cons = o.cons; large = o.large; entry = more e _ o.entry }

  mutual
    contracts_more : {S : Store} {t u : Tree} → Contracts E S t u → Contracts E' S t u
    contracts_more beta = beta
    contracts_more (delta {c = c} h) = delta (more c _ h)
    contracts_more (assigned e g) = assigned e g
    contracts_more (iota s o m a len) = iota s (con_more o) m a len
    contracts_more (unfold_rec c us h i o m) = unfold_rec c us (more c _ h) i (con_more o) m
    contracts_more (unfold_co c s h) = unfold_co c s (more c _ h)
    contracts_more (in_dom c) = in_dom (contracts_more c)
    contracts_more (in_cod c) = in_cod (contracts_more c)
    contracts_more (in_type c) = in_type (contracts_more c)
    contracts_more (in_body c) = in_body (contracts_more c)
    contracts_more (in_fun c) = in_fun (contracts_more c)
    contracts_more (in_arg c) = in_arg (contracts_more c)
    contracts_more (in_return c) = in_return (contracts_more c)
    contracts_more (in_matched c) = in_matched (contracts_more c)
    contracts_more (in_arms c) = in_arms (contracts_more_arms c)
    contracts_more (in_terms c) = in_terms (contracts_more_all c)

    contracts_more_all : {S : Store} {t u : Trees} → ContractsIn E S t u → ContractsIn E' S t u
    contracts_more_all (in_first c) = in_first (contracts_more c)
    contracts_more_all (in_rest c) = in_rest (contracts_more_all c)

    contracts_more_arms : {S : Store} {t u : Arms} → ContractsArms E S t u → ContractsArms E' S t u
    contracts_more_arms (in_arm c) = in_arm (contracts_more c)
    contracts_more_arms (in_later c) = in_later (contracts_more_arms c)

  mutual
    conv_more : {S : Store} {t u : Tree} → Conv E S t u → Conv E' S t u
    conv_more same = same
    conv_more (back c) = back (conv_more c)
    conv_more (chain c d) = chain (conv_more c) (conv_more d)
    conv_more (reduct c) = reduct (contracts_more c)
    conv_more (sorts {U = U} {V = V} u v) = sorts (wider U V u) (wider V U v)
    conv_more (prods c d) = prods (conv_more c) (conv_more d)
    conv_more (lams c d) = lams (conv_more c) (conv_more d)
    conv_more (app_conv c d) = app_conv (conv_more c) (conv_more d)
    conv_more (matches c d a) = matches (conv_more c) (conv_more d) (conv_more_arms a)
    conv_more (metas c) = metas (conv_more_all c)

    conv_more_all : {S : Store} {t u : Trees} → ConvAll E S t u → ConvAll E' S t u
    conv_more_all ends = ends
    conv_more_all (items c d) = items (conv_more c) (conv_more_all d)

    conv_more_arms : {S : Store} {t u : Arms} → ConvArms E S t u → ConvArms E' S t u
    conv_more_arms no_arms = no_arms
    conv_more_arms (arms n c d) = arms n (conv_more c) (conv_more_arms d)

  at_most_more : {S : Store} {t u : Tree} → AtMost E S t u → AtMost E' S t u
  at_most_more (conv c) = conv (conv_more c)
  at_most_more (on c d) = on (at_most_more c) (at_most_more d)
  at_most_more prop = prop
  at_most_more (typ {U = U} {V = V} u) = typ (wider U V u)
  at_most_more (cod c) = cod (at_most_more c)

  module _ (w w' : Bool) (mode : w ≡ true → w' ≡ true) where
    pub grows : {S : Store} {Γ : List Tree} {J : Judgement} → Holds E w S Γ J → Holds E' w' S Γ J
    grows c_empty = c_empty
    grows (c_cons c a) = c_cons (grows c) (grows a)
    grows (t_var c l) = t_var (grows c) l
    grows (t_prop c) = t_prop (grows c)
    grows (t_typ c up) = t_typ (grows c) up
    grows (t_prod a b ps) = t_prod (grows a) (grows b) ps
    grows (t_lam a b) = t_lam (grows a) (grows b)
    grows (t_app f x) = t_app (grows f) (grows x)
    grows (t_const {c = c} h g i) = t_const (grows h) (more c _ g) i
    grows (t_ind h o) = t_ind (grows h) (type_more o)
    grows (t_con h o) = t_con (grows h) (con_more o)
    grows (t_match is o n z dc i mt dr al df) = t_match is (type_more o) n z (grows dc) i mt (grows dr) al (grows df)
    grows (f_none c o n) = f_none (grows c) (type_more o) n
    grows (f_arm o i b h) = f_arm (con_more o) i (grows b) (grows h)
    grows (b_more a d) = b_more (grows a) (grows d)
    grows (b_done ps is n d) = b_done ps is n (grows d)
    grows (t_meta c e dc dt len ts) = t_meta (grows c) e (grows dc) (grows dt) len (λ i T l. grows (ts i T l))
    grows (t_sub d le u) = t_sub (grows d) (at_most_more le) (grows u)
    grows (k_sort d) = k_sort (grows d)
    grows (k_of d) = k_of (grows d)
    grows (k_type_reduct d c) = k_type_reduct (grows d) (contracts_more c)
    grows (k_reduct d c) = k_reduct (grows d) (contracts_more c)
    grows (k_prod a b) = k_prod (grows a) (grows b)
    grows (k_dom d) = k_dom (grows d)
    grows (k_cod d) = k_cod (grows d)
    grows (k_param e r d o n i) = k_param e r (grows d) (type_more o) n i
    grows (k_cod_at d x) = k_cod_at (grows d) (grows x)
    grows (k_return d) = k_return (grows d)
    grows (k_matched d) = k_matched (grows d)
    grows (k_stands d) = k_stands (grows d)
    grows (k_type_stands d) = k_type_stands (grows d)
    grows (k_fun d) = k_fun (grows d)
    grows (k_arg d) = k_arg (grows d)
    grows (k_terms d i) = k_terms (grows d) i
    grows (k_prod_type d) = k_prod_type (grows d)
    grows (k_lam_dom d) = k_lam_dom (grows d)
    grows (k_lam_body d) = k_lam_body (grows d)
    grows (k_lam_at d x) = k_lam_at (grows d) (grows x)
    grows (k_drop e i a c d) = k_drop (mode e) i (grows a) (grows c) (grows d)
    grows (k_metas e h o cl d) = k_metas (mode e) h o cl (grows d)
