-- The context of a judgement is a context, and so is each part of it.
use Rattle.std.proofs.Common.{Bool, true, ◌≡◌, ℕ, List, [], ◌∷◌}
use Rattle.mt_term.specs.Trees.{Tree}
use Rattle.mt_term.specs.Substitution.{up}
use Rattle.mt_term.specs.Declarations.{Environment}
use Rattle.mt_term.specs.Stores.{Store, AllMetasOf}
use Rattle.mt_calculus.specs.Typing.{ins, Insert, put, keep, Judgement, IsContext, IsType, ren_judgement, Widens, Holds, c_empty, c_cons, t_var, t_prop, t_typ, t_prod, t_lam, t_app, t_const, t_ind, t_con, t_match, f_none, f_arm, b_more, b_done, t_meta, t_sub, k_sort, k_of, k_type_reduct, k_reduct, k_prod, k_dom, k_cod, k_cod_at, k_param, k_stands, k_type_stands, k_fun, k_arg, k_terms, k_return, k_matched, k_prod_type, k_lam_dom, k_lam_body, k_lam_at, k_drop, k_metas}

abbrev pub Inv : Environment → Bool → Store → List Tree → Type 0
Inv E w S [] = Unit {0}
Inv E w S (A ∷ Γ) = Holds E w S Γ IsContext × Holds E w S Γ (IsType A) × Inv E w S Γ

abbrev pub Known : Environment → Bool → Store → List Tree → Type 0
Known E w S Γ = Holds E w S Γ IsContext × Inv E w S Γ

module _ (E : Environment) (w : Bool) where
  inv_drop : (S : Store) {A : Tree} {Δ : List Tree} {k : ℕ} {Γ Γ' : List Tree} → w ≡ true → Insert A Δ k Γ Γ' → Holds E w S Δ (IsType A) → Inv E w S Γ' → Inv E w S Γ
  inv_drop S e put a v = v.2
  inv_drop S e (keep i) a v = (k_drop e i a v.0 v.0, k_drop e i a v.0 v.1, inv_drop S e i a v.2)

  inv_metas : (S S' : Store) → w ≡ true → Widens S S' → (Γ : List Tree) → AllMetasOf (λ n. S.at n ≡ S'.at n) Γ → Inv E w S' Γ → Inv E w S Γ
  inv_metas S S' e h [] o v = tt
  inv_metas S S' e h (A ∷ Γ) o v = (k_metas e h o.1 tt v.0, k_metas e h o.1 o.0 v.1, inv_metas S S' e h Γ o.1 v.2)

  pub known : {S : Store} {Γ : List Tree} {J : Judgement} → Holds E w S Γ J → Known E w S Γ
  known c_empty = (c_empty, tt)
  known (c_cons c a) = (c_cons c a, (c, a, (known c).1))
  known (t_var c l) = known c
  known (t_prop c) = known c
  known (t_typ c up) = known c
  known (t_prod a b ps) = known a
  known (t_lam a b) = known a
  known (t_app f a) = known f
  known (t_const c e i) = known c
  known (t_ind c e) = known c
  known (t_con c e) = known c
  known (t_match is g n z dc i mt dr al df) = known dc
  known (f_none c e n) = known c
  known (f_arm o i b h) = known b
  known (b_more a b) = known a
  known (b_done ps is n d) = known d
  known (k_param e r d g n i) = known d
  known (k_return d) = known d
  known (k_matched d) = known d
  known (t_meta c e dc dt len ts) = known c
  known (t_sub h le u) = known h
  known (k_sort h) = known h
  known (k_of h) = known h
  known (k_type_reduct h c) = known h
  known (k_reduct h c) = known h
  known (k_prod a b) = known a
  known (k_dom h) = known h
  known (k_cod h) = let k = known h in (c_cons k.0 (k_dom h), (k.0, k_dom h, k.1))
  known (k_stands h) = known h
  known (k_type_stands h) = known h
  known (k_fun h) = known h
  known (k_arg h) = known h
  known (k_terms h i) = known h
  known (k_prod_type h) = known h
  known (k_lam_dom h) = known h
  known (k_lam_body h) = let k = known h in (c_cons k.0 (k_lam_dom h), (k.0, k_lam_dom h, k.1))
  known (k_lam_at h g) = known h
  known (k_cod_at h g) = known h
  known (k_drop {S = S} e i a c d) = (k_drop e i a c c, inv_drop S e i a (known d).1)
  known (k_metas {S = S} {S' = S'} {Γ = Γ} e h o j d) = let k = known d in (k_metas e h o tt k.0, inv_metas S S' e h Γ o k.1)

  -- the hypothesis that was put in is a type: so the dropping rule needs no premise for it
  type_of_put : (S : Store) {A : Tree} {Δ : List Tree} {k : ℕ} {Γ Γ' : List Tree} → Insert A Δ k Γ Γ' → Inv E w S Γ' → Holds E w S Δ (IsType A)
  type_of_put S put v = v.1
  type_of_put S (keep i) v = type_of_put S i v.2

  pub drop : (S : Store) {A : Tree} {Δ : List Tree} {k : ℕ} {Γ Γ' : List Tree} {J : Judgement} → w ≡ true → Insert A Δ k Γ Γ' → Holds E w S Γ' IsContext → Holds E w S Γ' (ren_judgement (ins k) J) → Holds E w S Γ J
  drop S e i c d = k_drop e i (type_of_put S i (known c).1) c d
