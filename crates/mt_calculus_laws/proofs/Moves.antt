-- The induction over derivations, once for all laws.
use Rattle.std.proofs.Common.{Bool, subst₂, true, ◌≡◌, ℕ, zero, List, [], ◌∷◌, length, Some, sym, ap, ◌∙◌, subst}
use Rattle.mt_term.proofs.Subst.{Steady, tr_one, tr_apps, tr_join, spine_tr, up_tr, count_tr}
use Rattle.mt_calculus_laws.proofs.TransformedParts.{instantiated_tr, motive_tr}
use Rattle.mt_calculus_laws.proofs.Steps.{Reduces, done, more, Tracks, ClosedEnv, contracts_tr, at_most_tr}
use Rattle.mt_term.specs.Trees.{Tree, Trees, Bytes, Var, Prod, Lam, App, Const, Ind, Con, Match, Meta, Item}
use Rattle.mt_term.specs.Substitution.{up, ups, tr, tr_all, tr_arms, fill, beyond, under, apps, join, count}
use Rattle.mt_term.specs.Declarations.{Environment}
use Rattle.mt_term.specs.Stores.{Declared, Store, AllMetasOf}
use Rattle.mt_calculus.specs.Typing.{Look, ins, Insert, Judgement, IsContext, IsType, Has, Stands, Body, ren_judgement, JudgementMetas, Widens, In, Instantiated, MotiveType, Holds, c_empty, c_cons, t_var, t_prop, t_typ, t_prod, t_lam, t_app, t_const, t_ind, t_con, t_match, f_none, f_arm, b_more, b_done, t_meta, t_sub, k_sort, k_of, k_type_reduct, k_reduct, k_prod, k_dom, k_cod, k_cod_at, k_param, k_stands, k_type_stands, k_fun, k_arg, k_terms, k_return, k_matched, k_prod_type, k_lam_dom, k_lam_body, k_lam_at, k_drop, k_metas}
use Rattle.mt_calculus_laws.specs.Laws.{tr_judgement}

-- what a transformation is: from a store and a context to a store and a context
abbrev pub Kind : Type 1
Kind = Store → List Tree → (ℕ → Trees → Tree) → (ℕ → Tree) → Store → List Tree → Type 0

-- the judgement goes over by every transformation of the kind
abbrev pub Goes : Environment → Bool → Kind → Store → List Tree → Judgement → Type 0
Goes E free Ok S Γ J = (f : ℕ → Trees → Tree) (σ : ℕ → Tree) (S' : Store) (Θ : List Tree) → Ok S Γ f σ S' Θ → Holds E free S' Θ (tr_judgement f σ J)

-- What a kind owes: the rules in which contexts and stores play a part.
pub record Motion (E : Environment) (free : Bool) (Ok : Kind) : Type 0 where
  pub tracks : (S : Store) (Γ : List Tree) (f : ℕ → Trees → Tree) (σ : ℕ → Tree) (S' : Store) (Θ : List Tree) → Ok S Γ f σ S' Θ → Tracks E S f S'
  pub empty : (S : Store) → Goes E free Ok S [] IsContext
  pub hypothesis : (S : Store) (Γ : List Tree) (A : Tree) → Goes E free Ok S Γ IsContext → Goes E free Ok S Γ (IsType A) → Goes E free Ok S (A ∷ Γ) IsContext
  pub variable : (S : Store) (Γ : List Tree) (i : ℕ) (T : Tree) → Goes E free Ok S Γ IsContext → Look Γ i T → Goes E free Ok S Γ (Has (Var i) T)
  pub binder : (S : Store) (Γ : List Tree) (f : ℕ → Trees → Tree) (σ : ℕ → Tree) (S' : Store) (Θ : List Tree) (A : Tree) → Ok S Γ f σ S' Θ → Holds E free S' Θ (IsType (tr f σ A)) → Ok S (A ∷ Γ) f (up σ) S' (tr f σ A ∷ Θ)
  pub meta : (S : Store) (Γ : List Tree) (n : ℕ) (s : Trees) (d : Declared) → S.at n ≡ Some d → Holds E free S (d.context) IsContext → Goes E free Ok S (d.context) IsContext → Holds E free S (d.context) (IsType (d.ty)) → Goes E free Ok S (d.context) (IsType (d.ty)) → count s ≡ length (d.context) → Goes E free Ok S Γ IsContext → ((i : ℕ) (T : Tree) → Look (d.context) i T → Goes E free Ok S Γ (Has (fill s beyond i) (under s T))) → Goes E free Ok S Γ (Has (Meta n s) (under s (d.ty)))
  pub terms : (S : Store) (Γ : List Tree) (n : ℕ) (s : Trees) (t : Tree) → Holds E free S Γ (Stands (Meta n s)) → Goes E free Ok S Γ (Stands (Meta n s)) → In t s → Goes E free Ok S Γ (Stands t)
  pub codomain : (S : Store) (Γ : List Tree) (x : Bytes) (A B : Tree) → Goes E free Ok S Γ (IsType (Prod x A B)) → Goes E free Ok S (A ∷ Γ) (IsType B)
  pub inner : (S : Store) (Γ : List Tree) (x : Bytes) (A b : Tree) → Goes E free Ok S Γ (Stands (Lam x A b)) → Goes E free Ok S (A ∷ Γ) (Stands b)
  pub drops : (S : Store) (Γ Γ' Δ : List Tree) (k : ℕ) (A : Tree) (J : Judgement) → free ≡ true → Insert A Δ k Γ Γ' → Goes E free Ok S Δ (IsType A) → Goes E free Ok S Γ' IsContext → Goes E free Ok S Γ' (ren_judgement (ins k) J) → Goes E free Ok S Γ J
  pub narrows : (S S⁺ : Store) (Γ : List Tree) (J : Judgement) → free ≡ true → Widens S S⁺ → AllMetasOf (λ n. S.at n ≡ S⁺.at n) Γ → JudgementMetas (λ n. S.at n ≡ S⁺.at n) J → Goes E free Ok S⁺ Γ J → Goes E free Ok S Γ J

module _ (E : Environment) (free : Bool) (closed : ClosedEnv E) (Ok : Kind) (m : Motion E free Ok) where
  type_steps : {S : Store} {Γ : List Tree} {t u : Tree} → Reduces E S t u → Holds E free S Γ (IsType t) → Holds E free S Γ (IsType u)
  type_steps done h = h
  type_steps (more c r) h = type_steps r (k_type_reduct h c)

  steps : {S : Store} {Γ : List Tree} {t u : Tree} → Reduces E S t u → Holds E free S Γ (Stands t) → Holds E free S Γ (Stands u)
  steps done h = h
  steps (more c r) h = steps r (k_reduct h c)

  pub moves : {S : Store} {Γ : List Tree} {J : Judgement} → Holds E free S Γ J → Goes E free Ok S Γ J
  moves (c_empty {S = S}) f σ S' Θ ok = m.empty S f σ S' Θ ok
  moves (c_cons {S = S} {Γ = Γ} {A = A} c a) f σ S' Θ ok = m.hypothesis S Γ A (moves c) (moves a) f σ S' Θ ok
  moves (t_var {S = S} {Γ = Γ} {i = i} {T = T} c l) f σ S' Θ ok = m.variable S Γ i T (moves c) l f σ S' Θ ok
  moves (t_prop c) f σ S' Θ ok = t_prop (moves c f σ S' Θ ok)
  moves (t_typ c up) f σ S' Θ ok = t_typ (moves c f σ S' Θ ok) up
  moves (t_prod {S = S} {Γ = Γ} {A = A} a b ps) f σ S' Θ ok = let a' = moves a f σ S' Θ ok in t_prod a' (moves b f (up σ) S' (tr f σ A ∷ Θ) (m.binder S Γ f σ S' Θ A ok (k_sort a'))) ps
  moves (t_lam {S = S} {Γ = Γ} {A = A} a b) f σ S' Θ ok = let a' = moves a f σ S' Θ ok in t_lam a' (moves b f (up σ) S' (tr f σ A ∷ Θ) (m.binder S Γ f σ S' Θ A ok a'))
  moves (t_app {S = S} {Γ = Γ} {f = g} {a = a} {B = B} d e) f σ S' Θ ok = subst (λ T. Holds E free S' Θ (Has (App (tr f σ g) (tr f σ a)) T)) (sym (tr_one f ((m.tracks S Γ f σ S' Θ ok).steady) σ a B)) (t_app (moves d f σ S' Θ ok) (moves e f σ S' Θ ok))
  moves (t_const {c = c} {e = e} h g i) f σ S' Θ ok = subst (λ T. Holds E free S' Θ (Has (Const c) T)) (sym (closed.types c e g f σ)) (t_const (moves h f σ S' Θ ok) g i)
  moves (t_ind {e = e} h o) f σ S' Θ ok = subst (λ T. Holds E free S' Θ (Has (Ind e) T)) (sym (closed.types e _ o.entry f σ)) (t_ind (moves h f σ S' Θ ok) o)
  moves (t_con {e = e} {k = k} {C = C} h o) f σ S' Θ ok = subst (λ T. Holds E free S' Θ (Has (Con e k) T)) (sym (closed.cons e k C o f σ)) (t_con (moves h f σ S' Θ ok) o)
  moves (t_match {S = S} {Γ = Γ} {e = e} {R = R} {c = c} {U = U} {M = M} {ps = ps} is {bs = bs} {s = s} {r = r} o n z dc i mt dr al df) f σ S' Θ ok =
      let st : Steady f = (m.tracks S Γ f σ S' Θ ok).steady in
      let c' = subst (λ V. Holds E free S' Θ (Has (tr f σ c) V)) (spine_tr f σ e ps is) (moves dc f σ S' Θ ok) in
      let i' = subst (λ V. Instantiated V (tr_all f σ ps) (tr f σ U)) (closed.types e _ o.entry f σ) (instantiated_tr f st σ i) in
      let mt' = subst (λ h. MotiveType s (tr f σ U) h r (tr f σ M)) (tr_apps f σ (Ind e) ps) (motive_tr f st σ mt) in
      subst (λ V. Holds E free S' Θ (Has (Match e (tr f σ R) (tr f σ c) (tr_arms f σ bs)) (App V (tr f σ c)))) (sym (tr_apps f σ R is))
      (t_match (tr_all f σ is) o (count_tr f σ ps ∙ n) (ap count (sym (tr_join f σ ps is)) ∙ count_tr f σ (join ps is) ∙ z) c' i' mt' (moves dr f σ S' Θ ok) al (moves df f σ S' Θ ok))
  moves (f_none h g n) f σ S' Θ ok = f_none (moves h f σ S' Θ ok) g n
  moves (f_arm {S = S} {Γ = Γ} {e = e} {k = k} {C = C} {R = R} {U = U} {b = b} {ps = ps} {xs = xs} o i db df) f σ S' Θ ok =
      let st : Steady f = (m.tracks S Γ f σ S' Θ ok).steady in
      let i' = subst (λ V. Instantiated V (tr_all f σ ps) (tr f σ U)) (closed.cons e k C o f σ) (instantiated_tr f st σ i) in
      f_arm o i' (subst (λ c. Holds E free S' Θ (Body e o.params (tr f σ R) c (tr f σ U) xs (tr f (ups xs σ) b))) (tr_apps f σ (Con e k) ps) (moves db f σ S' Θ ok)) (moves df f σ S' Θ ok)
  moves (b_more {S = S} {Γ = Γ} {e = e} {p = p} {R = R} {c = c} {A = A} {B = B} {b = b} {xs = xs} a d) f σ S' Θ ok =
      let st : Steady f = (m.tracks S Γ f σ S' Θ ok).steady in
      let a' = moves a f σ S' Θ ok in
      b_more a' (subst₂ (λ r v. Holds E free S' (tr f σ A ∷ Θ) (Body e p r (App v (Var zero)) (tr f (up σ) B) xs (tr f (ups xs (up σ)) b))) (up_tr f st σ R) (up_tr f st σ c) (moves d f (up σ) S' (tr f σ A ∷ Θ) (m.binder S Γ f σ S' Θ A ok a')))
  moves (b_done {e = e} {p = p} {R = R} {c = c} {b = b} ps is n d) f σ S' Θ ok =
      let d' = subst (λ V. Holds E free S' Θ (Has (tr f σ b) (App V (tr f σ c)))) (tr_apps f σ R is) (moves d f σ S' Θ ok) in
      subst (λ V. Holds E free S' Θ (Body e p (tr f σ R) (tr f σ c) V [] (tr f σ b))) (sym (spine_tr f σ e ps is)) (b_done (tr_all f σ ps) (tr_all f σ is) (count_tr f σ ps ∙ n) d')
  moves (k_param {S = S} {Γ = Γ} e {y = y} {A = A} {B = B} {a = a} {s = s} r d o n i) f σ S' Θ ok =
      let st : Steady f = (m.tracks S Γ f σ S' Θ ok).steady in
      let d' = subst (λ V. Holds E free S' Θ (IsType V)) (tr_apps f σ (Ind e) (join s (Item a r)) ∙ ap (apps (Ind e)) (tr_join f σ s (Item a r))) (moves d f σ S' Θ ok) in
      k_param e (tr_all f σ r) d' o (ap count (sym (tr_join f σ s (Item a r))) ∙ count_tr f σ (join s (Item a r)) ∙ n) (subst (λ V. Instantiated V (tr_all f σ s) (Prod y (tr f σ A) (tr f (up σ) B))) (closed.types e _ o.entry f σ) (instantiated_tr f st σ i))
  moves (k_return d) f σ S' Θ ok = k_return (moves d f σ S' Θ ok)
  moves (k_matched d) f σ S' Θ ok = k_matched (moves d f σ S' Θ ok)
  moves (t_meta {S = S} {Γ = Γ} {n = n} {s = s} {d = d} c at dc dt len ts) f σ S' Θ ok = m.meta S Γ n s d at dc (moves dc) dt (moves dt) len (moves c) (λ i T l. moves (ts i T l)) f σ S' Θ ok
  moves (t_sub {S = S} {Γ = Γ} d le u) f σ S' Θ ok = t_sub (moves d f σ S' Θ ok) (at_most_tr E closed S f S' (m.tracks S Γ f σ S' Θ ok) le σ) (moves u f σ S' Θ ok)
  moves (k_sort d) f σ S' Θ ok = k_sort (moves d f σ S' Θ ok)
  moves (k_of d) f σ S' Θ ok = k_of (moves d f σ S' Θ ok)
  moves (k_type_reduct {S = S} {Γ = Γ} d c) f σ S' Θ ok = type_steps (contracts_tr E closed S f S' (m.tracks S Γ f σ S' Θ ok) c σ) (moves d f σ S' Θ ok)
  moves (k_reduct {S = S} {Γ = Γ} d c) f σ S' Θ ok = steps (contracts_tr E closed S f S' (m.tracks S Γ f σ S' Θ ok) c σ) (moves d f σ S' Θ ok)
  moves (k_prod {S = S} {Γ = Γ} {A = A} a b) f σ S' Θ ok = let a' = moves a f σ S' Θ ok in k_prod a' (moves b f (up σ) S' (tr f σ A ∷ Θ) (m.binder S Γ f σ S' Θ A ok a'))
  moves (k_dom d) f σ S' Θ ok = k_dom (moves d f σ S' Θ ok)
  moves (k_cod {S = S} {Γ = Γ} {x = x} {A = A} {B = B} d) f σ S' Θ ok = m.codomain S Γ x A B (moves d) f σ S' Θ ok
  moves (k_stands d) f σ S' Θ ok = k_stands (moves d f σ S' Θ ok)
  moves (k_type_stands d) f σ S' Θ ok = k_type_stands (moves d f σ S' Θ ok)
  moves (k_fun d) f σ S' Θ ok = k_fun (moves d f σ S' Θ ok)
  moves (k_arg d) f σ S' Θ ok = k_arg (moves d f σ S' Θ ok)
  moves (k_terms {S = S} {Γ = Γ} {n = n} {s = s} {t = t} d i) f σ S' Θ ok = m.terms S Γ n s t d (moves d) i f σ S' Θ ok
  moves (k_prod_type d) f σ S' Θ ok = k_prod_type (moves d f σ S' Θ ok)
  moves (k_lam_dom d) f σ S' Θ ok = k_lam_dom (moves d f σ S' Θ ok)
  moves (k_lam_body {S = S} {Γ = Γ} {x = x} {A = A} {b = b} d) f σ S' Θ ok = m.inner S Γ x A b (moves d) f σ S' Θ ok
  moves (k_cod_at {S = S} {Γ = Γ} {A = A} {B = b} {a = a} d e) f σ S' Θ ok = subst (λ T. Holds E free S' Θ (IsType T)) (sym (tr_one f ((m.tracks S Γ f σ S' Θ ok).steady) σ a b)) (k_cod_at (moves d f σ S' Θ ok) (moves e f σ S' Θ ok))
  moves (k_lam_at {S = S} {Γ = Γ} {A = A} {b = b} {a = a} d e) f σ S' Θ ok = subst (λ T. Holds E free S' Θ (Stands T)) (sym (tr_one f ((m.tracks S Γ f σ S' Θ ok).steady) σ a b)) (k_lam_at (moves d f σ S' Θ ok) (moves e f σ S' Θ ok))
  moves (k_drop {S = S} {Γ = Γ} {Γ' = Γ'} {Δ = Δ} {k = k} {A = A} {J = J} e i a c d) f σ S' Θ ok = m.drops S Γ Γ' Δ k A J e i (moves a) (moves c) (moves d) f σ S' Θ ok
  moves (k_metas {S = S} {S' = S⁺} {Γ = Γ} {J = J} e w own claim d) f σ S' Θ ok = m.narrows S S⁺ Γ J e w own claim (moves d) f σ S' Θ ok
