-- Which metavariables stand in terms that are put together.
use Rattle.std.specs.Prelude.{ℕ, zero, suc, List, [], ◌∷◌}
use Rattle.mt_term.specs.Trees.{Tree, Trees, Arms, Var, Sort, Prod, Lam, App, Const, Ind, Con, Match, Meta, End, Item, NoArm, Arm}
use Rattle.mt_term.specs.Substitution.{then_as, sub, one, fill, apps, all_but, join}
use Rattle.mt_term.specs.Spines.{motive_on, motive_on_all}
use Rattle.mt_term.specs.Stores.{AllMetas, AllMetasIn, AllMetasArms, AllMetasOf}
use Rattle.mt_calculus.specs.Scopes.{past_names, Plain, PlainArms, PlainContext}
use Rattle.mt_calculus.specs.Typing.{Instantiated, at_none, at_more}
use Rattle.mt_calculus_laws.proofs.Agree.{tr_metas}
use Rattle.std.specs.Prelude.{length}

-- a term without metavariables
mutual
  pub plain_metas : (P : ℕ → Type 0) (n : ℕ) (t : Tree) → Plain n t → AllMetas P t
  plain_metas P n (Var i) p = tt
  plain_metas P n (Sort s) p = tt
  plain_metas P n (Prod x A B) p = (plain_metas P n A p.0, plain_metas P (suc n) B p.1)
  plain_metas P n (Lam x A b) p = (plain_metas P n A p.0, plain_metas P (suc n) b p.1)
  plain_metas P n (App f a) p = (plain_metas P n f p.0, plain_metas P n a p.1)
  plain_metas P n (Const c) p = tt
  plain_metas P n (Ind e) p = tt
  plain_metas P n (Con e k) p = tt
  plain_metas P n (Match e R c bs) p = (plain_metas P n R p.0, plain_metas P n c p.1, plain_metas_arms P n bs p.2)
  plain_metas P n (Meta m s) p = absurd p

  pub plain_metas_arms : (P : ℕ → Type 0) (n : ℕ) (bs : Arms) → PlainArms n bs → AllMetasArms P bs
  plain_metas_arms P n NoArm p = tt
  plain_metas_arms P n (Arm xs b bs) p = (plain_metas P (past_names xs n) b p.0, plain_metas_arms P n bs p.1)

pub plain_metas_of : (P : ℕ → Type 0) (Γ : List Tree) → PlainContext Γ → AllMetasOf P Γ
plain_metas_of P [] p = tt
plain_metas_of P (A ∷ Γ) p = (plain_metas P (length Γ) A p.0, plain_metas_of P Γ p.1)

-- where each number will do
mutual
  pub any_metas : (P : ℕ → Type 0) → ((n : ℕ) → P n) → (t : Tree) → AllMetas P t
  any_metas P h (Var i) = tt
  any_metas P h (Sort s) = tt
  any_metas P h (Prod x A B) = (any_metas P h A, any_metas P h B)
  any_metas P h (Lam x A b) = (any_metas P h A, any_metas P h b)
  any_metas P h (App f a) = (any_metas P h f, any_metas P h a)
  any_metas P h (Const c) = tt
  any_metas P h (Ind e) = tt
  any_metas P h (Con e k) = tt
  any_metas P h (Match e R c bs) = (any_metas P h R, any_metas P h c, any_metas_arms P h bs)
  any_metas P h (Meta m s) = (h m, any_metas_all P h s)

  pub any_metas_all : (P : ℕ → Type 0) → ((n : ℕ) → P n) → (s : Trees) → AllMetasIn P s
  any_metas_all P h End = tt
  any_metas_all P h (Item t s) = (any_metas P h t, any_metas_all P h s)

  pub any_metas_arms : (P : ℕ → Type 0) → ((n : ℕ) → P n) → (bs : Arms) → AllMetasArms P bs
  any_metas_arms P h NoArm = tt
  any_metas_arms P h (Arm xs b bs) = (any_metas P h b, any_metas_arms P h bs)

pub any_metas_of : (P : ℕ → Type 0) → ((n : ℕ) → P n) → (Γ : List Tree) → AllMetasOf P Γ
any_metas_of P h [] = tt
any_metas_of P h (A ∷ Γ) = (any_metas P h A, any_metas_of P h Γ)

module _ (P : ℕ → Type 0) where
  pub then_as_metas : (t : Tree) (σ : ℕ → Tree) → AllMetas P t → ((i : ℕ) → AllMetas P (σ i)) → (i : ℕ) → AllMetas P (then_as t σ i)
  then_as_metas t σ a q zero = a
  then_as_metas t σ a q (suc i) = q i

  pub fill_var_metas : (s : Trees) (σ : ℕ → Tree) → AllMetasIn P s → ((i : ℕ) → AllMetas P (σ i)) → (i : ℕ) → AllMetas P (fill s σ i)
  fill_var_metas End σ a q i = q i
  fill_var_metas (Item t s) σ a q i = fill_var_metas s (then_as t σ) a.1 (then_as_metas t σ a.0 q) i

  pub sub_metas : (σ : ℕ → Tree) → ((i : ℕ) → AllMetas P (σ i)) → (t : Tree) → AllMetas P t → AllMetas P (sub σ t)
  sub_metas σ q t a = tr_metas P P Meta (λ n s p r. (p, r)) σ q t a

  pub one_metas : (a b : Tree) → AllMetas P a → AllMetas P b → AllMetas P (sub (one a) b)
  one_metas a b p q = sub_metas (one a) (then_as_metas a Var p (λ i. tt)) b q

  pub apps_metas : (t : Tree) (s : Trees) → AllMetas P t → AllMetasIn P s → AllMetas P (apps t s)
  apps_metas t End a b = a
  apps_metas t (Item u s) a b = apps_metas (App t u) s (a, b.0) b.1

  pub head_metas : (t : Tree) (s : Trees) → AllMetas P (apps t s) → AllMetas P t × AllMetasIn P s
  head_metas t End a = (a, tt)
  head_metas t (Item u s) a = let r = head_metas (App t u) s a in (r.0.0, (r.0.1, r.1))

  pub all_but_metas : (p : ℕ) (s : Trees) → AllMetasIn P s → AllMetasIn P (all_but p s)
  all_but_metas zero s a = a
  all_but_metas (suc p) End a = tt
  all_but_metas (suc p) (Item t s) a = all_but_metas p s a.1

  pub join_metas : (s r : Trees) → AllMetasIn P s → AllMetasIn P r → AllMetasIn P (join s r)
  join_metas End r a b = b
  join_metas (Item t s) r a b = (a.0, join_metas s r a.1 b)

  pub unjoin_metas : (s r : Trees) → AllMetasIn P (join s r) → AllMetasIn P s × AllMetasIn P r
  unjoin_metas End r a = (tt, a)
  unjoin_metas (Item t s) r a = let b = unjoin_metas s r a.1 in ((a.0, b.0), b.1)

  pub motive_on_metas : (r u : Tree) → AllMetas P r → AllMetas P u → AllMetas P (motive_on r u)
  motive_on_metas (Lam x a b) u p q = one_metas u b q p.1
  motive_on_metas (Var i) u p q = (p, q)
  motive_on_metas (Sort s) u p q = (p, q)
  motive_on_metas (Prod x a b) u p q = (p, q)
  motive_on_metas (App f a) u p q = (p, q)
  motive_on_metas (Const c) u p q = (p, q)
  motive_on_metas (Ind e) u p q = (p, q)
  motive_on_metas (Con e k) u p q = (p, q)
  motive_on_metas (Match e r c bs) u p q = (p, q)
  motive_on_metas (Meta n s) u p q = (p, q)

  pub motive_on_all_metas : (r : Tree) (s : Trees) → AllMetas P r → AllMetasIn P s → AllMetas P (motive_on_all r s)
  motive_on_all_metas r End p q = p
  motive_on_all_metas r (Item u s) p q = motive_on_all_metas (motive_on r u) s (motive_on_metas r u p q.0) q.1

  pub inst_metas : {T : Tree} {s : Trees} {U : Tree} → Instantiated T s U → AllMetas P T → AllMetasIn P s → AllMetas P U
  inst_metas at_none a b = a
  inst_metas (at_more {B = B} {a = u} i) a b = inst_metas i (one_metas u B b.0 a.1) b.1
