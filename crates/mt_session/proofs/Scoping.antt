-- Terms without metavariables: what they mention, and their instances.
use Rattle.std.proofs.Common.{◌≡◌, inl, inr, ℕ, suc, Option, refl, arith}
use Rattle.mt_term.specs.Trees.{Tree, Arms, Var, Sort, Prod, Lam, App, Const, Ind, Con, Match, Meta, End, NoArm, Arm}
use Rattle.mt_term.specs.Substitution.{under}
use Rattle.mt_term.specs.Stores.{Store, AllMetas, AllMetasArms, Mentions, MentionsArms}
use Rattle.mt_calculus.specs.Scopes.{past_names, Plain, PlainArms}
use Rattle.mt_term.specs.Instances.{InstanceOf, InstanceArms, inst_var, inst_sort, inst_prod, inst_lam, inst_app, inst_const, inst_ind, inst_con, inst_match, inst_no_arm, inst_arm}
use Rattle.mt_term.specs.Instancing.{put_values, put_values_arms}
use Rattle.mt_calculus_laws.proofs.Plain.{plain_fixed}

-- nothing is mentioned
mutual
  pub plain_free : (n : ℕ) (t : Tree) → Plain n t → (m : ℕ) → Mentions m t → ⊥
  plain_free n (Var i) p m h = h
  plain_free n (Sort s) p m h = h
  plain_free n (Prod x A B) p m (inl h) = plain_free n A p.0 m h
  plain_free n (Prod x A B) p m (inr h) = plain_free (suc n) B p.1 m h
  plain_free n (Lam x A b) p m (inl h) = plain_free n A p.0 m h
  plain_free n (Lam x A b) p m (inr h) = plain_free (suc n) b p.1 m h
  plain_free n (App f a) p m (inl h) = plain_free n f p.0 m h
  plain_free n (App f a) p m (inr h) = plain_free n a p.1 m h
  plain_free n (Const c) p m h = h
  plain_free n (Ind e) p m h = h
  plain_free n (Con e k) p m h = h
  plain_free n (Match e R c bs) p m (inl h) = plain_free n R p.0 m h
  plain_free n (Match e R c bs) p m (inr (inl h)) = plain_free n c p.1 m h
  plain_free n (Match e R c bs) p m (inr (inr h)) = plain_free_arms n bs p.2 m h
  plain_free n (Meta k s) p m h = p

  pub plain_free_arms : (n : ℕ) (bs : Arms) → PlainArms n bs → (m : ℕ) → MentionsArms m bs → ⊥
  plain_free_arms n NoArm p m h = h
  plain_free_arms n (Arm xs b bs) p m (inl h) = plain_free (past_names xs n) b p.0 m h
  plain_free_arms n (Arm xs b bs) p m (inr h) = plain_free_arms n bs p.1 m h

mutual
  pub plain_metas : (P : ℕ → Type 0) (n : ℕ) (t : Tree) → Plain n t → AllMetas P t
  plain_metas P n (Var i) p = tt
  plain_metas P n (Sort s) p = tt
  plain_metas P n (Prod x A B) p = (plain_metas P n A p.0, plain_metas P (suc n) B p.1)
  plain_metas P n (Lam x A b) p = (plain_metas P n A p.0, plain_metas P (suc n) b p.1)
  plain_metas P n (App f a) p = (plain_metas P n f p.0, plain_metas P n a p.1)
  plain_metas P n (Const c) p = tt
  plain_metas P n (Ind e) p = tt
  plain_metas P n (Con e k) p = tt
  plain_metas P n (Match e R c bs) p = (plain_metas P n R p.0, plain_metas P n c p.1, plain_metas_arms P n bs p.2)
  plain_metas P n (Meta k s) p = absurd p

  pub plain_metas_arms : (P : ℕ → Type 0) (n : ℕ) (bs : Arms) → PlainArms n bs → AllMetasArms P bs
  plain_metas_arms P n NoArm p = tt
  plain_metas_arms P n (Arm xs b bs) p = (plain_metas P (past_names xs n) b p.0, plain_metas_arms P n bs p.1)

-- such a term is its own instance
mutual
  pub plain_instance : (S : Store) (n : ℕ) (t : Tree) → Plain n t → InstanceOf S t t
  plain_instance S n (Var i) p = inst_var
  plain_instance S n (Sort s) p = inst_sort
  plain_instance S n (Prod x A B) p = inst_prod (plain_instance S n A p.0) (plain_instance S (suc n) B p.1)
  plain_instance S n (Lam x A b) p = inst_lam (plain_instance S n A p.0) (plain_instance S (suc n) b p.1)
  plain_instance S n (App f a) p = inst_app (plain_instance S n f p.0) (plain_instance S n a p.1)
  plain_instance S n (Const c) p = inst_const
  plain_instance S n (Ind e) p = inst_ind
  plain_instance S n (Con e k) p = inst_con
  plain_instance S n (Match e R c bs) p = inst_match (plain_instance S n R p.0) (plain_instance S n c p.1) (plain_instance_arms S n bs p.2)
  plain_instance S n (Meta k s) p = absurd p

  pub plain_instance_arms : (S : Store) (n : ℕ) (bs : Arms) → PlainArms n bs → InstanceArms S bs bs
  plain_instance_arms S n NoArm p = inst_no_arm
  plain_instance_arms S n (Arm xs b bs) p = inst_arm (plain_instance S (past_names xs n) b p.0) (plain_instance_arms S n bs p.1)

mutual
  pub plain_values : (f : ℕ → Option Tree) (n : ℕ) (t : Tree) → Plain n t → put_values f t ≡ t
  plain_values f n (Var i) p = refl
  plain_values f n (Sort s) p = refl
  plain_values f n (Prod x A B) p = let a = plain_values f n A p.0 in let b = plain_values f (suc n) B p.1 in cc
  plain_values f n (Lam x A b) p = let a = plain_values f n A p.0 in let c = plain_values f (suc n) b p.1 in cc
  plain_values f n (App g a) p = let b = plain_values f n g p.0 in let c = plain_values f n a p.1 in cc
  plain_values f n (Const c) p = refl
  plain_values f n (Ind e) p = refl
  plain_values f n (Con e k) p = refl
  plain_values f n (Match e R c bs) p = let a = plain_values f n R p.0 in let b = plain_values f n c p.1 in let d = plain_values_arms f n bs p.2 in cc
  plain_values f n (Meta k s) p = absurd p

  pub plain_values_arms : (f : ℕ → Option Tree) (n : ℕ) (bs : Arms) → PlainArms n bs → put_values_arms f bs ≡ bs
  plain_values_arms f n NoArm p = refl
  plain_values_arms f n (Arm xs b bs) p = let a = plain_values f (past_names xs n) b p.0 in let d = plain_values_arms f n bs p.1 in cc

-- it is the same under no terms
pub plain_under : (t : Tree) → Plain 0 t → under End t ≡ t
plain_under t p = plain_fixed Meta 0 _ (λ i l. absurd (omega arith)) t p
