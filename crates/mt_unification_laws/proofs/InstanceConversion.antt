-- A term is convertible to its instance.
use Rattle.std.specs.Prelude.{◌≡◌, refl, ℕ, zero, suc, length, Option, Some, None, option_map, slice_get}
use Rattle.std.proofs.Common.{ap}
use Rattle.mt_term.specs.Trees.{Tree, Trees, Arms, Var, Sort, Prod, Lam, App, Const, Ind, Con, Match, Meta, End, Item, NoArm, Arm}
use Rattle.mt_term.specs.Substitution.{fill, beyond}
use Rattle.mt_term.specs.Declarations.{Environment}
use Rattle.mt_term.specs.States.{Metavariable}
use Rattle.mt_term.specs.Stores.{Store, declared_as, store_of}
use Rattle.mt_calculus.specs.Contraction.{assigned}
use Rattle.mt_calculus.specs.Conversion.{Conv, same, chain, reduct, prods, lams, app_conv, matches, metas, ConvAll, ends, items, ConvArms, no_arms, arms}
use Rattle.mt_term.specs.Instancing.{valued, put_values, put_values_all, put_values_arms, assigned_body, body_values, instance}
use Rattle.mt_calculus_laws.proofs.Steps.{ClosedEnv, conv_tr}
use Rattle.mt_calculus_laws.proofs.Follow.{meta_tracks}
use Rattle.mt_unification_rules.specs.Placeholders.{Metas}

-- values that metavariables are convertible to
module _ (E : Environment) (S : Store) (f : ℕ → Option Tree) (each : (n : ℕ) (s : Trees) → Conv E S (Meta n s) (valued (f n) n s)) where
  mutual
    values_conv : (t : Tree) → Conv E S t (put_values f t)
    values_conv (Var i) = same
    values_conv (Sort s) = same
    values_conv (Prod x a b) = prods (values_conv a) (values_conv b)
    values_conv (Lam x a b) = lams (values_conv a) (values_conv b)
    values_conv (App g a) = app_conv (values_conv g) (values_conv a)
    values_conv (Const c) = same
    values_conv (Ind e) = same
    values_conv (Con e k) = same
    values_conv (Match e r c bs) = matches (values_conv r) (values_conv c) (values_conv_arms bs)
    values_conv (Meta n s) = chain (metas (values_conv_all s)) (each n (put_values_all f s))

    values_conv_all : (s : Trees) → ConvAll E S s (put_values_all f s)
    values_conv_all End = ends
    values_conv_all (Item t s) = items (values_conv t) (values_conv_all s)

    values_conv_arms : (bs : Arms) → ConvArms E S bs (put_values_arms f bs)
    values_conv_arms NoArm = no_arms
    values_conv_arms (Arm xs b bs) = arms refl (values_conv b) (values_conv_arms bs)

module _ (E : Environment) (closed : ClosedEnv E) (ms : Metas) where
  body_conv : (k : ℕ) → ((t : Tree) → Conv E (store_of ms) t (put_values (body_values ms k) t)) → (n : ℕ) (s : Trees) → Conv E (store_of ms) (Meta n s) (valued (body_values ms (suc k) n) n s)
  body_conv k ih n s = go (slice_get ms n) refl
    where
      with_body : (m : Metavariable) → slice_get ms n ≡ Some m → (o : Option Tree) → m.body ≡ o → Conv E (store_of ms) (Meta n s) (valued (option_map (put_values (body_values ms k)) o) n s)
      with_body m e None h = same
      with_body m e (Some b) h = chain (reduct (assigned (ap (option_map declared_as) e) h)) (conv_tr E closed (store_of ms) Meta (store_of ms) (meta_tracks E (store_of ms)) (ih b) (fill s beyond))

      go : (o : Option Metavariable) → slice_get ms n ≡ o → Conv E (store_of ms) (Meta n s) (valued (option_map (put_values (body_values ms k)) (assigned_body o)) n s)
      go None e = same
      go (Some m) e = with_body m e m.body refl

  value_conv : (k n : ℕ) (s : Trees) → Conv E (store_of ms) (Meta n s) (valued (body_values ms k n) n s)
  value_conv zero n s = same
  value_conv (suc k) n s = body_conv k (values_conv E (store_of ms) (body_values ms k) (value_conv k)) n s

  pub instance_conv : (t : Tree) → Conv E (store_of ms) t (instance ms t)
  instance_conv t = values_conv E (store_of ms) (body_values ms (length ms)) (value_conv (length ms)) t
