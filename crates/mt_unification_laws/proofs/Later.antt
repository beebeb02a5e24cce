-- Judgements, conversion and the order of types over a store that extends another; a hypothesis under a convertible type.
use Rattle.std.proofs.Common.{◌≡◌, ℕ, zero, suc, List, ◌∷◌, Some, true, false, refl, sym, ap, ◌∙◌, subst, subst₂}
use Rattle.mt_term.specs.Trees.{Bytes, Tree, Var, Sort, Prod}
use Rattle.mt_term.specs.Substitution.{ren, sub}
use Rattle.mt_term.specs.Declarations.{Environment}
use Rattle.mt_term.specs.Universes.{SortIsAtMost}
use Rattle.mt_term.specs.UniverseOrder.{SortIsSame}
use Rattle.mt_term.specs.declared.universes.Sort.{Sort as AnySort}
use Rattle.mt_term.specs.declared.universes.Sort.TheVariants.{Prop, Typ}
use Rattle.mt_term.specs.declared.modes.Mode.{Mode}
use Rattle.mt_term.specs.declared.modes.Mode.TheVariants.{Equal, AtMost as Below}
use Rattle.mt_term.specs.Stores.{Declared, Store, Owned}
use Rattle.mt_term.specs.StoreChanges.{Kept, Extends}
use Rattle.mt_calculus.specs.Conversion.{Conv, same, back, chain, reduct, sorts, prods, AtMost, conv, on, prop, typ, cod}
use Rattle.mt_calculus.specs.Typing.{Look, here, there, Judgement, IsContext, IsType, Has, Stands, Holds, c_cons, t_var, t_sub, k_reduct}
use Rattle.mt_rules.specs.Comparison.{sorts_fit}
use Rattle.mt_rules_laws.specs.ReductionLaws.{ReachedFrom, itself, further}
use Rattle.mt_term.proofs.Subst.{sub_id}
use Rattle.mt_calculus_laws.proofs.Steps.{Tracks, ClosedEnv, conv_tr, at_most_tr}
use Rattle.mt_calculus_laws.proofs.Images.{Num, act, number}
use Rattle.mt_calculus_laws.proofs.Follow.{over_tracks, conv_ren}
use Rattle.mt_calculus_laws.proofs.Known.{known}
use Rattle.mt_calculus_laws.proofs.Renames.{judgement_id, context_id}
use Rattle.mt_calculus_laws.proofs.Laws.{weakening, substitution, extension}
use Rattle.mt_universe.proofs.UniverseOrderLaws.{sort_at_most_decides, sort_same_decides}
use Rattle.mt_rules_laws.proofs.ComparisonSoundness.{Fit}

pub extends_same : (S : Store) → Extends S S
extends_same S n d e = (d, e, record { context = refl; ty = refl; body = λ b h. h })

kept_twice : {a b c : Declared} → Kept a b → Kept b c → Kept a c
kept_twice p q = record { context = q.context ∙ p.context; ty = q.ty ∙ p.ty; body = λ t h. q.body t (p.body t h) }

pub extends_twice : (S T U : Store) → Extends S T → Extends T U → Extends S U
extends_twice S T U x y n d e = let p = x n d e in let q = y n p.0 p.1 in (q.0, q.1, kept_twice p.2 q.2)

module _ (E : Environment) (closed : ClosedEnv E) where
  module _ (S S' : Store) (own : Owned S) (ext : Extends S S') where
    tracks : Tracks E S (act Num) S'
    tracks = over_tracks E true closed false S Num S' (record {
      owned = own;
      images = λ n d e. let r = ext n d e in number r.1 (r.2.context ∙ sym (context_id E true closed d.context)) (r.2.ty ∙ sym (sub_id d.ty)) (λ b k. r.2.body b k ∙ ap Some (sym (sub_id b)));
    })

    pub conv_later : (t u : Tree) → Conv E S t u → Conv E S' t u
    conv_later t u c = subst₂ (Conv E S') (sub_id t) (sub_id u) (conv_tr E closed S (act Num) S' tracks c Var)

    pub fit_later : (m : Mode) (t u : Tree) → Fit E S m t u → Fit E S' m t u
    fit_later Equal t u c = conv_later t u c
    fit_later Below t u c = subst₂ (AtMost E S') (sub_id t) (sub_id u) (at_most_tr E closed S (act Num) S' tracks c Var)

    pub holds_later : (Γ : List Tree) (J : Judgement) → Holds E true S Γ J → Holds E true S' Γ J
    holds_later Γ J h = extension E true closed S S' own ext Γ J h

  pub in_place : (S : Store) (Γ : List Tree) (A B : Tree) (J : Judgement) → Owned S → Holds E true S Γ (IsType A) → Holds E true S Γ (IsType B) → Conv E S A B → Holds E true S (A ∷ Γ) J → Holds E true S (B ∷ Γ) J
  in_place S Γ A B J own a b c h = subst (Holds E true S (B ∷ Γ)) (judgement_id E true closed J) (substitution E true closed S (A ∷ Γ) (B ∷ Γ) Var J own c' v h)
    where
      g : Holds E true S Γ IsContext
      g = (known E true a).0

      c' : Holds E true S (B ∷ Γ) IsContext
      c' = c_cons g b

      v : (i : ℕ) (T : Tree) → Look (A ∷ Γ) i T → Holds E true S (B ∷ Γ) (Has (Var i) (sub Var T))
      v i T here = subst (λ U. Holds E true S (B ∷ Γ) (Has (Var zero) U)) (sym (sub_id (ren suc A))) (t_sub (t_var c' here) (conv (back (conv_ren E closed S suc A B c))) (weakening E true closed S Γ B (IsType A) own g b a))
      v i T (there {i = j} {T = V} l) = subst (λ U. Holds E true S (B ∷ Γ) (Has (Var (suc j)) U)) (sym (sub_id (ren suc V))) (t_var c' (there l))

module _ (E : Environment) (S : Store) where
  pub fit_via : (m : Mode) {t t' u u' : Tree} → Conv E S t t' → Fit E S m t' u' → Conv E S u' u → Fit E S m t u
  fit_via Equal a r b = chain a (chain r b)
  fit_via Below a r b = on (conv a) (on r (conv b))

  pub fit_products : (m : Mode) (x y : Bytes) (A C B D : Tree) → Conv E S A C → Fit E S m B D → Fit E S m (Prod x A B) (Prod y C D)
  fit_products Equal x y A C B D c r = prods c r
  fit_products Below x y A C B D c r = on (conv (prods c same)) (cod r)

  at_most_sorts : (s r : AnySort) → SortIsAtMost (E.below) s r → AtMost E S (Sort s) (Sort r)
  at_most_sorts Prop r h = prop
  at_most_sorts (Typ u) Prop h = absurd h
  at_most_sorts (Typ u) (Typ v) h = typ h

  same_sorts : (s r : AnySort) → SortIsSame (E.below) s r → Conv E S (Sort s) (Sort r)
  same_sorts Prop Prop h = same
  same_sorts Prop (Typ v) h = absurd h
  same_sorts (Typ u) Prop h = absurd h
  same_sorts (Typ u) (Typ v) h = sorts h.0 h.1

  pub fit_sorts : (m : Mode) (s r : AnySort) → sorts_fit (E.below) m s r ≡ true → Fit E S m (Sort s) (Sort r)
  fit_sorts Equal s r h = same_sorts s r ((sort_same_decides (E.below) s r).0 h)
  fit_sorts Below s r h = at_most_sorts s r ((sort_at_most_decides (E.below) s r).0 h)

  pub reached_conv : {t u : Tree} → ReachedFrom E S t u → Conv E S t u
  reached_conv itself = same
  reached_conv (further r c) = chain (reached_conv r) (reduct c)

  pub reached_stands : {t u : Tree} (Γ : List Tree) → Holds E true S Γ (Stands t) → ReachedFrom E S t u → Holds E true S Γ (Stands u)
  reached_stands Γ h itself = h
  reached_stands Γ h (further r c) = k_reduct (reached_stands Γ h r) c
