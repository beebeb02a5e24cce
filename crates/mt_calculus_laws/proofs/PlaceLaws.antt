-- The laws of lifting and of replacement at any place, and of exchange, from a sound environment.
use Rattle.std.proofs.Common.{Bool, false, ◌≡◌, ◌+◌, ℕ, zero, suc, List, [], ◌∷◌, ◌++◌, length, Some, refl, sym, ap, ◌∙◌, subst, subst₂, arith}
use mathlib.Core.Path.{fun_ext}
use Rattle.mt_term.specs.Trees.{Tree, Trees, Var, Meta}
use Rattle.mt_term.specs.Substitution.{ren, up_ren, sub, then_as}
use Rattle.mt_term.specs.Lifting.{raise, put}
use Rattle.mt_term.specs.Declarations.{Environment}
use Rattle.mt_term.specs.Stores.{Declared, Store, Owned}
use Rattle.mt_calculus.specs.Typing.{Look, here, there, Judgement, IsContext, IsType, Has, Holds, c_cons, t_var}
use Rattle.mt_calculus_laws.specs.Laws.{tr_judgement, tr_context}
use Rattle.mt_calculus_laws.specs.Laws.{Lifted, lifted_here, lifted_past, LiftLaw, Replaced, replaced_here, replaced_past, ReplacementLaw, Exchanged, by_number, by_term, exchanged_on, exchanged, ExchangedBy, ExchangeLaw}
use Rattle.mt_term.proofs.Subst.{ren_ren, ren_sub, tr_ren, sub_id, up_shift}
use Rattle.mt_calculus_laws.proofs.Steps.{ClosedEnv}
use Rattle.mt_calculus_laws.proofs.Images.{Image, Num, Put, act_on, act, Given, number, term}
use Rattle.mt_term.proofs.Options.{none_some}
use Rattle.mt_calculus_laws.proofs.Known.{Inv, known}
use Rattle.mt_calculus_laws.proofs.Laws.{renaming, weakening, substitution}
use Rattle.mt_calculus_laws.proofs.Exchange.{exchange}
use Rattle.mt_calculus_laws.proofs.EnvironmentLaws.{closed_environment}

-- a variable's place with further hypotheses
look_more : (Θ Δ : List Tree) (i : ℕ) (T : Tree) → Look Δ i T → Look (Θ ++ Δ) (i + length Θ) (ren (λ j. j + length Θ) T)
look_more [] Δ i T l = subst₂ (Look Δ) zero_more (sym same) l
  where
    zero_more : i ≡ i + 0
    zero_more = omega arith

    same : ren (λ j. j + 0) T ≡ T
    same = ap (λ ξ. ren ξ T) (fun_ext (λ j. omega arith)) ∙ (sym (ren_sub (λ j. j) T) ∙ sub_id T)
look_more (A ∷ Θ) Δ i T l = subst₂ (Look (A ∷ (Θ ++ Δ))) one_more (ren_ren suc (λ j. j + length Θ) T ∙ ap (λ ξ. ren ξ T) (fun_ext (λ j. omega arith))) (there (look_more Θ Δ i T l))
  where
    one_more : suc (i + length Θ) ≡ i + suc (length Θ)
    one_more = omega arith

raised_past : (by k : ℕ) → (λ (i : ℕ). raise by (suc k) i) ≡ up_ren (raise by k)
raised_past by k = refl

look_lifted : {by : ℕ} {Δ : List Tree} {k : ℕ} {Γ Γ' : List Tree} → Lifted by Δ k Γ Γ' → (i : ℕ) (T : Tree) → Look Γ i T → Look Γ' (raise by k i) (ren (raise by k) T)
look_lifted {Δ = Δ} (lifted_here Θ e) i T l = subst (λ n. Look (Θ ++ Δ) (i + n) (ren (λ j. j + n) T)) e (look_more Θ Δ i T l)
look_lifted {by = by} (lifted_past {k = k} {B = B} {Γ' = Γ'} h) i T here = subst (Look (ren (raise by k) B ∷ Γ') zero) (ren_ren suc (raise by k) B ∙ sym (ren_ren (raise by (suc k)) suc B)) here
look_lifted {by = by} (lifted_past {k = k} {B = B} {Γ' = Γ'} h) i T (there {i = j} {T = U} l) = subst (Look (ren (raise by k) B ∷ Γ') (suc (raise by k j))) (ren_ren suc (raise by k) U ∙ sym (ren_ren (raise by (suc k)) suc U)) (there (look_lifted h j U l))

pub lift_law : LiftLaw
lift_law E sound w S own by at Δ Γ Γ' J h c d = renaming E w (closed_environment E sound) S Γ Γ' (raise by at) J own c (look_lifted h) d

module _ (E : Environment) (w : Bool) (closed : ClosedEnv E) (S : Store) (own : Owned S) (A u : Tree) (Δ : List Tree) (typed : Holds E w S Δ (Has u A)) where
  abbrev Values : ℕ → List Tree → List Tree → Type 0
  Values k Γ Γ' = (i : ℕ) (T : Tree) → Look Γ i T → Holds E w S Γ' (Has (put k u i) (sub (put k u) T))

  up_values : (k : ℕ) (Γ Γ' : List Tree) (B : Tree) → Holds E w S Γ' IsContext → Holds E w S Γ' (IsType (sub (put k u) B)) → Values k Γ Γ' → Values (suc k) (B ∷ Γ) (sub (put k u) B ∷ Γ')
  up_values k Γ Γ' B c b v i T here = subst (λ V. Holds E w S (sub (put k u) B ∷ Γ') (Has (Var zero) V)) (sym (up_shift (put k u) B)) (t_var (c_cons c b) here)
  up_values k Γ Γ' B c b v i T (there {i = j} {T = U} l) = subst (λ V. Holds E w S (sub (put k u) B ∷ Γ') (Has (ren suc (put k u j)) V)) (sym (up_shift (put k u) U)) (weakening E w closed S Γ' (sub (put k u) B) (Has (put k u j) (sub (put k u) U)) own c b (v j U l))

  abbrev Goes : ℕ → List Tree → List Tree → Type 0
  Goes k Γ Γ' = Holds E w S Γ' IsContext × Values k Γ Γ'

  goes : {k : ℕ} {Γ Γ' : List Tree} → Replaced A u Δ k Γ Γ' → Inv E w S Γ → Goes k Γ Γ'
  goes replaced_here v = (c, first)
    where
      c : Holds E w S Δ IsContext
      c = (known E w typed).0

      first : Values zero (A ∷ Δ) Δ
      first i T here = subst (λ U. Holds E w S Δ (Has u U)) (sym (tr_ren Meta (then_as u Var) suc A ∙ sub_id A)) typed
      first i T (there {i = j} {T = U} l) = subst (λ V. Holds E w S Δ (Has (Var j) V)) (sym (tr_ren Meta (then_as u Var) suc U ∙ sub_id U)) (t_var c l)
  goes (replaced_past {k = k} {B = B} {Γ = Γ} {Γ' = Γ'} h) v =
      let r = goes h v.2 in
      let b = substitution E w closed S Γ Γ' (put k u) (IsType B) own r.0 r.1 v.1 in
      (c_cons r.0 b, up_values k Γ Γ' B r.0 b r.1)

  pub replaced : {k : ℕ} {Γ Γ' : List Tree} → Replaced A u Δ k Γ Γ' → (J : Judgement) → Holds E w S Γ J → Holds E w S Γ' (tr_judgement Meta (put k u) J)
  replaced {k = k} {Γ = Γ} {Γ' = Γ'} h J d = let r = goes h (known E w d).1 in substitution E w closed S Γ Γ' (put k u) J own r.0 r.1 d

pub replacement_law : ReplacementLaw
replacement_law E sound w S own A u at Δ Γ Γ' J h typed d = replaced E w (closed_environment E sound) S own A u Δ typed h J d

-- what is given, as an image
abbrev image_of_exchanged : Exchanged → Image
image_of_exchanged (by_number m) = Num m
image_of_exchanged (by_term u) = Put u

same_act : (μ : ℕ → Exchanged) → act (λ n. image_of_exchanged (μ n)) ≡ exchanged μ
same_act μ = fun_ext (λ n. fun_ext (λ s. go (μ n) s))
  where
    go : (e : Exchanged) (s : Trees) → act_on (image_of_exchanged e) s ≡ exchanged_on e s
    go (by_number m) s = refl
    go (by_term u) s = refl

pub exchange_law : ExchangeLaw
exchange_law E sound w S S' own own' opens μ given Γ J h =
    subst (λ f. Holds E w S' (tr_context f Γ) (tr_judgement f Var J)) (same_act μ)
    (exchange E w (closed_environment E sound) S (λ n. image_of_exchanged (μ n)) S' (record { owned = own; images = images }) own' opens Γ J h)
  where
    images : (n : ℕ) (d : Declared) → S.at n ≡ Some d → Given E w false S' (act (λ n. image_of_exchanged (μ n))) d (image_of_exchanged (μ n))
    images n d e = go (μ n) (subst (λ f. ExchangedBy E w S' f d (μ n)) (sym (same_act μ)) (given n d e))
      where
        go : (x : Exchanged) → ExchangedBy E w S' (act (λ n. image_of_exchanged (μ n))) d x → Given E w false S' (act (λ n. image_of_exchanged (μ n))) d (image_of_exchanged x)
        go (by_number m) g = number {c = g.0} g.1 g.2 g.3 (λ b k. absurd (none_some (sym (opens n d e) ∙ k)))
        go (by_term v) g = term g.0 (λ b k. absurd (none_some (sym (opens n d e) ∙ k))) g.1
